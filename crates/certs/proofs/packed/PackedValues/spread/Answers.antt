use Rattle.std.proofs.Common.{◌≡◌, ◌<◌, ◌≤◌, ◌∙◌, ◌+◌, ℕ, sym, ap, subst, All, Contains, List, [], ◌∷◌, ◌++◌, length, drop, replicate, get_or, set, arith, inl, inr}
use Rattle.std.proofs.lemmas.Bool.{cases_lt, cases_eq}
use Rattle.std.proofs.lemmas.List.{ext_get_or, get_or-set_same, get_or-set_other, at_drop_more, at_drop_all, length-set}
use Rattle.std.proofs.lemmas.List.Elements.{All-push, Contains-append_left, Contains-push}
use Rattle.rational.specs.Rational.{ℚ, zero_ℚ}
use Rattle.certs.specs.Packed.{unpacked}
use Rattle.certs.proofs.Unpacked.{stands, counted, skipped, here, left, only_zeros}
use Rattle.certs.proofs.packed.PackedValues.spread.Goals as goal

pub overflow_add-at : goal.overflow_add-at
overflow_add-at c =
    let long = counted _ _ _ _ _ (stands c.args.self.now c.loop-entry.at c.loop-entry.invariant.left.0 c.as_slice-entry-items.result.now c.loop-entry.entry-index c.entry-item.result c.loop-entry.invariant.left.1 c.loop-entry-test.true c.entry-item.is) c.loop-entry.invariant.within in
    omega (arith, long, c.requires.few)

pub offset_bounds-values-at : goal.offset_bounds-values-at
offset_bounds-values-at c =
    let long = counted _ _ _ _ _ (stands c.args.self.now c.loop-entry.at c.loop-entry.invariant.left.0 c.as_slice-entry-items.result.now c.loop-entry.entry-index c.entry-item.result c.loop-entry.invariant.left.1 c.loop-entry-test.true c.entry-item.is) c.loop-entry.invariant.within in
    omega (arith, long, c.requires.few)

pub bounds-values-at : goal.bounds-values-at
bounds-values-at c =
    let long = counted _ _ _ _ _ (stands c.args.self.now c.loop-entry.at c.loop-entry.invariant.left.0 c.as_slice-entry-items.result.now c.loop-entry.entry-index c.entry-item.result c.loop-entry.invariant.left.1 c.loop-entry-test.true c.entry-item.is) c.loop-entry.invariant.within in
    omega (arith, long, c.loop-entry.invariant.sized)

pub overflow_cast-at : goal.overflow_cast-at
overflow_cast-at c =
    let long = counted _ _ _ _ _ (stands c.args.self.now c.loop-entry.at c.loop-entry.invariant.left.0 c.as_slice-entry-items.result.now c.loop-entry.entry-index c.entry-item.result c.loop-entry.invariant.left.1 c.loop-entry-test.true c.entry-item.is) c.loop-entry.invariant.within in
    omega (arith, long, c.requires.few)

pub overflow_add-at-in-loop-entry : goal.overflow_add-at-in-loop-entry
overflow_add-at-in-loop-entry c =
    let long = counted _ _ _ _ _ (stands c.args.self.now c.loop-entry.at c.loop-entry.invariant.left.0 c.as_slice-entry-items.result.now c.loop-entry.entry-index c.entry-item.result c.loop-entry.invariant.left.1 c.loop-entry-test.true c.entry-item.is) c.loop-entry.invariant.within in
    omega (arith, long, c.requires.few)

pub loop-entry-preserved : goal.loop-entry-preserved
loop-entry-preserved c =
    let i = c.loop-entry.invariant in
    let whole : List ℚ = c.args.self.now in
    let values : List ℚ = c.loop-entry.values in
    let v : ℚ = c.entry-item.result.value in
    let start = c.loop-entry.at in
    let at = start + c.entry-item.result.zeros in
    let next = stands c.args.self.now c.loop-entry.at c.loop-entry.invariant.left.0 c.as_slice-entry-items.result.now c.loop-entry.entry-index c.entry-item.result c.loop-entry.invariant.left.1 c.loop-entry-test.true c.entry-item.is in
    let long = counted _ _ _ _ _ next i.within in
    let value = here _ _ _ _ _ next i.within in
    let pushed = c.in_ok-push.ensures.items in
    record {
      within = omega (arith, long);
      sized = length-set values at v ∙ i.sized;
      left = (i.left.0, left _ _ _ _ _ next i.within);
      before = λ j l. elim (cases_eq j at) [
        | inl e ↦ ap (λ k. get_or (set values at v) k zero_ℚ) e ∙ get_or-set_same values at v zero_ℚ (omega (arith, long, i.sized)) ∙ sym value ∙ sym (ap (λ k. get_or whole k zero_ℚ) e)
        | inr ne ↦ get_or-set_other values at j v zero_ℚ ne ∙ elim (cases_lt j start) [
          | inl low ↦ i.before j low
          | inr high ↦ i.behind j high ∙ sym (skipped _ _ _ _ _ next i.within j high (omega arith))
        ]
      ];
      behind = λ j l. get_or-set_other values at j v zero_ℚ (λ e. omega arith) ∙ i.behind j (omega arith);
      told = λ j l ne. elim (cases_eq j at) [
        | inl e ↦ subst (λ (xs : List ℕ). Contains xs j) (sym pushed) (subst (Contains (c.loop-entry.columns.items ++ at ∷ [])) (sym e) (Contains-push c.loop-entry.columns.items at))
        | inr other ↦ elim (cases_lt j start) [
          | inl low ↦ subst (λ (xs : List ℕ). Contains xs j) (sym pushed) (Contains-append_left c.loop-entry.columns.items (at ∷ []) j (i.told j low ne))
          | inr high ↦ absurd (ne (skipped _ _ _ _ _ next i.within j high (omega arith)))
        ]
      ];
      columns = subst (All (λ k. k < length whole)) (sym pushed) (All-push (λ k. k < length whole) c.loop-entry.columns.items at i.columns (omega (arith, long)));
    }

pub returns-clause-values : goal.returns-clause-values
returns-clause-values c =
    let i = c.loop-entry.invariant in
    let zeros = i.left.1 ∙ at_drop_all (λ es. unpacked es i.left.0) c.as_slice-entry-items.result.now c.loop-entry.entry-index c.loop-entry-test.false in
    ext_get_or zero_ℚ c.loop-entry.values c.args.self.now i.sized (λ j l. elim (cases_lt j c.loop-entry.at) [
      | inl low ↦ i.before j low
      | inr high ↦ i.behind j high ∙ sym (only_zeros _ _ _ zeros j high)
    ])

pub returns-clause-columns : goal.returns-clause-columns
returns-clause-columns c j ne =
    let i = c.loop-entry.invariant in
    let zeros = i.left.1 ∙ at_drop_all (λ es. unpacked es i.left.0) c.as_slice-entry-items.result.now c.loop-entry.entry-index c.loop-entry-test.false in
    elim (cases_lt j c.loop-entry.at) [
      | inl low ↦ i.told j low ne
      | inr high ↦ absurd (ne (only_zeros _ _ _ zeros j high))
    ]
