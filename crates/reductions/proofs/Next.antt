-- What comes next is found, nothing crosses then, and a stage comes to one end only.
use Rattle.std.proofs.Common.{◌≡◌, refl, sym, ◌∙◌, ap, subst, ℕ, ◌+◌, ◌-◌, ◌<◌, ◌≤◌, get_or, ltb, Bool, true, false, List, [], ◌∷◌, length, Option, Some, None, inl, inr, arith, true≢false}
use Rattle.std.specs.Option.{option_or}
use Rattle.std.specs.Prelude.{All}
use Rattle.std.proofs.lemmas.Bool.{cases_lt, cond-false, le-ltb}
use Rattle.std.proofs.lemmas.List.{get_or_past}
use Rattle.certs.proofs.Translated.{length_numbers, number_at}
use Rattle.std.proofs.lemmas.List.Elements.{All-nil, All-cons, All-get_or}
use Rattle.certs.specs.Ended.{numbers_from}
use Rattle.certs.specs.Plain.{crosses, crossing_shares, are_crossed}
use Rattle.certs.specs.System.{LinearSystem, no_limits, empty_system_row}
use Rattle.reductions.specs.declared.steps.Step.{Step}
use Rattle.reductions.specs.Laws.{IsFound, NextLaw, OneReductionLaw}
use Rattle.reductions.specs.Reduction.{Rule, found_at, places, first_found, next_found, Reduces, after_step}
use Rattle.reductions.specs.Reduction.Rule.{CrossingLimits, EmptyRow, SingletonRow, FixedColumn, ImpossibleRow, RedundantRow, ForcingRow, DoubletonRow}
use Rattle.reductions.specs.Rules.{Found, crossing_at, where_found}
use Rattle.reductions.specs.Rules.Found.{Goes, Decides}
use Rattle.reductions.specs.Stage.{Stage}

pub none_some : {B : Type 0} {b : B} → None ≡ Some b → ⊥
none_some e = true≢false (ap (λ o. elim o [ None ↦ true | Some x ↦ false ]) e)

pub goes_same : {s t : Step} → Some (Goes s) ≡ Some (Goes t) → s ≡ t
goes_same {s} {t} e = ap (λ o. elim o [ None ↦ s | Some f ↦ elim f [ Goes q ↦ q | Decides q ↦ s ] ]) e

pub goes_decides : {s : Step} {q : List _} → Some (Decides q) ≡ Some (Goes s) → ⊥
goes_decides e = true≢false (ap (λ o. elim o [ None ↦ true | Some f ↦ elim f [ Goes q ↦ false | Decides q ↦ true ] ]) e)

-- what is found first is found at some item
pub record FoundAtItem {A : Type 0} (find : A → Option Found) (found : Found) : Type 0 where
  pub item : A
  pub there : find item ≡ Some found

pub first_is : {A : Type 0} (find : A → Option Found) (list : List A) (found : Found) → first_found find list ≡ Some found → FoundAtItem find found
first_is find [] found e = absurd (none_some e)
first_is find (a ∷ rest) found e = by (find a) refl (first_is find rest found) e
  where
    by : (o : Option Found) → find a ≡ o → (first_found find rest ≡ Some found → FoundAtItem find found) → option_or o (first_found find rest) ≡ Some found → FoundAtItem find found
    by None q more e = more e
    by (Some f) q more e = record { item = a; there = q ∙ e }

-- where nothing is found, nothing is found anywhere in the list
pub none_found : {A : Type 0} (find : A → Option Found) (list : List A) → first_found find list ≡ None → All (λ a. find a ≡ None) list
none_found find [] e = All-nil (λ a. find a ≡ None)
none_found find (a ∷ rest) e = by (find a) refl (none_found find rest) e
  where
    by : (o : Option Found) → find a ≡ o → (first_found find rest ≡ None → All (λ a. find a ≡ None) rest) → option_or o (first_found find rest) ≡ None → All (λ a. find a ≡ None) (a ∷ rest)
    by None q more e = All-cons (λ a. find a ≡ None) a rest q (more e)
    by (Some f) q more e = absurd (none_some (sym e))

-- ---- a row that is found makes a step of its rule
-- limits that cross never make one
pub crossing_goes : (system : LinearSystem) (v : ℕ) (step : Step) → crossing_at system v ≡ Some (Goes step) → ⊥
crossing_goes system v step e = by (crosses system v) e
  where
    by : (b : Bool) → where_found b (Decides (crossing_shares v)) ≡ Some (Goes step) → ⊥
    by true e = goes_decides e
    by false e = none_some e

crossing_none : (system : LinearSystem) (v : ℕ) → crossing_at system v ≡ None → crosses system v ≡ false
crossing_none system v e = by (crosses system v) e
  where
    by : (b : Bool) → where_found b (Decides (crossing_shares v)) ≡ None → b ≡ false
    by true e = absurd (none_some (sym e))
    by false e = refl

-- past the last variable there are no limits
past : (system : LinearSystem) (v : ℕ) → length system.columns + length system.rows ≤ v → crosses system v ≡ false
past system v l =
    let n : ℕ = length system.columns in
    ap (λ limits. are_crossed limits.lower limits.upper)
    (cond-false (ltb v n) (get_or system.columns v no_limits) (get_or system.rows (v - n) empty_system_row).limits (le-ltb v n (omega arith))
    ∙ ap (λ r. r.limits) (get_or_past system.rows (v - n) empty_system_row (omega arith)))

-- no limits cross where the first rule finds nothing
nothing_crosses : (stage : Stage) → first_found (found_at CrossingLimits stage) (places CrossingLimits stage.system) ≡ None → (v : ℕ) → crosses stage.system v ≡ false
nothing_crosses stage e v =
    let all : ℕ = length stage.system.columns + length stage.system.rows in
    elim (cases_lt v all) [
      | inl l ↦
          (let number : get_or (numbers_from 0 all) v 0 ≡ v = number_at 0 all v 0 l ∙ (let z : 0 + v ≡ v = omega arith in z) in
          crossing_none stage.system v
          (ap (crossing_at stage.system) (sym number)
          ∙ All-get_or (λ k. found_at CrossingLimits stage k ≡ None) (numbers_from 0 all) v 0 (subst (λ n. v < n) (sym (length_numbers 0 all)) l) (none_found (found_at CrossingLimits stage) (places CrossingLimits stage.system) e)))
      | inr l ↦ past stage.system v (omega arith)
    ]

-- ---- what comes next
pub next : NextLaw
next stage step e = by (first_found (found_at CrossingLimits stage) (places CrossingLimits stage.system)) refl e
  where
    later : List Rule
    later = EmptyRow ∷ SingletonRow ∷ FixedColumn ∷ ImpossibleRow ∷ RedundantRow ∷ ForcingRow ∷ DoubletonRow ∷ []

    found : (rule : Rule) → first_found (found_at rule stage) (places rule stage.system) ≡ Some (Goes step) → ((v : ℕ) → crosses stage.system v ≡ false) → IsFound stage step
    found rule q none =
        let it = first_is (found_at rule stage) (places rule stage.system) (Goes step) q in
        record { rule = rule; place = it.item; found = it.there; uncrossed = none }

    by : (o : Option Found) → first_found (found_at CrossingLimits stage) (places CrossingLimits stage.system) ≡ o
        → option_or o (first_found (λ rule. first_found (found_at rule stage) (places rule stage.system)) later) ≡ Some (Goes step) → IsFound stage step
    by None q e =
        let it = first_is (λ rule. first_found (found_at rule stage) (places rule stage.system)) later (Goes step) e in
        found it.item it.there (nothing_crosses stage q)
    by (Some f) q e =
        let it = first_is (found_at CrossingLimits stage) (places CrossingLimits stage.system) (Goes step) (q ∙ e) in
        absurd (crossing_goes stage.system it.item step it.there)

-- a stage comes to one end only
pub one_reduction : OneReductionLaw
one_reduction stage last other [] [] p q end ends = (refl, (sym p ∙ q))
one_reduction stage last other [] (step ∷ steps) p q end ends = absurd (end step (subst (λ s. next_found s ≡ Some (Goes step)) p q.0))
one_reduction stage last other (step ∷ steps) [] p q end ends = absurd (ends step (subst (λ s. next_found s ≡ Some (Goes step)) q p.0))
one_reduction stage last other (s ∷ steps) (t ∷ others) p q end ends =
    let same : s ≡ t = goes_same (sym p.0 ∙ q.0) in
    let rest = one_reduction (after_step s stage) last other steps others p.1 (subst (λ z. Reduces (after_step z stage) others other) (sym same) q.1) end ends in
    ((ap (λ z. z ∷ steps) same ∙ ap (λ z. t ∷ z) rest.0), rest.1)
