use Rattle.std.proofs.Common.{ℕ, List, cond, nat_eq, ◌<◌, length, [], ◌∷◌, ◌++◌, map, sym, ap, ◌∙◌, subst, arith, length-set}
use Rattle.std.proofs.lemmas.List.{take_all}
use Rattle.std.proofs.lemmas.Option.{slice_get_within, get_or_from_slice_get}
use Rattle.rational.specs.Rational.{ℚ}
use Rattle.name_map.proofs.NameLists.{map_push}
use Rattle.mps_reader.specs.Gathered.{cells_shown, cell_shown, cells_in}
use Rattle.mps_reader.proofs.Spread.{put_one, cells_more, all_empty, past}
use Rattle.mps_reader.proofs.terms.by_column.Goals as goal

pub loop-place-init : goal.loop-place-init
loop-place-init c = record {
  len = c.in_ok-lists.ensures.len;
  each = λ k h. all_empty (cells_shown c.in_ok-lists.lists.items) k c.in_ok-lists.ensures.each;
}

pub loop-place-preserved : goal.loop-place-preserved
loop-place-preserved c =
    let es = c.args.entries.now.entries in
    let at = sym c.in-Some.ensures.entry in
    let in_es = slice_get_within es c.loop-place.place _ at in
    let e : (ℕ × ℕ) × ℚ = (c.in-Some.key.now, c.in-Some.value.now) in
    let is = get_or_from_slice_get es c.loop-place.place _ e at in
    let column : c.in-Some.key.now.1 < c.args.columns = subst (λ (x : (ℕ × ℕ) × ℚ). x.0.1 < c.args.columns) is (c.requires c.loop-place.place e in_es) in
    let inside : c.in-Some.key.now.1 < length c.loop-place.lists.items = omega arith in
    record {
      len = simp length-set c.loop-place.invariant.len;
      each = λ k h. put_one (λ v. map cell_shown v.items) c.loop-place.lists.items c.in-Some.key.now.1 (c.in-Some.key.now.0, c.in-Some.value.now) c.index_mut.result.now c.push.new.self inside c.index_mut.ensures.value
          (ap (map cell_shown) c.in_ok-push.ensures.items ∙ map_push cell_shown c.index_mut.result.now.items _) k (omega arith)
          ∙ ap (λ (xs : List (ℕ × ℚ)). xs ++ cond (nat_eq k c.in-Some.key.now.1) ((c.in-Some.key.now.0, c.in-Some.value.now) ∷ []) []) (c.loop-place.invariant.each k h) ∙ sym (cells_more es c.loop-place.place e k in_es is);
    }

pub returns-in_default : goal.returns-in_default
returns-in_default c = absurd (past c.args.entries.now.entries c.loop-place.place (omega (arith, c.len-place-end.ensures.len)) (sym c.in_default.ensures.entry))

pub returns-clause-each : goal.returns-clause-each
returns-clause-each c = λ k h.
    c.loop-place.invariant.each k h ∙ ap (cells_in k) (take_all c.loop-place.place c.args.entries.now.entries (omega (arith, c.len-place-end.ensures.len)))
