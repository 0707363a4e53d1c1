use Rattle.std.proofs.Common.{◌≡◌, List, [], ◌∷◌, length, map, refl, sym, ◌∙◌, ap, arith}
use Rattle.std.specs.Vec.Iter.{into_iter_items}
use Rattle.certs.specs.Rows.{row_of}
use Rattle.presolve.specs.Plans.{put_all}
use Rattle.presolve.proofs.making.put_rows.Goals as goal

nothing_left : {X : Type 0} (l : List X) → length l ≡ 0 → l ≡ []
nothing_left [] h = refl
nothing_left (x ∷ xs) h = absurd (omega arith)

pub loop-new-preserved : goal.loop-new-preserved
loop-new-preserved c =
    let at = c.loop-new in
    let x = c.in-Some.new in
    let steps : into_iter_items at.new-iterator ≡ x ∷ into_iter_items c.next.new.self = c.in-Some.ensures.steps.0 in
    record {
      left = ap (put_all (into_iter_items c.next.new.self)) c.put_row.ensures ∙ ap (λ l. put_all l (map row_of at.rows)) (sym steps) ∙ at.invariant.left;
      count =
          let was = at.invariant.count in
          let gone = c.in-Some.ensures.steps.1 in
          let short = ap length steps in
          omega arith;
    }

pub returns : goal.returns
returns c =
    let at = c.loop-new in
    let none = c.in-None.ensures.steps in
    let empty : into_iter_items at.new-iterator ≡ [] = nothing_left _ (sym at.invariant.count ∙ none.0) in
    ap (λ l. put_all l (map row_of at.rows)) (sym empty) ∙ at.invariant.left
