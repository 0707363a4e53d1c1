use Rattle.std.proofs.Common.{◌≡◌, ℕ, ◌∙◌, sym, subst, false, arith}
use Rattle.std.specs.List.{list_any}
use Rattle.certs.specs.Ended.{numbers_from}
use Rattle.quick_answers.proofs.Marks.{has_mark_of, marked, none_marked}
use Rattle.quick_answers.proofs.alone.has_mark.Goals as goal

pub returns-then-contains : goal.returns-then-contains
returns-then-contains c = marked c.args.set.now.members c.loop-column.column (sym c.contains.ensures ∙ c.if-contains.true)

pub returns : goal.returns
returns c =
    let set = c.args.set.now in
    let past = c.loop-column-test.false in
    let end = c.loop-column.auto.column-end in
    let same = c.requires in
    let all : c.loop-column.column ≡ set.columns = omega (arith, past, end, same) in
    none_marked set c.stands_in_order.ensures.possible (subst (λ (n : ℕ). list_any (has_mark_of set.members) (numbers_from 0 n) ≡ false) all c.loop-column.invariant)
