use Rattle.std.proofs.Common.{sym, ap, Some}
use Rattle.mps_reader.specs.Sides.{row_sides, is_range_wide}
use Rattle.mps_reader.specs.Sides.Move.{Down, Up}
use Rattle.mps_reader.proofs.Sided.{sides_moved, sides_stay}
use Rattle.mps_reader.proofs.sides.sides_with.Goals as goal

pub returns-in_default : goal.returns-in_default
unfolding row_sides is_range_wide
returns-in_default c =
    let e = c.in_default.is in
    (ap (λ right. is_range_wide c.args.kind right c.args.range.now) e, sym (ap (λ right. row_sides c.args.kind right (Some c.args.range.now)) e))

pub returns-in-Stays : goal.returns-in-Stays
returns-in-Stays c = sides_stay c.args.kind c.args.right c.in-Some.value c.args.range.now c.plain.result c.in-Some.is c.in-Stays.ensures c.plain.ensures

pub returns-in-Down : goal.returns-in-Down
returns-in-Down c = sides_moved c.args.kind c.args.right c.in-Some.value c.args.range.now c.bound-far.result c.below.result Down c.in-Some.is c.bound-far.ensures c.in-Down.ensures (c.below.ensures c.args.kind)

pub returns-in-Up : goal.returns-in-Up
returns-in-Up c = sides_moved c.args.kind c.args.right c.in-Some.value c.args.range.now c.bound-far.result c.above.result Up c.in-Some.is c.bound-far.ensures c.in-Up.ensures (c.above.ensures c.args.kind)
