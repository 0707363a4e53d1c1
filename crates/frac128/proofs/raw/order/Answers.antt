use Rattle.std.proofs.Common.{ℕ, pos, ◌*ℤ◌, ap, sym, ◌∙◌}
use Rattle.std.proofs.lemmas.Int.{to_z-of_z}
use Rattle.std.specs.Int.{w128}
use Rattle.std.specs.Ordering.{int_cmp}
use Rattle.rational.proofs.Compare.{int_cmp-scale}
use Rattle.frac128.proofs.raw.order.Goals as goal

pub returns-then-b-d : goal.returns-then-b-d
returns-then-b-d c =
    let x = c.args.a in
    let y = c.args.c in
    (rw (to_z-of_z w128 x c.ranges.a, to_z-of_z w128 y c.ranges.c) at c.cmp.ensures)
    ∙ (sym (int_cmp-scale x y c.args.b c.requires.left) ∙ ap (λ (k : ℕ). int_cmp (x *ℤ pos k) (y *ℤ pos c.args.b)) c.if-b-d.true)
