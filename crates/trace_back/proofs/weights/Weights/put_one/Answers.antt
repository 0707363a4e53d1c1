use Rattle.std.proofs.Common.{sym, ◌∙◌, ap, cond}
use Rattle.rational.specs.Rational.{zero_ℚ}
use Rattle.lp_model.specs.declared.members.Side.{Side}
use Rattle.lp_model.specs.declared.members.Side.TheVariants.{Lo, Up}
use Rattle.reductions.specs.Limited.{is_side}
use Rattle.trace_back.specs.Held.{on_side, weights_in}
use Rattle.trace_back.proofs.Writes.{now_sides}
use Rattle.trace_back.proofs.weights.Weights.put_one.Goals as goal

pub returns-in-Lo : goal.returns-in-Lo
returns-in-Lo c =
    let q = c.args.weight in
    now_sides _ _ c.args.variable _ _ (on_side c.args.side q) (weights_in c.args.self.now) c.put_sides.ensures
    (ap (λ (s : Side). cond (is_side Lo s) q zero_ℚ) (sym c.in-Lo.is))
    (c.whole.ensures ∙ ap (λ (s : Side). cond (is_side Up s) q zero_ℚ) (sym c.in-Lo.is))

pub returns-in-Up : goal.returns-in-Up
returns-in-Up c =
    let q = c.args.weight in
    now_sides _ _ c.args.variable _ _ (on_side c.args.side q) (weights_in c.args.self.now) c.put_sides-in-Up.ensures
    (c.whole-in-Up.ensures ∙ ap (λ (s : Side). cond (is_side Lo s) q zero_ℚ) (sym c.in-Up.is))
    (ap (λ (s : Side). cond (is_side Up s) q zero_ℚ) (sym c.in-Up.is))
