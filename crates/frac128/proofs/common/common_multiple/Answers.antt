use Rattle.std.proofs.Common.{◌≡◌, ◌*◌, ◌/◌, ◌<◌, ◌^◌, ◌∙◌, ap, sym, subst, refl, arith}
use Rattle.std.proofs.Math.Nat.{dvd_of_mod-eq-zero, dvd_refl}
use Rattle.algebra.specs.Gcd.{lcm}
use Rattle.algebra.proofs.Gcd.{gcd_pos_by, lcm-dvd_left, lcm-dvd_right, lcm_pos}
use Rattle.frac128.specs.Form.{IsCommon}
use Rattle.frac128.proofs.common.common_multiple.Goals as goal

pub nonzero_div-a : goal.nonzero_div-a
nonzero_div-a c = gcd_pos_by _ _ _ c.word_divisor.ensures c.requires.right

pub returns-then-a-b-eq0 : goal.returns-then-a-b-eq0
returns-then-a-b-eq0 c = record {
  positive = c.requires.left;
  left = dvd_refl c.args.a;
  right = dvd_of_mod-eq-zero c.args.b c.if-a-b-eq0.true;
  fits = c.ranges.a.fits;
}

pub returns : goal.returns
returns c =
    let e = c.in_ok-least.ensures in
    let least : c.in_ok-least.least ≡ lcm c.args.a c.args.b = e.1 ∙ ap (λ g. c.args.a / g * c.args.b) c.word_divisor.ensures in
    subst (IsCommon c.args.a c.args.b) (sym least) (record {
      positive = lcm_pos c.args.a c.args.b c.requires.left c.requires.right;
      left = lcm-dvd_left c.args.a c.args.b c.requires.right;
      right = lcm-dvd_right c.args.a c.args.b;
      fits = subst (λ n. n < 2 ^ 64) (sym e.1 ∙ least) e.0;
    })
