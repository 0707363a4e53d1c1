use Rattle.std.proofs.Common.{◌≡◌, ◌∙◌, ap, sym, true, false}
use Rattle.std.specs.Option.{option_map}
use Rattle.std.proofs.lemmas.Result.{err_from_is_err_and}
use Rattle.rational.specs.Rational.{ℚ, ◌/ℚ◌, lt_q, zero_ℚ}
use Rattle.presolve.proofs.Single.{work_none, work_lower, work_upper, made_straight, made_turned}
use Rattle.presolve.proofs.limits.single_limits.Goals as goal

pub returns-in_err-lo : goal.returns-in_err-lo
returns-in_err-lo c =
    let p = err_from_is_err_and c.from_residual.result c.from_residual.ensures.1 in
    let l = ap (λ z. z.lower) c.sides.view_is in
    let u = ap (λ z. z.upper) c.sides.view_is in
    rw (p.1, p.2) (work_lower c.args.sides c.args.factor c.sides.inside.lo c.sides.inside.up l u _ c.in_err-lo.ensures)

pub returns-in_err-up : goal.returns-in_err-up
returns-in_err-up c =
    let p = err_from_is_err_and c.from_residual-in_err-up.result c.from_residual-in_err-up.ensures.1 in
    let l = ap (λ z. z.lower) c.sides.view_is in
    let u = ap (λ z. z.upper) c.sides.view_is in
    rw (p.1, p.2) (work_upper c.args.sides c.args.factor c.sides.inside.lo c.sides.inside.up l u _ c.in_ok-lo.ensures.1 c.in_err-up.ensures)

pub returns-then-is_less : goal.returns-then-is_less
returns-then-is_less c =
    let l = ap (λ z. z.lower) c.sides.view_is in
    let u = ap (λ z. z.upper) c.sides.view_is in
    let above : lt_q zero_ℚ c.args.factor ≡ true = ap (λ q. lt_q q c.args.factor) (sym c.whole.ensures) ∙ sym c.is_less.ensures ∙ c.if-is_less.true in (
      made_straight c.args.sides c.args.factor c.in_ok-lo.lo c.in_ok-up.up above
          (c.in_ok-lo.ensures.0 ∙ ap (option_map (λ (s : ℚ). s /ℚ c.args.factor)) l) (c.in_ok-up.ensures.0 ∙ ap (option_map (λ (s : ℚ). s /ℚ c.args.factor)) u),
      work_none c.args.sides c.args.factor c.sides.inside.lo c.sides.inside.up l u c.in_ok-lo.ensures.1 c.in_ok-up.ensures.1,
    )

pub returns : goal.returns
returns c =
    let l = ap (λ z. z.lower) c.sides.view_is in
    let u = ap (λ z. z.upper) c.sides.view_is in
    let above : lt_q zero_ℚ c.args.factor ≡ false = ap (λ q. lt_q q c.args.factor) (sym c.whole.ensures) ∙ sym c.is_less.ensures ∙ c.if-is_less.false in (
      made_turned c.args.sides c.args.factor c.in_ok-lo.lo c.in_ok-up.up above
          (c.in_ok-lo.ensures.0 ∙ ap (option_map (λ (s : ℚ). s /ℚ c.args.factor)) l) (c.in_ok-up.ensures.0 ∙ ap (option_map (λ (s : ℚ). s /ℚ c.args.factor)) u),
      work_none c.args.sides c.args.factor c.sides.inside.lo c.sides.inside.up l u c.in_ok-lo.ensures.1 c.in_ok-up.ensures.1,
    )
