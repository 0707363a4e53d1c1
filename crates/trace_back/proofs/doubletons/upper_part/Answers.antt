use Rattle.std.proofs.Common.{sym, ◌∙◌, ap}
use Rattle.std.proofs.lemmas.Result.{err_from_is_err_and}
use Rattle.rational.specs.Rational.{◌+ℚ◌, ◌*ℚ◌}
use Rattle.frac128.specs.declared.Op.TheVariants.{Plus}
use Rattle.frac128.specs.Limit.{limit}
use Rattle.frac128.specs.Calculation.{first_wide}
use Rattle.trace_back.proofs.Pairs.{plus_zero, zero_product, not_made, quotient_some, quotient_none, work_some, work_none}
use Rattle.trace_back.proofs.Works.{quotient_first, quotient_second, quotient_third, quotient_all}
use Rattle.trace_back.proofs.doubletons.upper_part.Goals as goal

pub returns-in_default : goal.returns-in_default
returns-in_default c =
    let d = c.args.pair.now in
    let none = not_made d.upper c.in_default.not-Some in
    let q = quotient_none d.upper none d.a c.args.weight in (
      plus_zero c.args.so_far ∙ ap (λ z. c.args.so_far +ℚ z) (sym q),
      (c.whole.ensures ∙ zero_product d.b ∙ ap (λ z. d.b *ℚ z) (sym q), work_none d.upper none Plus d c.args.so_far c.args.weight),
    )

pub returns-in_err-quotient : goal.returns-in_err-quotient
returns-in_err-quotient c =
    let d = c.args.pair.now in
    let p = err_from_is_err_and c.from_residual.result c.from_residual.ensures.1 in
    rw (p.1, p.2)
    (ap (first_wide limit) (work_some d.upper _ c.in-Some.is Plus d c.args.so_far c.args.weight)
    ∙ quotient_first Plus c.args.so_far c.args.weight d.a d.b _ c.in_err-quotient.ensures)

pub returns-in_err-times : goal.returns-in_err-times
returns-in_err-times c =
    let d = c.args.pair.now in
    let p = err_from_is_err_and c.from_residual-in_err-times.result c.from_residual-in_err-times.ensures.1 in
    rw (p.1, p.2)
    (ap (first_wide limit) (work_some d.upper _ c.in-Some.is Plus d c.args.so_far c.args.weight)
    ∙ quotient_second Plus c.args.so_far c.args.weight d.a d.b _ c.in_ok-quotient.ensures.0 c.in_ok-quotient.ensures.1 _ c.in_err-times.ensures)

pub returns-in_err-worth : goal.returns-in_err-worth
returns-in_err-worth c =
    let d = c.args.pair.now in
    let p = err_from_is_err_and c.from_residual-in_err-worth.result c.from_residual-in_err-worth.ensures.1 in
    rw (p.1, p.2)
    (ap (first_wide limit) (work_some d.upper _ c.in-Some.is Plus d c.args.so_far c.args.weight)
    ∙ quotient_third Plus c.args.so_far c.args.weight d.a d.b _ c.in_ok-quotient.ensures.0 c.in_ok-quotient.ensures.1 c.in_ok-times.ensures.1 _ c.in_err-worth.ensures)

pub returns : goal.returns
returns c =
    let d = c.args.pair.now in
    let q = c.in_ok-quotient.ensures.0 ∙ sym (quotient_some d.upper _ c.in-Some.is d.a c.args.weight) in (
      c.in_ok-times.ensures.0 ∙ ap (λ z. c.args.so_far +ℚ z) q,
      (
        c.in_ok-worth.ensures.0 ∙ ap (λ z. d.b *ℚ z) q,
        ap (first_wide limit) (work_some d.upper _ c.in-Some.is Plus d c.args.so_far c.args.weight)
            ∙ quotient_all Plus c.args.so_far c.args.weight d.a d.b _ c.in_ok-quotient.ensures.0 c.in_ok-quotient.ensures.1 c.in_ok-times.ensures.1 c.in_ok-worth.ensures.1,
      ),
    )
