use Rattle.std.proofs.Common.{◌+◌, not, length, filter, ap, ◌∙◌}
use Rattle.rational.specs.Rational.{zero_ℚ, eq_ℚ}
use Rattle.report_text.proofs.Lengths.{point_count}
use Rattle.report_text.proofs.layout.point_length.Goals as goal

pub returns : goal.returns
returns c = ap (λ n. 1 + n) (c.count_values.ensures.count ∙ ap (λ l. length (filter (λ v. not (eq_ℚ v zero_ℚ)) l)) c.as_slice.ensures) ∙ point_count c.args.point.now
