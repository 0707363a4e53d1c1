use Rattle.std.proofs.Common.{◌≡◌, ◌+◌, ◌≤◌, length, filter, not, drop}
use Rattle.rational.specs.Rational.{zero_ℚ, eq_ℚ}
use Rattle.report_text.proofs.layout.count_values.Given as goal

-- those that are left are still to be counted
abbrev pub invariant-loop-value : goal.invariant-loop-value
invariant-loop-value l = record {
  few : l.count ≤ l.value-index;
  left : l.count + length (filter (λ v. not (eq_ℚ v zero_ℚ)) (drop l.value-index l.values)) ≡ length (filter (λ v. not (eq_ℚ v zero_ℚ)) l.values);
}
