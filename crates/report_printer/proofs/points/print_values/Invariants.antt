use Rattle.std.proofs.Common.{◌≡◌, ◌<◌, ◌++◌, ℕ, drop, get_or}
use Rattle.rational.specs.Rational.{ℚ}
use Rattle.report_text.specs.Form.{IsWithinLimit}
use Rattle.report_text.specs.Grammar.{value_phrases, phrases_text}
use Rattle.report_printer.proofs.points.print_values.Given as goal

-- the lines that are left complete the text, and the values so far are within the limit
abbrev pub invariant-loop-column : goal.invariant-loop-column
invariant-loop-column l = record {
  left : l.into.items ++ phrases_text l.model (value_phrases l.column (drop l.column l.values)) ≡ l.initial.into.items ++ phrases_text l.model (value_phrases 0 l.values);
  within : (k : ℕ) (d : ℚ) → k < l.column → IsWithinLimit (get_or l.values k d);
}
