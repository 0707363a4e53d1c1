use Rattle.std.proofs.Common.{◌≡◌, ◌≤◌}
use Rattle.text_fields.specs.Tokens.{only_blanks}
use Rattle.text_fields.proofs.tokens.has_only_blanks.Given as goal

abbrev pub invariant-loop-place : goal.invariant-loop-place
invariant-loop-place l = record { within : l.place ≤ l.at; same : only_blanks l.bytes l.at ≡ only_blanks l.bytes l.place }

abbrev pub decreases-loop-place : goal.decreases-loop-place
decreases-loop-place l = l.place
