use Rattle.std.proofs.Common.{◌≡◌, ◌+◌, drop}
use Rattle.cert_check.specs.Trials.{paired_trials, same_note}
use Rattle.cert_check.specs.Stops.{first_stop}
use Rattle.cert_check.proofs.notes.check_notes.Given as goal

-- the notes that are left stop the check as all do
abbrev pub invariant-loop-place : goal.invariant-loop-place
invariant-loop-place l = record {
  line : l.line ≡ 2 + l.place;
  left : first_stop (paired_trials same_note l.line (drop l.place l.printed) (drop l.place l.known)) ≡ first_stop (paired_trials same_note 2 l.printed l.known);
}
