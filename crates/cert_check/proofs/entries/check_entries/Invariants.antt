use Rattle.std.proofs.Common.{◌≡◌, [], take}
use Rattle.report_text.specs.Turns.{entry_commands}
use Rattle.report_text.specs.Session.{session_at}
use Rattle.cert_check.specs.Trials.{entries_trials}
use Rattle.cert_check.specs.Sparse.{IsKept}
use Rattle.cert_check.specs.Stops.{first_stop}
use Rattle.cert_check.proofs.Entered.{left}
use Rattle.cert_check.proofs.entries.check_entries.Given as goal

-- the session is the one after the commands of the entries that were checked, and those that are left stop the check as all do
abbrev pub invariant-loop-entry : goal.invariant-loop-entry
invariant-loop-entry l = record {
  at : l.session ≡ session_at l.fn.session.model (entry_commands (take l.entry-index l.entries));
  kept : IsKept l.session.model l.kept;
  rest : first_stop (left l.fn.session.model l.entries l.entry-index) ≡ first_stop (entries_trials l.fn.session.model [] l.entries);
}
