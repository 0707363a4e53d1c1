use Rattle.std.proofs.Common.{◌≡◌, ◌<◌, ◌^◌, take}
use Rattle.report_text.specs.Session.{session_at}
use Rattle.analysis.specs.Answers.{settings_of}
use Rattle.analysis.proofs.Sofar.{HasPut}
use Rattle.analysis.proofs.pieces.put_entries.Given as goal

-- the entries of the commands passed were put, and the session stands behind these commands
abbrev pub invariant-loop-command : goal.invariant-loop-command
invariant-loop-command g l = record {
  put : HasPut g.W.Sink.faults g.W.Sink.taken l.initial.out l.out l.initial.session.model l.commands l.command-index (settings_of l.settings) l.some_unmet;
  stands : l.session ≡ session_at l.initial.session.model (take l.command-index l.commands);
  few : l.settings.budgets.pivots < 2 ^ 63;
}
