use Rattle.std.proofs.Common.{◌≡◌, List, length}
use Rattle.lp_model.specs.Program.{Program}
use Rattle.report_text.specs.declared.report.Command.{Command}
use Rattle.report_text.specs.Session.{session_at}
use Rattle.report_text.proofs.Taken.{StandsOn}
use Rattle.report_text.proofs.command_session.CommandSession.rewind.Given as goal

abbrev pub invariant-loop-self : goal.invariant-loop-self
invariant-loop-self l = (first : Program) (before : List Command) → l.fn.self ≡ session_at first before → StandsOn first l.self-inside.session.held

abbrev pub decreases-loop-self : goal.decreases-loop-self
decreases-loop-self l = length l.self-inside.session.held.formers
