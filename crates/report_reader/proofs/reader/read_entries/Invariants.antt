use Rattle.report_reader.proofs.Gathered.{ReadsEntries}
use Rattle.report_reader.proofs.Passing.{room}
use Rattle.report_reader.proofs.reader.read_entries.Given as goal

abbrev pub invariant-loop-command : goal.invariant-loop-command
invariant-loop-command l = ReadsEntries l.fn.session l.session l.fn.cursor l.cursor l.entries.items

abbrev pub decreases-loop-command : goal.decreases-loop-command
decreases-loop-command l = room l.cursor.ahead l.cursor.number
