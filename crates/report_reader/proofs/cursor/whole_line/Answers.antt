use Rattle.report_reader.proofs.WholeLines.{whole-rest, first-part}
use Rattle.report_reader.proofs.cursor.whole_line.Goals as goal

pub returns-then-line-bytes-clause-parts : goal.returns-then-line-bytes-clause-parts
returns-then-line-bytes-clause-parts c = whole-rest c.args.bytes.now c.in-Some.line c.in-Some.ensures c.if-line-bytes.true

pub returns-clause-parts : goal.returns-clause-parts
returns-clause-parts c = first-part c.args.bytes.now c.in-Some.line c.in-Some.ensures c.if-line-bytes.false
