use Rattle.std.proofs.Common.{◌∙◌, sym}
use Rattle.report_text.specs.declared.report.Answer.{Answer}
use Rattle.report_reader.proofs.Refusals.{none_read, next_begins}
use Rattle.report_reader.proofs.answers.read_answer.Goals as goal

pub read_begun-requires-clause-said : goal.read_begun-requires-clause-said
read_begun-requires-clause-said c = (next_begins c.args.model.now c.requires.names c.args.command.now c.args.cursor.now.ahead c.in-Some.opening (sym c.next_opening.ensures ∙ c.in-Some.is)).0

pub read_begun-requires-clause-begins : goal.read_begun-requires-clause-begins
read_begun-requires-clause-begins c = (next_begins c.args.model.now c.requires.names c.args.command.now c.args.cursor.now.ahead c.in-Some.opening (sym c.next_opening.ensures ∙ c.in-Some.is)).1

pub returns-in_default-clause-read : goal.returns-in_default-clause-read
returns-in_default-clause-read c = none_read c.args.model.now c.requires.names c.args.command.now c.args.cursor.now c.pass.new.self Answer.Done c.requires (sym c.next_opening.ensures ∙ c.in_default.is) c.pass.ensures.passes
