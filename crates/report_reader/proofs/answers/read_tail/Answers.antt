use Rattle.std.proofs.Common.{sym, subst, Some, None}
use Rattle.report_text.specs.declared.report.Method.{Method}
use Rattle.report_reader.specs.Kinds.{IsRead}
use Rattle.report_reader.specs.Things.{tail}
use Rattle.report_reader.proofs.Tails.{rounds_read, price_read}
use Rattle.report_reader.proofs.answers.read_tail.Goals as goal

pub returns-in-Elastic-clause-read : goal.returns-in-Elastic-clause-read
returns-in-Elastic-clause-read c =
    subst (λ (m : Method). IsRead c.args.model.now (tail c.args.model.now m) c.args.cursor.now c.read_rounds.new.cursor (Some c.read_rounds.result, None)) (sym c.in-Elastic.is)
    (rounds_read c.args.model.now c.requires.names c.args.cursor.now c.read_rounds.new.cursor c.read_rounds.result c.requires c.read_rounds.ensures.read)

pub returns-in-Alternative-clause-read : goal.returns-in-Alternative-clause-read
returns-in-Alternative-clause-read c =
    subst (λ (m : Method). IsRead c.args.model.now (tail c.args.model.now m) c.args.cursor.now c.read_price.new.cursor (None, Some c.read_price.result)) (sym c.in-Alternative.is)
    (price_read c.args.model.now c.requires.names c.args.cursor.now c.read_price.new.cursor c.read_price.result c.requires c.read_price.ensures.read)
