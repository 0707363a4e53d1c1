use Rattle.std.proofs.Common.{sym, ◌∙◌}
use Rattle.report_reader.proofs.Proofs.{begun_is_leaf, begun_read}
use Rattle.report_reader.proofs.evidence.read_begun.Goals as goal

pub returns-then-is_leaf-clause-read : goal.returns-then-is_leaf-clause-read
returns-then-is_leaf-clause-read c = c.read_leaf.ensures.read c.args.splits (begun_is_leaf c.args.splits c.args.cursor.now.ahead c.args.begun (sym c.is_leaf.ensures ∙ c.if-is_leaf.true) c.requires.begun)

pub returns-clause-read : goal.returns-clause-read
returns-clause-read c = begun_read c.args.model.now c.requires.stands.names c.args.splits c.args.cursor.now c.pass.new.self c.args.begun (sym c.is_leaf.ensures ∙ c.if-is_leaf.false) c.requires.begun c.requires.stands c.pass.ensures.passes
