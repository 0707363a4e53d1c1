use Rattle.report_reader.proofs.Proofs.{leaf_read}
use Rattle.report_reader.proofs.evidence.read_leaf.Goals as goal

pub returns-clause-read : goal.returns-clause-read
returns-clause-read c splits f = leaf_read c.args.model.now c.requires.names splits c.args.cursor.now c.pass.new.self c.read_shares-shares.new.cursor _ f c.requires c.pass.ensures.passes c.pass.ensures.stands c.read_shares-shares.ensures.read c.read_shares-shares.ensures.stands
