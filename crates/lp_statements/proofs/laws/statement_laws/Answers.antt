use Rattle.lp_statements.proofs.Spelled.{spelled}
use Rattle.lp_statements.proofs.Ended.{ended, ends}
use Rattle.lp_statements.proofs.laws.statement_laws.Goals as goal

pub returns : goal.returns
returns c = record { spelled = spelled; ended = ended; ends = ends }
