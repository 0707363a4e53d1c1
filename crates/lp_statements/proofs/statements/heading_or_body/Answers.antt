use Rattle.lp_statements.proofs.Steps.{entire}
use Rattle.lp_statements.proofs.statements.heading_or_body.Goals as goal

pub returns-in-Some : goal.returns-in-Some
returns-in-Some c = rw c.in-Some.ensures (entire c.args.most _ c.take_keyword.new.cursor c.later_heading.result (c.later_heading.ensures c.take_keyword.new.cursor))
