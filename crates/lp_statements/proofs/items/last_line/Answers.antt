use Rattle.lp_statements.proofs.Pieces.{last_counted, last_is_one, last_is_count}
use Rattle.lp_statements.proofs.items.last_line.Goals as goal

pub returns-then-number-eq0 : goal.returns-then-number-eq0
returns-then-number-eq0 c =
    last_is_one c.args.bytes.now c.loop-line.number (last_counted c.args.bytes.now c.loop-line.at c.loop-line.number c.in_default.ensures c.loop-line.invariant.2) c.if-number-eq0.true

pub returns : goal.returns
returns c =
    last_is_count c.args.bytes.now c.loop-line.number (last_counted c.args.bytes.now c.loop-line.at c.loop-line.number c.in_default.ensures c.loop-line.invariant.2) c.if-number-eq0.false
