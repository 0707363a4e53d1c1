use Rattle.std.proofs.Common.{arith}
use Rattle.frac128.specs.Limit.{limit}
use Rattle.two_widths.proofs.Apart.{apart}
use Rattle.two_widths.proofs.Wider.{last_ends, own_stop, plain_stop}
use Rattle.two_widths.proofs.solving.solve_wide.Goals as goal

pub returns-in-Err-clause-stop : goal.returns-in-Err-clause-stop
returns-in-Err-clause-stop c = own_stop c.args.system.now c.args.pivots (apart c.args.system.now c.requires.formed) c.in-Err.stop c.in-Err.ensures.stop

pub returns-in-Err-clause-plain : goal.returns-in-Err-clause-plain
returns-in-Err-clause-plain c = λ none. plain_stop c.args.system.now c.args.pivots (apart c.args.system.now c.requires.formed) none c.in-Err.stop c.in-Err.ensures.stop

pub returns-clause-ended : goal.returns-clause-ended
returns-clause-ended c =
    let ran = c.in-Ok.ran in
    last_ends c.args.system.now c.args.pivots (apart c.args.system.now c.requires.formed) limit (omega arith) ran.end ran.dictionary.basis c.in-Ok.ensures.ended
