use Rattle.std.proofs.Common.{subst, arith}
use Rattle.frac128.specs.Limit.{limit, narrow_limit}
use Rattle.simplex.specs.declared.settling.RunStop.TheVariants.{Pivots}
use Rattle.two_widths.specs.Runs.{StopsBy}
use Rattle.two_widths.proofs.Apart.{apart}
use Rattle.two_widths.proofs.Wider.{own_stop, plain_stop, spent_wider}
use Rattle.two_widths.proofs.solving.after.Goals as goal

pub solve_wide-requires-clause-wide : goal.solve_wide-requires-clause-wide
solve_wide-requires-clause-wide c = λ n. n.runs c.in-Wide.field-0 c.in-Wide.field-1 (subst (StopsBy narrow_limit c.args.system.now c.args.pivots) c.in-Wide.is c.requires.stopped)

pub returns-in-Pivots-clause-stop : goal.returns-in-Pivots-clause-stop
returns-in-Pivots-clause-stop c =
    let system = c.args.system.now in
    own_stop system c.args.pivots (apart system c.requires.formed) Pivots
    (spent_wider narrow_limit limit (omega arith) system c.args.pivots (subst (StopsBy narrow_limit system c.args.pivots) c.in-Pivots.is c.requires.stopped))

pub returns-in-Pivots-clause-plain : goal.returns-in-Pivots-clause-plain
returns-in-Pivots-clause-plain c = λ none.
    (let system = c.args.system.now in
    plain_stop system c.args.pivots (apart system c.requires.formed) none Pivots
    (spent_wider narrow_limit limit (omega arith) system c.args.pivots (subst (StopsBy narrow_limit system c.args.pivots) c.in-Pivots.is c.requires.stopped)))
