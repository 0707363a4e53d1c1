use Rattle.std.proofs.Common.{◌≡◌, [], rules, arith}
use Rattle.std.proofs.lemmas.Grind.{common_steps}
use Rattle.presolve_oracle.proofs.easing.stopped.Goals as goal

pub returns-then-is_empty : goal.returns-then-is_empty
returns-then-is_empty c = λ model pivots same excluded own.
    (let none : c.args.trace.now.steps ≡ [] = first_of (search rules, grind (arith, common_steps)) in record { not_eased = excluded; ends = c.stop_end.ensures model pivots same (own none) })
