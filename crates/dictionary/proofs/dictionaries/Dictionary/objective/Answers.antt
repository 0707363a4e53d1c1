use Rattle.std.proofs.Common.{arith}
use Rattle.std.proofs.lemmas.Grind.{common_steps}
use Rattle.dictionary.proofs.dictionaries.Dictionary.objective.Goals as goal

pub returns-then-not-self : goal.returns-then-not-self
returns-then-not-self g c = grind (arith, common_steps)

pub overflow_cast-result : goal.overflow_cast-result
overflow_cast-result g c = grind (arith, common_steps)

pub overflow_sub-result : goal.overflow_sub-result
overflow_sub-result g c = grind (arith, common_steps)

pub returns : goal.returns
returns g c = grind (arith, common_steps)
