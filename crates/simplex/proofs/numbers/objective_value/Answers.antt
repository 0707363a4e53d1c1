use Rattle.frac128.specs.Limit.{limit}
use Rattle.dictionary.specs.Value.{tableau_of}
use Rattle.simplex.proofs.Ends.{value_narrow}
use Rattle.simplex.proofs.numbers.objective_value.Goals as goal

pub narrow_value-requires-clause-narrow : goal.narrow_value-requires-clause-narrow
narrow_value-requires-clause-narrow c =
    value_narrow limit (tableau_of c.args.dictionary.now) c.objective.result c.objective.ensures.number c.objective.ensures.basic c.requires.ended.1.0 c.requires.ended.1.1
