use Rattle.std.proofs.Common.{sym, ◌∙◌}
use Rattle.frac128.specs.Limit.{limit}
use Rattle.dictionary.specs.Value.{tableau_of}
use Rattle.unbounded.proofs.Ending.{point_is, system, within}
use Rattle.unbounded.proofs.Settled.{narrow_values, settled}
use Rattle.unbounded.proofs.ends.last_point.Goals as goal

pub point_of-requires-clause-columns : goal.point_of-requires-clause-columns
point_of-requires-clause-columns c = within c.args.model.now c.args.set.now.members c.args.dictionary.now c.requires.stands

pub point_of-requires-clause-settled : goal.point_of-requires-clause-settled
point_of-requires-clause-settled c = settled (system c.args.model.now c.args.set.now.members c.args.dictionary.now c.requires.stands) (tableau_of c.args.dictionary.now) c.requires.stands.is_of c.requires.stands.within

pub point_of-requires-clause-narrow : goal.point_of-requires-clause-narrow
point_of-requires-clause-narrow c =
    narrow_values (system c.args.model.now c.args.set.now.members c.args.dictionary.now c.requires.stands) (tableau_of c.args.dictionary.now) c.requires.stands.is_of c.requires.stands.within limit c.requires.narrow

pub returns-clause-point : goal.returns-clause-point
returns-clause-point c =
    point_is c.args.model.now c.args.set.now.members c.args.dictionary.now c.requires.stands c.point_of.result c.point_of.ensures.values (sym c.has_mark.ensures ∙ c.if-has_mark.false)
