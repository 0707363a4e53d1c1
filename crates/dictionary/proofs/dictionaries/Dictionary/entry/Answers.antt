use Rattle.std.proofs.Common.{◌∙◌, ap}
use Rattle.rational.specs.Linear.{factor_of}
use Rattle.dictionary.proofs.dictionaries.Dictionary.entry.Goals as goal

pub factor_in-requires : goal.factor_in-requires
factor_in-requires g c = c.row.ensures.sparse.is_row

pub returns : goal.returns
returns g c = c.factor_in.ensures ∙ ap (λ r. factor_of r c.args.nonbasic) c.row.ensures.row
