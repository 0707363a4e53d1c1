use Rattle.std.proofs.Common.{arith}
use Rattle.std.proofs.lemmas.Grind.{common_steps}
use Rattle.dictionary.proofs.dictionaries.Dictionary.place.Goals as goal

pub index-requires : goal.index-requires
index-requires g c = grind (arith, common_steps)

pub index-requires-2 : goal.index-requires-2
index-requires-2 g c = grind (arith, common_steps)

pub returns : goal.returns
returns g c = grind (arith, common_steps)
