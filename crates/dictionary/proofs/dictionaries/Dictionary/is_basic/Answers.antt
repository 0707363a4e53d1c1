use Rattle.std.proofs.Common.{arith}
use Rattle.std.proofs.lemmas.Grind.{common_steps}
use Rattle.dictionary.proofs.dictionaries.Dictionary.is_basic.Goals as goal

pub index-requires : goal.index-requires
index-requires g c = grind (arith, common_steps)

pub is_standing-requires : goal.is_standing-requires
is_standing-requires g c = grind (arith, common_steps)

pub returns : goal.returns
returns g c = grind (arith, common_steps)
