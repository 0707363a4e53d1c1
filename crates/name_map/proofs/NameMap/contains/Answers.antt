use Rattle.std.proofs.Common.{ap, ◌∙◌, is_some}
use Rattle.name_map.specs.Names.{names_of}
use Rattle.name_map.proofs.NameLists.{position_any}
use Rattle.name_map.proofs.NameMap.contains.Goals as goal

pub returns : goal.returns
returns g c = c.is_some.ensures ∙ ap is_some c.place.ensures.place ∙ position_any c.args.name.now (names_of c.args.self.now)
