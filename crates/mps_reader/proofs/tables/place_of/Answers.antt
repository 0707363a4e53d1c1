use Rattle.std.proofs.Common.{sym, subst, MatchOption, ◌≡◌, false}
use Rattle.std.specs.List.{list_any}
use Rattle.std.specs.Str.{bytes_eq}
use Rattle.name_map.specs.Names.{StandsAt, names_of}
use Rattle.name_map.proofs.NameLists.{place_is}
use Rattle.mps_reader.proofs.tables.place_of.Goals as goal

pub returns : goal.returns
returns g c =
    let names = names_of c.args.names.now in
    subst (λ r. MatchOption r (list_any (bytes_eq c.args.name.now) names ≡ false) (StandsAt names c.args.name.now)) (sym c.place.ensures.place)
    (place_is c.args.name.now names c.names_differ.ensures)
