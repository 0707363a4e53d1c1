use Rattle.std.proofs.Common.{◌≡◌, [], ◌∷◌, ◌++◌, length, ap, ◌∙◌, arith, length-append}
use Rattle.name_map.specs.Names.{names_of}
use Rattle.name_map.proofs.NameLists.{map_push}
use Rattle.lp_reader.proofs.rows.put_row.Goals as goal

pub returns : goal.returns
returns c =
    let names : names_of c.push.new.self ≡ names_of c.args.rows.now.names ++ c.args.name.now ∷ [] = ap (λ es. names_of es) c.in_ok-push.ensures.ok ∙ map_push (λ e. e.0) c.args.rows.now.names (c.args.name.now, tt) in
    record {
      names = names;
      items = c.in_ok-push-2.ensures.items;
      few = let long = length-append (names_of c.args.rows.now.names) (c.args.name.now ∷ []) in let e = ap length names in let room = c.requires.room in omega arith;
      short = c.requires.short;
    }
