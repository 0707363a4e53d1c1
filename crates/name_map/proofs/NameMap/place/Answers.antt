use Rattle.std.proofs.Common.{sym, ap, ◌∙◌}
use Rattle.std.specs.List.{position}
use Rattle.std.specs.Str.{bytes_eq}
use Rattle.name_map.proofs.NameLists.{position_map, names_shown}
use Rattle.name_map.proofs.NameMap.place.Goals as goal

pub returns-clause-place : goal.returns-clause-place
returns-clause-place g c =
    let es = c.self.inside.held.entries in
    let name = c.args.name.now in
    rw (← c.self.view_is)
    (c.get_index_of.ensures.index ∙ position_map (λ k. bytes_eq name k.items) (λ e. e.0) es
    ∙ sym (position_map (bytes_eq name) (λ e. e.0.items) es)
    ∙ sym (ap (position (bytes_eq name)) (names_shown (λ k. k.items) es)))
