use Rattle.std.proofs.Common.{ap, sym, ◌∙◌}
use Rattle.std.specs.Option.{option_map}
use Rattle.std.specs.List.{slice_get}
use Rattle.std.proofs.lemmas.Option.{slice_get-map}
use Rattle.name_map.proofs.NameLists.{values_shown}
use Rattle.name_map.proofs.NameMap.value.Goals as goal

pub returns : goal.returns
returns g c =
    let es = c.self.inside.held.entries in
    let i = c.args.index in
    let e = sym c.get_index.ensures.entry ∙ ap (option_map (λ p. (p.0.now, p.1.now))) c.unwrap-entry.ensures in
    rw (← c.self.view_is)
    (ap (λ values. slice_get values i) (values_shown (λ k. k.items) es)
    ∙ slice_get-map (λ e. e.1) es i
    ∙ ap (option_map (λ e. e.1)) e)
