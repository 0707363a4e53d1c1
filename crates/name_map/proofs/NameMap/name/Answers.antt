use Rattle.std.proofs.Common.{ap, sym, ◌∙◌, Some}
use Rattle.std.specs.Option.{option_map}
use Rattle.std.specs.List.{slice_get}
use Rattle.std.proofs.lemmas.Option.{slice_get-map}
use Rattle.name_map.proofs.NameLists.{names_shown}
use Rattle.name_map.proofs.NameMap.name.Goals as goal

pub returns : goal.returns
returns g c =
    let es = c.self.inside.held.entries in
    let i = c.args.index in
    let e = sym c.get_index.ensures.entry ∙ ap (option_map (λ p. (p.0.now, p.1.now))) c.unwrap-entry.ensures in
    rw (← c.self.view_is)
    (ap (λ names. slice_get names i) (names_shown (λ k. k.items) es)
    ∙ slice_get-map (λ e. e.0.items) es i
    ∙ ap (option_map (λ e. e.0.items)) e
    ∙ ap Some (sym c.as_slice.ensures.value))
