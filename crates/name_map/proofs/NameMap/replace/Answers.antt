use Rattle.std.proofs.Common.{ap, sym, ◌∙◌, Some}
use Rattle.std.specs.Option.{option_copied_mut}
use Rattle.std.specs.List.{slice_get}
use Rattle.indexmap.specs.IndexMap.{set_value_at}
use Rattle.name_map.proofs.NameLists.{value_shown, values_shown}
use Rattle.name_map.proofs.NameMap.replace.Goals as goal

pub returns-clause-put : goal.returns-clause-put
returns-clause-put g c =
    value_shown (λ k. k.items) c.self.inside.held.entries c.args.index c.replace.new.dest
    ∙ ap (set_value_at _ c.args.index) c.replace.ensures.after
    ∙ ap (λ entries. set_value_at entries c.args.index c.args.value) c.self.view_is

pub returns-clause-given : goal.returns-clause-given
returns-clause-given g c =
    let es = c.self.inside.held.entries in
    rw (← c.self.view_is)
    (ap (λ values. slice_get values c.args.index) (values_shown (λ k. k.items) es)
    ∙ sym c.get_index_mut.ensures.value
    ∙ ap option_copied_mut c.in-Some.is
    ∙ ap Some (sym c.replace.ensures.value))
