use Rattle.std.proofs.Common.{sym, ap, ◌∙◌, position}
use Rattle.std.specs.Option.{ok_or}
use Rattle.std.specs.Str.{bytes_eq}
use Rattle.lp_model.specs.declared.models.ModelStop.TheVariants.{UnknownName}
use Rattle.lp_model.specs.Program.{NamedColumn}
use Rattle.lp_model.specs.Shown.{named_column}
use Rattle.lp_model.proofs.Read.{map_twice}
use Rattle.lp_model.proofs.models.Model.column_named.Goals as goal

pub returns-in-Some-clause-place : goal.returns-in-Some-clause-place
returns-in-Some-clause-place c =
    let es = c.self.inside.columns in
    let same = map_twice (λ (r : NamedColumn). r.name) (λ e. named_column e.0 e.1) es in
    rw (← c.self.view_is)
    (ap (λ o. ok_or o UnknownName) (sym c.in-Some.is ∙ c.place.ensures.place ∙ sym (ap (position (bytes_eq c.args.name.now)) same)))

pub returns-in-None-clause-place : goal.returns-in-None-clause-place
returns-in-None-clause-place c =
    let es = c.self.inside.columns in
    let same = map_twice (λ (r : NamedColumn). r.name) (λ e. named_column e.0 e.1) es in
    rw (← c.self.view_is)
    (ap (λ o. ok_or o UnknownName) (sym c.in-None.is ∙ c.place.ensures.place ∙ sym (ap (position (bytes_eq c.args.name.now)) same)))
