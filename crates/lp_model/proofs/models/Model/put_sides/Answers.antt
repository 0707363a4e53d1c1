use Rattle.std.proofs.Common.{◌<◌, ◌∙◌, sym, ap, subst, map, length}
use Rattle.name_map.specs.Names.{set_value_at}
use Rattle.lp_model.specs.Edits.{with_sides}
use Rattle.lp_model.specs.Program.{Program, row_at, IsWellFormedRow}
use Rattle.lp_model.specs.Shown.{named_row, IsKept}
use Rattle.lp_model.specs.contracts.models.Model.{the_view}
use Rattle.lp_model.proofs.Changed.{sided, sides_shown, kept_sides, length_kept}
use Rattle.lp_model.proofs.models.Model.put_sides.Goals as goal

pub replace-requires : goal.replace-requires
replace-requires c =
    subst (λ n. c.args.index < n) (sym (ap length c.replace-former.ensures.put ∙ length_kept c.self.inside.rows c.args.index _ ∙ ap (λ (p : Program). length p.rows) c.self.view_is)) c.requires.within

pub invariant_of-self : goal.invariant_of-self
invariant_of-self c =
    let view = the_view c.self.inside in
    let fits = subst (λ (p : Program). IsWellFormedRow (length p.columns) (with_sides (row_at p c.args.index) c.args.lower c.args.upper)) (sym c.self.view_is) c.requires.fitting in
    let row = sided c.replace-former.result c.args.lower c.args.upper in
    let put = c.replace.ensures.put ∙ ap (λ rows. set_value_at rows c.args.index row) c.replace-former.ensures.put in
    let shown = ap (map (λ e. named_row e.0 e.1)) put ∙ sides_shown c.self.inside.rows c.args.index c.new-2.result c.replace-former.result c.args.lower c.args.upper c.replace-former.ensures.given in
    subst (λ rows. IsKept (record view { rows = rows })) (sym shown) (kept_sides view c.args.index c.args.lower c.args.upper c.self.invariant fits)

pub returns : goal.returns
returns c =
    let view = the_view c.self.inside in
    let row = sided c.replace-former.result c.args.lower c.args.upper in
    let put = c.replace.ensures.put ∙ ap (λ rows. set_value_at rows c.args.index row) c.replace-former.ensures.put in
    let shown = ap (map (λ e. named_row e.0 e.1)) put ∙ sides_shown c.self.inside.rows c.args.index c.new-2.result c.replace-former.result c.args.lower c.args.upper c.replace-former.ensures.given in
    rw (← c.self.view_is) (ap (λ rows. record view { rows = rows }) shown)
