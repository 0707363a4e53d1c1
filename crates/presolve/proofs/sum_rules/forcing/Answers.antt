use Rattle.std.proofs.Common.{◌≡◌, ◌<◌, refl, sym, ◌∙◌, ap, subst, length, List, [], ◌∷◌, None}
use Rattle.std.specs.Prelude.{All}
use Rattle.rational.specs.Linear.{Term}
use Rattle.certs.specs.System.{empty_system_row}
use Rattle.reductions.specs.declared.steps.Step.TheVariants.{Forcing}
use Rattle.reductions.specs.Limited.{opposite}
use Rattle.reductions.specs.Stage.{row_in, without_row}
use Rattle.reductions.proofs.Formed.{row_form}
use Rattle.presolve.specs.Forced.{forced_columns}
use Rattle.presolve.specs.Plans.{PlanValue}
use Rattle.presolve.proofs.Planned.{planned_is, forced_is}
use Rattle.presolve.proofs.sum_rules.forcing.Goals as goal

pub forced-requires : goal.forced-requires
forced-requires c =
    subst (All (λ (t : Term). t.column < length c.args.system.now.columns)) (sym c.row_terms-terms.ensures) (row_form c.args.system.now c.args.index c.requires.formed).known

pub returns : goal.returns
returns c =
    let system = c.args.system.now in
    let i = c.args.index in
    let side = c.args.side in
    let terms : c.new.result ≡ (row_in system i).terms = c.new.ensures ∙ c.in_ok-from_slice.ensures.items ∙ c.row_terms-terms.ensures in
    let columns : c.in_ok-columns.columns.items ≡ forced_columns system (opposite side) (row_in system i).terms =
    c.in_ok-columns.ensures ∙ ap (λ s. forced_columns system s c.row_terms-terms.result.now) c.opposite.ensures ∙ ap (forced_columns system (opposite side)) c.row_terms-terms.ensures in
    let plan : PlanValue = record {
      step = Forcing (record { row = i; side = side; terms = c.new.result });
      columns = c.in_ok-columns.columns.items;
      rows = c.in_ok-rows.rows.items;
      objective = None;
    } in (
      ap (λ (l : List Term). Forcing (record { row = i; side = side; terms = l })) terms,
      planned_is plan system (forced_columns system (opposite side) (row_in system i).terms) (record { number = i; item = empty_system_row } ∷ []) columns c.in_ok-rows.ensures refl
          ∙ ap (without_row i) (forced_is system (opposite side) (row_in system i).terms (row_form system i c.requires.formed).ascending),
    )
