use Rattle.std.proofs.Common.{sym, subst, ap, ◌<◌, ◌∙◌, length}
use Rattle.std.specs.Prelude.{All}
use Rattle.lp_model.specs.declared.parts.Term.{Term}
use Rattle.bound_checks.proofs.values.objective_value.Goals as goal

pub value_of-requires : goal.value_of-requires
value_of-requires c =
    subst (All (λ (t : Term). t.column < length c.as_slice.result.now)) (sym c.objective.ensures)
    (subst (λ n. All (λ (t : Term). t.column < n) c.args.model.now.objective) (sym c.requires ∙ ap length (sym c.as_slice.ensures)) c.row_count-rows.ensures.well_formed.objective.known)
