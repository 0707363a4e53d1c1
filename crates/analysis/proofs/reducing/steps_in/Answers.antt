use Rattle.std.proofs.Common.{ℕ, ◌∙◌, sym, subst, List, length, map}
use Rattle.std.specs.Prelude.{All}
use Rattle.std.proofs.lemmas.List.Elements.{All-map}
use Rattle.reductions.specs.declared.steps.ReduceStep.{ReduceStep}
use Rattle.trace_back.specs.Listed.{told}
use Rattle.certs.specs.Plain.{rows_in}
use Rattle.analysis.specs.Reduced.{IsStepIn}
use Rattle.analysis.proofs.Leaving.{told_steps}
use Rattle.analysis.proofs.reducing.steps_in.Goals as goal

pub steps_by-requires : goal.steps_by-requires
steps_by-requires c =
    let rows = rows_in c.args.model.now c.args.set.now.members in
    subst (λ (l : List ReduceStep). All (IsStepIn (length c.as_slice.result.now)) l) (sym (c.as_slice-2.ensures.value ∙ c.in_ok-told.ensures))
    (subst (λ (r : List ℕ). All (IsStepIn (length r)) (map told c.args.trace.now.steps)) (sym (c.as_slice.ensures.value ∙ c.in_ok-rows.ensures))
    (All-map (IsStepIn (length rows)) told c.args.trace.now.steps c.requires.known))

pub returns : goal.returns
returns c =
    c.new.ensures
    ∙ told_steps c.args.model.now c.args.set.now.members c.as_slice.result.now c.as_slice-2.result.now c.in_ok-steps.steps.items c.args.trace.now.steps (c.as_slice.ensures.value ∙ c.in_ok-rows.ensures) (c.as_slice-2.ensures.value ∙ c.in_ok-told.ensures) c.in_ok-steps.ensures
