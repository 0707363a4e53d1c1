use Rattle.std.proofs.Common.{ℕ, sym, ◌∙◌, ap, subst, length, List}
use Rattle.std.specs.Prelude.{All}
use Rattle.reductions.specs.declared.steps.Step.{Step}
use Rattle.reductions.specs.Known.{IsKnownStep}
use Rattle.trace_back.proofs.rays.ray_back.Goals as goal

pub all_back-requires : goal.all_back-requires
all_back-requires c =
    let rows = c.args.trace.now.rows in
    let values = c.args.ray.now.values in (
      rows,
      subst (λ (n : ℕ). All (IsKnownStep n rows) c.as_slice-2.result.now) (sym (ap length (c.deref_mut.ensures.value ∙ c.in_ok-values.ensures.items ∙ c.as_slice.ensures)))
          (subst (λ (l : List Step). All (IsKnownStep (length values) rows) l) (sym c.as_slice-2.ensures) c.requires.steps),
    )
