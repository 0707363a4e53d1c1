use Rattle.std.proofs.Common.{◌≡◌, List, [], ◌∷◌, ◌++◌, Some, sym, ◌∙◌, ap, subst}
use Rattle.certs.specs.System.{Limits}
use Rattle.reductions.specs.declared.steps.Step.TheVariants.{Fixed}
use Rattle.reductions.specs.Rules.{fixed_with}
use Rattle.presolve.specs.Next.{IsNext}
use Rattle.presolve.specs.Plans.{At, PlanValue}
use Rattle.presolve.specs.declared.plans.Next.TheVariants.{Plan}
use Rattle.presolve.proofs.Substituted.{fixed_plan, fixed_next}
use Rattle.presolve.proofs.substitution.fixed_with.Goals as goal

pub returns : goal.returns
returns c =
    let system = c.args.system.now in
    let j = c.args.column in
    let v = c.args.value in
    let p = c.in-Some.parts in
    let parts = rw c.in-Some.is at c.in_ok-made.ensures in
    let columns = c.in_ok-push.ensures.items ∙ ap (λ (l : List (At Limits)). l ++ c.without_limits.result ∷ []) c.new-columns.ensures.items ∙ ap (λ (n : At Limits). n ∷ []) c.without_limits.ensures in
    let plan : (let made : PlanValue = record { step = Fixed (record { column = j; value = v; changes = c.new.result; objective = p.times }); columns = c.push.new.self.items; rows = p.rows.items; objective = p.terms } in made ≡ fixed_plan j v p.changes.items p.rows.items p.times p.terms) =
    λ i. record { step = Fixed (record { column = j; value = v; changes = c.new.ensures i; objective = p.times }); columns = columns i; rows = p.rows.items; objective = p.terms } in
    subst (λ (z : PlanValue). IsNext system (fixed_with system j (Some v)) (Some (Plan z))) (sym plan) (fixed_next system j v p.changes.items p.rows.items p.times p.terms c.requires.formed parts.0 parts.1)
