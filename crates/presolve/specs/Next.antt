-- What contracts say of what a rule finds.
use Rattle.std.specs.Prelude.{◌≡◌, map, length, Option, Some, None}
use Rattle.certs.specs.Named.{named}
use Rattle.certs.specs.System.{LinearSystem}
use Rattle.reductions.specs.Rules.{Found}
use Rattle.reductions.specs.Rules.Found.{Goes, Decides}
use Rattle.reductions.specs.Reduction.{reduced_by}
use Rattle.presolve.specs.Plans.{planned}
use Rattle.presolve.specs.declared.plans.Next.{Next}
use Rattle.presolve.specs.declared.plans.Next.TheVariants.{Plan, Contradiction}

-- What code finds is what the rule finds: a plan has its step, and makes of the system what the step makes of it; and the shares
-- of a contradiction are those that the rule gives.
abbrev pub IsNext : LinearSystem → Option Found → Option Next → Type 0
IsNext system None None = Unit {0}
IsNext system (Some (Goes step)) (Some (Plan plan)) = (plan.step ≡ step) × (planned plan system ≡ reduced_by step system)
IsNext system (Some (Decides of)) (Some (Contradiction shares)) = shares ≡ map (named (length system.columns)) of
IsNext system _ _ = ⊥
