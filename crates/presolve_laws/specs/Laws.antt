-- Laws of reduced systems and of what is answered by them.
use Rattle.std.specs.Prelude.{◌⊎◌, ℕ, List, Ok}
use Rattle.lp_model.specs.declared.members.Member.{Member}
use Rattle.lp_model.specs.Program.{Program}
use Rattle.certs.specs.declared.evidence.Proof.{Proof}
use Rattle.certs.specs.declared.solving.Verdict.{Verdict}
use Rattle.certs.specs.declared.solving.Verdict.TheVariants.{Infeasible}
use Rattle.certs.specs.Order.{AreLeavesInOrder}
use Rattle.certs.specs.Runs.End.{TooWide, Spent}
use Rattle.certs.specs.Solves.{RunEnds}
use Rattle.certs.specs.System.{LinearSystem}
use Rattle.certs.specs.Tales.{IsVerdict}
use Rattle.frac128.specs.declared.Wide.{Wide as Operation}
use Rattle.reductions.specs.declared.steps.Step.{Step}
use Rattle.reductions.specs.Reduction.{IsReduced, Reduces}
use Rattle.reductions.specs.Stage.{Stage, start_stage}
use Rattle.presolve_laws.specs.Answers.{IsPresolvedAnswer}
use Rattle.presolve_laws.specs.Eased.{IsEased}

-- where the run at the end of the reduction stops, the system is not eased
abbrev pub StoppedLaw : Type 0
StoppedLaw = (system : LinearSystem) (pivots : ℕ) (steps : List Step) (last : Stage) → Reduces (start_stage system) steps last → IsReduced last
    → ((turn : ℕ) × ((operation : Operation) × RunEnds last.system pivots (TooWide turn operation))) ⊎ RunEnds last.system pivots Spent → IsEased system pivots → ⊥

-- an answered verdict holds of the set
abbrev pub HoldsLaw : Type 0
HoldsLaw = (model : Program) (pivots : ℕ) (set : List Member) (verdict : Verdict) → IsPresolvedAnswer model pivots set (Ok verdict) → IsVerdict model set verdict

-- and the shares of its leaf stand in order
abbrev pub OrderedLaw : Type 0
OrderedLaw = (model : Program) (pivots : ℕ) (set : List Member) (proof : Proof) → IsPresolvedAnswer model pivots set (Ok (Infeasible proof)) → AreLeavesInOrder proof.nodes
