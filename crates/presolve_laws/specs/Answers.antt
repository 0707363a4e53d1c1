-- What is answered to a set without marks: what comes back from the reduction of its plain system, where that is eased, and else what its own run gives.
use Rattle.std.specs.Prelude.{◌≡◌, ◌⊎◌, ℕ, false, List, [], ◌∷◌, map, length, Result, Ok, Err}
use Rattle.lp_model.specs.declared.members.Member.{Member}
use Rattle.lp_model.specs.Program.{Program}
use Rattle.certs.specs.declared.evidence.Combo.{Combo}
use Rattle.certs.specs.declared.evidence.Node.TheVariants.{Leaf}
use Rattle.certs.specs.declared.evidence.Proof.{Proof}
use Rattle.certs.specs.declared.solving.Stop.{Stop}
use Rattle.certs.specs.declared.solving.Stop.TheVariants.{Memory}
use Rattle.certs.specs.declared.solving.Verdict.{Verdict}
use Rattle.certs.specs.declared.solving.Verdict.TheVariants.{Feasible, Infeasible}
use Rattle.certs.specs.Answers.{IsPlainSet, IsPlainVerdict, IsTreeAnswer}
use Rattle.certs.specs.Named.{named, program_shares}
use Rattle.certs.specs.Plain.{plain_system}
use Rattle.certs.specs.Sites.{Budgets}
use Rattle.certs.specs.System.{LinearSystem, VariableShare}
use Rattle.presolve_laws.specs.Eased.{EasesAt, CutsBy, IsEased}

-- the plain system of a set, on no path; marks have no part in it
abbrev pub set_system : Program → List Member → LinearSystem
set_system model set = plain_system model set [] false

-- the proof is one leaf, of shares of the set's plain system as those of the program
pub record IsLeafOf (model : Program) (set : List Member) (proof : Proof) (of : List VariableShare) : Type 0 where
  pub combo : Combo
  pub leaf : proof.nodes ≡ Leaf combo ∷ []
  pub shares_are : combo.shares ≡ program_shares model set [] (map (named (length model.columns)) of)

-- a point or a combination that comes back; want of memory may come at any time
abbrev pub IsEasedVerdict : Program → List Member → ℕ → Result Verdict Stop → Type 0
IsEasedVerdict model set pivots (Ok (Feasible point)) = EasesAt (set_system model set) pivots point.values
IsEasedVerdict model set pivots (Ok (Infeasible proof)) = (of : List VariableShare) × (CutsBy (set_system model set) pivots of × IsLeafOf model set proof of)
IsEasedVerdict model set pivots (Err stop) = stop ≡ Memory

-- the system is not eased, and its own run gives this
pub record IsUneased (model : Program) (set : List Member) (pivots : ℕ) (result : Result Verdict Stop) : Type 0 where
  pub not_eased : IsEased (set_system model set) pivots → ⊥
  pub ends : IsPlainVerdict model set pivots result

-- the one or the other
abbrev pub IsPresolvedVerdict : Program → List Member → ℕ → Result Verdict Stop → Type 0
IsPresolvedVerdict model set pivots result = IsEasedVerdict model set pivots result ⊎ IsUneased model set pivots result

-- that of such a set
pub record IsPresolvedAnswer (model : Program) (pivots : ℕ) (set : List Member) (result : Result Verdict Stop) : Type 0 where
  pub asked : IsPlainSet model set
  pub ends : IsPresolvedVerdict model set pivots result

-- a set without marks is answered so, and one with a mark by its tree
abbrev pub IsPresolvedReference : Program → Budgets → List Member → Result Verdict Stop → Type 0
IsPresolvedReference model budgets set result = IsPresolvedAnswer model budgets.pivots set result ⊎ IsTreeAnswer model budgets set result
