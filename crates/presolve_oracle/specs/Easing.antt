-- What functions of the crate give, while a set is eased.
use Rattle.std.specs.Prelude.{ℕ, List, length, Option, Some, None, IsSome, Ok, Err}
use Rattle.frac128.specs.Calculation.{first_wide}
use Rattle.frac128.specs.Limit.{limit}
use Rattle.lp_model.specs.declared.members.Member.{Member}
use Rattle.lp_model.specs.Program.{Program}
use Rattle.certs.specs.declared.evidence.Proof.{Proof}
use Rattle.certs.specs.declared.solving.Verdict.{Verdict}
use Rattle.certs.specs.System.{VariableShare}
use Rattle.reductions.specs.declared.steps.Step.{Step}
use Rattle.reductions.specs.Back.{weights_of, weights_work}
use Rattle.presolve_laws.specs.Answers.{IsEasedVerdict, IsLeafOf, IsUneased, set_system}
use Rattle.presolve_laws.specs.Eased.{IsEased, SharesComeBack}
use Rattle.presolve_oracle.specs.declared.easing.Easing.{Easing}
use Rattle.presolve_oracle.specs.declared.easing.Easing.TheVariants.{Back, Stopped, Uneased}

-- a verdict that comes back; or there is none, and then the set's plain system is not eased
abbrev pub IsEasing : Program → List Member → ℕ → Option Verdict → Type 0
IsEasing model set pivots (Some verdict) = IsEasedVerdict model set pivots (Ok verdict)
IsEasing model set pivots None = IsEased (set_system model set) pivots → ⊥

-- a verdict that comes back; the stop of the system's own run, where nothing was reduced; or neither, and then the system is not eased
abbrev pub IsEasingEnd : Program → List Member → ℕ → Easing → Type 0
IsEasingEnd model set pivots (Back verdict) = IsEasedVerdict model set pivots (Ok verdict)
IsEasingEnd model set pivots (Stopped stop) = IsUneased model set pivots (Err stop)
IsEasingEnd model set pivots Uneased = IsEased (set_system model set) pivots → ⊥

-- the shares of a reduced system come back as those of the leaf; or their way back is too wide
abbrev pub IsCutBack : Program → List Member → List Step → List VariableShare → Option Proof → Type 0
IsCutBack model set steps of (Some proof) = (back : List VariableShare) × (SharesComeBack (set_system model set) steps of back × IsLeafOf model set proof back)
IsCutBack model set steps of None = IsSome (first_wide limit (weights_work (length (set_system model set).columns) steps (weights_of of)))
