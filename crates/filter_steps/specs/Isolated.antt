-- What filters give: the members that stay, a witness for each, and a proof; what they leave of an oracle; and their stops.
use Rattle.std.specs.Prelude.{◌≡◌, ◌⊎◌, ℕ, ◌+◌, ◌<◌, ◌≤◌, Bool, true, false, List, [], ◌∷◌, ◌++◌, length, slice_index_or, Some, Result}
use Rattle.std.proofs.Common.{zero, suc}
use Rattle.lp_model.specs.declared.members.Member.{Member}
use Rattle.lp_model.specs.MemberSets.{SetValue}
use Rattle.lp_model.specs.Program.{Program}
use Rattle.lp_model.specs.Satisfaction.{IsIrreducible}
use Rattle.certs.specs.declared.evidence.Point.{Point}
use Rattle.certs.specs.declared.evidence.Node.{Node}
use Rattle.certs.specs.declared.solving.Irreducible.{Irreducible}
use Rattle.certs.specs.declared.solving.Irreducible.TheVariants.{Set, Feasible}
use Rattle.certs.specs.declared.solving.Stop.{Stop}
use Rattle.certs.specs.declared.solving.Verdict.{Verdict}
use Rattle.certs.specs.Answers.{AnswersAt, IsAnsweredProof, IsAnsweredStop}
use Rattle.certs.specs.Checks.{IsSetOf}
use Rattle.certs.specs.Proof.{IsProof}
use Rattle.certs.specs.Sites.{Budgets}
use Rattle.certs.specs.Tales.{FirstCore, IsPointOf, IsSiteWithin, OracleState, listed_stop}

-- ---- witnesses
-- the list without its element of this number
abbrev pub without : {X : Type 0} → List X → ℕ → List X
without [] i = []
without (x ∷ list) zero = list
without (x ∷ list) (suc i) = x ∷ without list i

-- there are as many points as members, and each one satisfies all members but the one of its own number
pub record AreWitnesses (model : Program) (members : List Member) (points : List Point) : Type 0 where
  pub as_many : length points ≡ length members
  pub each : (i : ℕ) (d : Point) → i < length points → IsPointOf model (without members i) (slice_index_or points i d)

-- ---- what a filter gives
-- the members that stay, their witnesses in member order, and the nodes of the proof
pub record Isolated : Type 0 where
  pub set : SetValue
  pub witnesses : List Point
  pub nodes : List Node

-- members of the program that are to be kept, and irreducible: with a proof of them that is told, and a witness for each
pub record IsIsolated (IsKept : List Member → Type 0) (IsTold : List Node → Type 0) (model : Program) (found : Isolated) : Type 0 where
  pub same : IsSetOf model found.set
  pub kept : IsKept found.set.members
  pub proof : IsProof model found.set.members found.nodes
  pub told : IsTold found.nodes
  pub witnesses : AreWitnesses model found.set.members found.witnesses
  pub irreducible : IsIrreducible model found.set.members

-- as a filter gives them
abbrev pub isolated_of : SetValue → List Point → List Node → Isolated
isolated_of set witnesses nodes = record { set = set; witnesses = witnesses; nodes = nodes }

-- An isolation of a set finds such members, with a proof that was answered; or a point of the set.
abbrev pub IsIsolation : (Program → List Member → List Member → Type 0) → (Program → Budgets → List Member → Result Verdict Stop → Type 0) → OracleState → List Member → Irreducible → Type 0
IsIsolation IsKept answers state set (Set members witnesses proof) =
    IsIsolated (IsKept state.model set) (IsAnsweredProof (AnswersAt answers state)) state.model (isolated_of members witnesses.items proof.nodes)
IsIsolation IsKept answers state set (Feasible point) = IsPointOf state.model set point

-- of a set with a proof such members alone, with that proof or one that was answered
abbrev pub IsReduced : (Program → List Member → List Member → Type 0) → (Program → Budgets → List Member → Result Verdict Stop → Type 0) → OracleState → List Member → List Node → Irreducible → Type 0
IsReduced IsKept answers state set given (Set members witnesses proof) =
    IsIsolated (IsKept state.model set) (λ nodes. (nodes ≡ given) ⊎ IsAnsweredProof (AnswersAt answers state) nodes) state.model (isolated_of members witnesses.items proof.nodes)
IsReduced IsKept answers state set given (Feasible point) = ⊥

-- whether it was a point
abbrev pub is_feasible : Irreducible → Bool
is_feasible (Set members witnesses proof) = false
is_feasible (Feasible point) = true

-- ---- what is left of an oracle
-- At most so many asks more, and the first core where there was one; the program, the budgets and the sets that are served stay.
pub record IsLeft (most : ℕ) (before after : OracleState) : Type 0 where
  pub asks : before.tale.asks ≤ after.tale.asks
  pub few : after.tale.asks ≤ before.tale.asks + most
  pub first_core : (first : FirstCore) → before.tale.first_core ≡ Some first → after.tale.first_core ≡ Some first
  pub model : after.model ≡ before.model
  pub budgets : after.budgets ≡ before.budgets
  pub serves : after.serves ≡ before.serves

-- ---- stops
-- The stop of a call that asked for such a set: it was answered to that ask, it stands at the end of the stops told before, with the set that was asked, and its site is within that set. Want of memory is not told.
pub record IsStoppedAt (IsTest : Program → List Member → List Member → Type 0) (answers : Program → Budgets → List Member → Result Verdict Stop → Type 0) (set : List Member) (before after : OracleState) (stop : Stop) : Type 0 where
  pub asked : List Member
  pub test : IsTest before.model set asked
  pub answered : IsAnsweredStop (AnswersAt answers before) asked stop
  pub within : IsSiteWithin asked stop
  pub told : after.tale.stops ≡ before.tale.stops ++ listed_stop stop asked []

-- just the set is asked for
abbrev pub IsJust : Program → List Member → List Member → Type 0
IsJust model set asked = asked ≡ set
