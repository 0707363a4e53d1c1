-- What a quick oracle answers: confirmed verdicts, and else what the inner oracle answers.
use Rattle.std.specs.Prelude.{◌≡◌, ◌⊎◌, ⊤, List, Result, Ok, Err, All}
use Rattle.std.proofs.Common.{inl, inr, subst, sym}
use Rattle.lp_model.specs.declared.members.Member.{Member}
use Rattle.lp_model.specs.Program.{Program}
use Rattle.certs.specs.declared.evidence.Proof.{Proof}
use Rattle.certs.specs.declared.solving.Stop.{Stop}
use Rattle.certs.specs.declared.solving.Stop.TheVariants.{Wide, Pivots, Nodes, Large, Memory}
use Rattle.certs.specs.declared.solving.Verdict.{Verdict}
use Rattle.certs.specs.declared.solving.Verdict.TheVariants.{Feasible, Infeasible}
use Rattle.certs.specs.Order.{AreLeavesInOrder}
use Rattle.certs.specs.Proof.{IsProof, IsFittingNode}
use Rattle.certs.specs.Sites.{Budgets}
use Rattle.certs.specs.Tales.{IsPointOf, IsSiteWithin, IsVerdict, OracleState, asked_after}

-- what answers are to an ask, by the program and what a solve may spend
abbrev pub Relation : Type 1
Relation = Program → Budgets → List Member → Result Verdict Stop → Type 0

-- ---- confirmed verdicts
-- a point of the set; or a proof of it, with the shares of each leaf in order and numbers of splits that fit
abbrev pub IsConfirmed : Program → List Member → Verdict → Type 0
IsConfirmed model set (Feasible point) = IsPointOf model set point
IsConfirmed model set (Infeasible proof) = IsProof model set proof.nodes × (AreLeavesInOrder proof.nodes × All IsFittingNode proof.nodes)

-- such a verdict, or want of memory
abbrev pub IsConfirmedAnswer : Program → List Member → Result Verdict Stop → Type 0
IsConfirmedAnswer model set (Ok verdict) = IsConfirmed model set verdict
IsConfirmedAnswer model set (Err stop) = stop ≡ Memory

-- ---- answers
-- a verdict of the inner oracle or a confirmed one; a stop of the inner oracle or want of memory
abbrev pub IsQuickAnswer : Relation → Program → Budgets → List Member → Result Verdict Stop → Type 0
IsQuickAnswer answers model budgets set (Ok verdict) = answers model budgets set (Ok verdict) ⊎ IsConfirmed model set verdict
IsQuickAnswer answers model budgets set (Err stop) = answers model budgets set (Err stop) ⊎ (stop ≡ Memory)

-- the inner oracle was asked once, for just this set, and what it answered is the result, or there is want of memory
pub record IsAsked (answers : Relation) (before after : OracleState) (set : List Member) (result : Result Verdict Stop) : Type 0 where
  pub answer : Result Verdict Stop
  pub answered : answers before.model before.budgets set answer
  pub told : after ≡ asked_after before set answer
  pub given : (result ≡ answer) ⊎ (result ≡ Err Memory)

-- an answer that a number did not fit
abbrev pub IsWide : Result Verdict Stop → Type 0
IsWide (Ok verdict) = ⊥
IsWide (Err (Wide site turn wide)) = ⊤
IsWide (Err (Pivots site)) = ⊥
IsWide (Err (Nodes site)) = ⊥
IsWide (Err (Large size)) = ⊥
IsWide (Err Memory) = ⊥

-- The inner oracle was asked once, for just this set. The result is what it answered; or where a number did not fit there, a confirmed verdict; or there is want of memory
pub record IsAskedFirst (answers : Relation) (before after : OracleState) (set : List Member) (result : Result Verdict Stop) : Type 0 where
  pub answer : Result Verdict Stop
  pub answered : answers before.model before.budgets set answer
  pub told : after ≡ asked_after before set answer
  pub given : (result ≡ answer) ⊎ (IsWide answer × IsConfirmedAnswer before.model set result) ⊎ (result ≡ Err Memory)

-- the inner oracle was not asked, and the result is a confirmed verdict or want of memory; or it was asked first
pub data Came (answers : Relation) (before after : OracleState) (set : List Member) (result : Result Verdict Stop) : Type 0 where
  unasked : after ≡ before → IsConfirmedAnswer before.model set result → Came answers before after set result
  asked : IsAskedFirst answers before after set result → Came answers before after set result

-- ---- the laws
-- a confirmed verdict holds
confirmed_holds : (model : Program) (set : List Member) (verdict : Verdict) → IsConfirmed model set verdict → IsVerdict model set verdict
confirmed_holds model set (Feasible point) h = h
confirmed_holds model set (Infeasible proof) h = h.0

module _ (answers : Relation) (model : Program) (budgets : Budgets) (set : List Member) where
  pub quick_holds : (verdict : Verdict) → (answers model budgets set (Ok verdict) → IsVerdict model set verdict) → IsQuickAnswer answers model budgets set (Ok verdict) → IsVerdict model set verdict
  quick_holds verdict holds (inl h) = holds h
  quick_holds verdict holds (inr h) = confirmed_holds model set verdict h

  -- the shares of each leaf stand in order
  pub quick_ordered : (proof : Proof) → (answers model budgets set (Ok (Infeasible proof)) → AreLeavesInOrder proof.nodes) → IsQuickAnswer answers model budgets set (Ok (Infeasible proof)) → AreLeavesInOrder proof.nodes
  quick_ordered proof ordered (inl h) = ordered h
  quick_ordered proof ordered (inr h) = h.1.0

  -- a stop is within the set
  pub quick_within : (stop : Stop) → (answers model budgets set (Err stop) → IsSiteWithin set stop) → IsQuickAnswer answers model budgets set (Err stop) → IsSiteWithin set stop
  quick_within stop within (inl h) = within h
  quick_within stop within (inr memory) = subst (IsSiteWithin set) (sym memory) tt
