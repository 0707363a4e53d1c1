-- What an oracle by trees answers: to a set without marks what the inner oracle does, and to one with a mark its tree.
use Rattle.std.specs.Prelude.{◌≡◌, ◌⊎◌, ℕ, true, not, List, Result, Ok, Err, Contains}
use Rattle.std.proofs.Common.{inl, inr, subst, sym, get_or}
use Rattle.std.proofs.lemmas.List.Elements.{All-filter, filter_passes}
use Rattle.lp_model.specs.declared.members.Member.{Member}
use Rattle.lp_model.specs.Program.{Program}
use Rattle.lp_model.specs.Members.{is_mark}
use Rattle.lp_model.specs.Satisfaction.{IsPart}
use Rattle.lp_model.proofs.Sets.{Contains-filter}
use Rattle.certs.specs.declared.evidence.Proof.{Proof}
use Rattle.certs.specs.declared.solving.Stop.{Stop}
use Rattle.certs.specs.declared.solving.Stop.TheVariants.{Memory}
use Rattle.certs.specs.declared.solving.Verdict.{Verdict}
use Rattle.certs.specs.declared.solving.Verdict.TheVariants.{Infeasible}
use Rattle.certs.specs.Answers.{IsPlainAnswer, IsReferenceAnswer, IsTreeAnswer, is_linear}
use Rattle.certs.specs.Bound.{without_marks}
use Rattle.certs.specs.Order.{AreLeavesInOrder}
use Rattle.certs.specs.Sites.{Budgets}
use Rattle.certs.specs.Tales.{IsSiteWithin, IsVerdict, OracleState, asked_after}
use Rattle.branch_proof.proofs.TreeAnswers.{tree_holds, tree_ordered, tree_within}

-- what answers are to an ask, by the program and what a solve may spend
abbrev pub Relation : Type 1
Relation = Program → Budgets → List Member → Result Verdict Stop → Type 0

-- ---- answers
-- the inner oracle was asked once, for just this set, and what it answered is the result, or there is want of memory
pub record IsAsked (answers : Relation) (before after : OracleState) (set : List Member) (result : Result Verdict Stop) : Type 0 where
  pub answer : Result Verdict Stop
  pub answered : answers before.model before.budgets set answer
  pub told : after ≡ asked_after before set answer
  pub given : (result ≡ answer) ⊎ (result ≡ Err Memory)

-- no member is a mark, and the result is what an inner oracle with the same pivots answers to the set, or there is want of memory
pub record IsInnerAnswer (answers : Relation) (model : Program) (budgets : Budgets) (set : List Member) (result : Result Verdict Stop) : Type 0 where
  pub linear : is_linear set ≡ true
  pub nodes : ℕ
  pub answer : Result Verdict Stop
  pub answered : answers model (record { pivots = budgets.pivots; nodes = nodes }) set answer
  pub given : (result ≡ answer) ⊎ (result ≡ Err Memory)

-- the inner oracle's answer to a set without marks, or that of the tree of one with a mark
abbrev pub IsBranchAnswer : Relation → Program → Budgets → List Member → Result Verdict Stop → Type 0
IsBranchAnswer answers model budgets set result = IsInnerAnswer answers model budgets set result ⊎ IsTreeAnswer model budgets set result

-- over an inner oracle that answers by runs of plain systems, the answers are those of the reference
abbrev pub ReferenceLaw : Type 0
ReferenceLaw = (model : Program) (budgets : Budgets) (set : List Member) (result : Result Verdict Stop)
    → IsBranchAnswer (λ program allowed asked answer. IsPlainAnswer program allowed.pivots asked answer) model budgets set result → IsReferenceAnswer model budgets set result

-- ---- the laws
-- a part without its marks is one of the whole without its marks
pub part_without_marks : (set part : List Member) → IsPart part set → IsPart (without_marks part) (without_marks set)
part_without_marks set part of k d l =
    Contains-filter (λ m. not (is_mark m)) set (get_or (without_marks part) k d)
    (All-filter (λ m. not (is_mark m)) (Contains set) part of k d l) (filter_passes (λ m. not (is_mark m)) part k d l)

-- what holds of the inner oracle's verdict holds of one that is given for it
given_verdict : (P : Type 0) (verdict : Verdict) (answer : Result Verdict Stop) (Given : Result Verdict Stop → Type 0) → (Given (Ok verdict) → P) → Given answer → (Ok verdict ≡ answer) ⊎ (Ok verdict ≡ Err Memory) → P
given_verdict P verdict answer Given holds h (inl e) = holds (subst Given (sym e) h)
given_verdict P verdict answer Given holds h (inr e) = absurd (let impossible : ⊥ = cc in impossible)

-- and of its stop
given_stop : (P : Stop → Type 0) (stop : Stop) (answer : Result Verdict Stop) (Given : Result Verdict Stop → Type 0) → P Memory → (Given (Err stop) → P stop) → Given answer → (Err stop ≡ answer) ⊎ (◌≡◌ {A = Result Verdict Stop} (Err stop) (Err Memory)) → P stop
given_stop P stop answer Given memory holds h (inl e) = holds (subst Given (sym e) h)
given_stop P stop answer Given memory holds h (inr e) = let is : stop ≡ Memory = cc in subst P (sym is) memory

module _ (answers : Relation) (model : Program) (budgets : Budgets) (set : List Member) where
  pub branch_holds : (verdict : Verdict) → ((allowed : Budgets) → answers model allowed set (Ok verdict) → IsVerdict model set verdict) → IsBranchAnswer answers model budgets set (Ok verdict) → IsVerdict model set verdict
  branch_holds verdict holds (inl h) =
      let allowed : Budgets = record { pivots = budgets.pivots; nodes = h.nodes } in
      given_verdict (IsVerdict model set verdict) verdict h.answer (answers model allowed set) (holds allowed) h.answered h.given
  branch_holds verdict holds (inr h) = tree_holds model budgets set verdict h

  -- the shares of each leaf stand in order
  pub branch_ordered : (proof : Proof) → ((allowed : Budgets) → answers model allowed set (Ok (Infeasible proof)) → AreLeavesInOrder proof.nodes) → IsBranchAnswer answers model budgets set (Ok (Infeasible proof)) → AreLeavesInOrder proof.nodes
  branch_ordered proof ordered (inl h) =
      let allowed : Budgets = record { pivots = budgets.pivots; nodes = h.nodes } in
      given_verdict (AreLeavesInOrder proof.nodes) (Infeasible proof) h.answer (answers model allowed set) (ordered allowed) h.answered h.given
  branch_ordered proof ordered (inr h) = tree_ordered model budgets set proof h

  -- a stop is within the set
  pub branch_within : (stop : Stop) → ((allowed : Budgets) → answers model allowed set (Err stop) → IsSiteWithin set stop) → IsBranchAnswer answers model budgets set (Err stop) → IsSiteWithin set stop
  branch_within stop within (inl h) =
      let allowed : Budgets = record { pivots = budgets.pivots; nodes = h.nodes } in
      given_stop (IsSiteWithin set) stop h.answer (answers model allowed set) tt (within allowed) h.answered h.given
  branch_within stop within (inr h) = tree_within model budgets set stop h
