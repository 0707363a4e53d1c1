-- The first core, and what is asked for inside it.
use Rattle.std.proofs.Common.{◌≡◌, refl, ◌∙◌, ap, subst, List, None, Some, Ok, Err}
use Rattle.std.specs.Prelude.{Contains, Option, Result, IfErr, IfOk}
use Rattle.std.specs.List.{list_any}
use Rattle.std.proofs.lemmas.List.Elements.{All-contains_itself, All-filter}
use Rattle.lp_model.specs.declared.members.Member.{Member}
use Rattle.lp_model.specs.Satisfaction.{IsPart}
use Rattle.certs.specs.declared.evidence.Node.{Node}
use Rattle.certs.specs.declared.evidence.Proof.{Proof}
use Rattle.certs.specs.declared.solving.Irreducible.{Irreducible}
use Rattle.certs.specs.declared.solving.Irreducible.TheVariants.{Set, Feasible}
use Rattle.certs.specs.declared.solving.Stop.{Stop}
use Rattle.certs.specs.declared.solving.Verdict.{Verdict}
use Rattle.certs.specs.declared.solving.Verdict.TheVariants.{Infeasible}
use Rattle.certs.specs.Answers.{AnswersAt}
use Rattle.certs.specs.Filter.{IsLateTest, Late}
use Rattle.certs.specs.Named.{node_uses, used_members}
use Rattle.certs.specs.Tales.{FirstCore, OracleState, asked_after, first_core_after}
use Rattle.filter_steps.specs.Isolated.{IsReduced, IsStoppedAt}
use Rattle.filter_steps.proofs.Answering.{stopped_later}
use Rattle.sensitivity_filter.specs.Cores.{IsCoreTest, IsFirstCoreOf, IsLateOfCore, within}
use Rattle.sensitivity_filter.specs.Pairs.{Relation}

-- the members of a set that a proof uses are a part of it
pub used_is_part : (set : List Member) (nodes : List Node) → IsPart (used_members set nodes) set
used_is_part set nodes = All-filter (λ m. list_any (node_uses m) nodes) (Contains set) set (All-contains_itself set)

-- a core as it is told
abbrev pub core_of : List Member → List Node → FirstCore
core_of set nodes = record { core = used_members set nodes; asked = set }

module _ (answers : Relation) (before now : OracleState) (set : List Member) (verdict : Verdict) (proof : Proof) (asked : now ≡ asked_after before set (Ok verdict)) (is : verdict ≡ Infeasible proof) where
  -- the first proof that is answered tells it
  pub core_told : before.tale.first_core ≡ None → now.tale.first_core ≡ Some (core_of set proof.nodes)
  core_told fresh =
      ap (λ (s : OracleState). s.tale.first_core) asked
      ∙ ap (λ (v : Verdict). first_core_after before.tale.first_core set (Ok v)) is
      ∙ ap (λ (o : Option FirstCore). first_core_after o set (Ok (Infeasible proof))) fresh

  -- and it stays told
  pub told_core : (first : Option FirstCore) → answers before.model before.budgets set (Ok verdict) → first ≡ Some (core_of set proof.nodes) → IsFirstCoreOf (AnswersAt answers before) first set (used_members set proof.nodes)
  told_core first answered told = record {
    part = used_is_part set proof.nodes;
    answered = record { proof = proof; answered = subst (λ (v : Verdict). answers before.model before.budgets set (Ok v)) is answered; core_is = refl };
    told = told;
  }

module _ (answers : Relation) where
  -- what a late filter leaves of it
  pub found_in_core : (Answers : List Member → Result Verdict Stop → Type 0) (state : OracleState) (first : Option FirstCore) (set core : List Member) (given : List Node) → IsFirstCoreOf Answers first set core → (result : Result Irreducible Stop)
      → IfOk result (IsReduced Late answers state core given) → IfOk result (IsReduced (IsLateOfCore Answers first) answers state set given)
  found_in_core Answers state first set core given is (Ok (Set members witnesses proof)) h = record {
    same = h.same;
    kept = record { core = core; is_core = is; late = h.kept };
    proof = h.proof;
    told = h.told;
    witnesses = h.witnesses;
    irreducible = h.irreducible;
  }
  found_in_core Answers state first set core given is (Ok (Feasible point)) h = absurd h
  found_in_core Answers state first set core given is (Err stop) h = tt

  -- and where it stops, after the ask for the whole set
  pub stopped_in_core : (before now after : OracleState) (first : Option FirstCore) (set core : List Member) (verdict : Verdict) → now ≡ asked_after before set (Ok verdict) → IsFirstCoreOf (AnswersAt answers before) first set core
      → {A : Type 0} (result : Result A Stop) → IfErr result (IsStoppedAt IsLateTest answers core now after) → IfErr result (IsStoppedAt (IsCoreTest (AnswersAt answers before) first) answers set before after)
  stopped_in_core before now after first set core verdict e is (Ok a) h = tt
  stopped_in_core before now after first set core verdict e is (Err stop) h =
      stopped_later answers (IsCoreTest (AnswersAt answers before) first) IsLateTest set core before (asked_after before set (Ok verdict)) after stop refl refl refl (λ asked t. within is t)
      (subst (λ (s : OracleState). IsStoppedAt IsLateTest answers core s after stop) e h)
