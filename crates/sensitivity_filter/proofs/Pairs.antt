-- What a later oracle gives inside the first core, as what two oracles give.
use Rattle.std.proofs.Common.{◌≡◌, ap, subst, List, Ok, Err, inl, inr}
use Rattle.std.specs.Prelude.{◌⊎◌, Option, Result, IfErr, IfOk}
use Rattle.lp_model.specs.declared.members.Member.{Member}
use Rattle.lp_model.specs.Program.{Program}
use Rattle.certs.specs.declared.evidence.Node.{Node}
use Rattle.certs.specs.declared.evidence.Proof.{Proof}
use Rattle.certs.specs.declared.solving.Irreducible.{Irreducible}
use Rattle.certs.specs.declared.solving.Irreducible.TheVariants.{Set, Feasible}
use Rattle.certs.specs.declared.solving.Stop.{Stop}
use Rattle.certs.specs.declared.solving.Verdict.{Verdict}
use Rattle.certs.specs.declared.solving.Verdict.TheVariants.{Infeasible}
use Rattle.certs.specs.Answers.{AnswersAt, IsAnsweredProof}
use Rattle.certs.specs.Filter.{IsLateTest, Late}
use Rattle.certs.specs.Tales.{FirstCore, OracleState, asked_after}
use Rattle.filter_steps.specs.Isolated.{IsIsolated, IsIsolation, IsReduced, IsStoppedAt, isolated_of}
use Rattle.sensitivity_filter.specs.Cores.{IsFirstCoreOf, IsLateOfCore}
use Rattle.sensitivity_filter.specs.Pairs.{IsStoppedWith, Relation, at_core, either}

module _ (answers others : Relation) (before later : OracleState) (set core : List Member) (verdict : Verdict) (proof : Proof) (is : verdict ≡ Infeasible proof) (answered : answers before.model before.budgets set (Ok verdict)) where
  -- the proof that was given was answered by the first oracle, and any other by the later one
  told_by_either : (nodes : List Node) → (nodes ≡ proof.nodes) ⊎ IsAnsweredProof (AnswersAt others later) nodes → later.model ≡ before.model → IsAnsweredProof (AnswersAt (either answers others later.budgets) before) nodes
  told_by_either nodes (inl same) e = record { asked = set; proof = proof; answered = inl (subst (λ (v : Verdict). answers before.model before.budgets set (Ok v)) is answered); nodes_are = same }
  told_by_either nodes (inr h) e = record {
    asked = h.asked;
    proof = h.proof;
    answered = inr (subst (λ (m : Program). others m later.budgets h.asked (Ok (Infeasible h.proof))) e h.answered);
    nodes_are = h.nodes_are;
  }

  -- what a late filter leaves of the core
  pub found_by_either : (first : Option FirstCore) → later.model ≡ before.model → IsFirstCoreOf (AnswersAt answers before) first set core → (result : Result Irreducible Stop) → IfOk result (IsReduced Late others later core proof.nodes)
      → IfOk result (IsIsolation (IsLateOfCore (AnswersAt answers before) first) (either answers others later.budgets) before set)
  found_by_either first e is_core (Ok (Set members witnesses found)) h =
      let k : IsIsolated (Late before.model core) (λ nodes. (nodes ≡ proof.nodes) ⊎ IsAnsweredProof (AnswersAt others later) nodes) before.model (isolated_of members witnesses.items found.nodes) =
      subst (λ (m : Program). IsIsolated (Late m core) (λ nodes. (nodes ≡ proof.nodes) ⊎ IsAnsweredProof (AnswersAt others later) nodes) m (isolated_of members witnesses.items found.nodes)) e h in
      record {
        same = k.same;
        kept = record { core = core; is_core = is_core; late = k.kept };
        proof = k.proof;
        told = told_by_either found.nodes k.told e;
        witnesses = k.witnesses;
        irreducible = k.irreducible;
      }
  found_by_either first e is_core (Ok (Feasible point)) h = absurd h
  found_by_either first e is_core (Err stop) h = tt

-- where the later oracle stops, after the ask of the first one
pub stopped_by_later : (answers others : Relation) (set core : List Member) (before now later_before later_after : OracleState) (verdict : Verdict) → now ≡ asked_after before set (Ok verdict) → IsFirstCoreOf (AnswersAt answers before) now.tale.first_core set core
    → {A : Type 0} (result : Result A Stop) → IfErr result (IsStoppedAt IsLateTest others core later_before later_after) → IfErr result (IsStoppedWith answers others set before now later_before later_after)
stopped_by_later answers others set core before now later_before later_after verdict asked is (Ok a) h = tt
stopped_by_later answers others set core before now later_before later_after verdict asked is (Err stop) h = at_core is h (ap (λ (s : OracleState). s.tale.stops) asked)
