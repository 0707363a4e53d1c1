-- Asks for the witnesses of an irreducible set.
use Rattle.std.proofs.Common.{sym, subst, List, ◌∷◌, inl, inr}
use Rattle.std.specs.Prelude.{Result}
use Rattle.lp_model.specs.declared.members.Member.{Member}
use Rattle.lp_model.specs.Members.{IsInOrder}
use Rattle.lp_model.specs.MemberSets.{SetValue, set_without}
use Rattle.lp_model.specs.Program.{Program}
use Rattle.lp_model.specs.Satisfaction.{IsIrreducible, IsSatisfiable}
use Rattle.certs.specs.declared.evidence.Point.{Point}
use Rattle.certs.specs.declared.solving.Stop.{Stop}
use Rattle.certs.specs.declared.solving.Verdict.{Verdict}
use Rattle.certs.specs.Answers.{IsAnsweredStop}
use Rattle.certs.specs.Sites.{Budgets}
use Rattle.quick_answers.proofs.Witnessing.{IsWitnessed, others_are}
use Rattle.presolve_laws.specs.Answers.{IsPresolvedReference}
use Rattle.presolve_oracle.specs.Value.{PresolveValue}
use Rattle.branch_oracle.specs.Value.{BranchValue}
use Rattle.analysis.specs.Answers.{IsOracleOf, IsWitnessStop, oracle_state}
use Rattle.analysis.specs.Right.{IsWithoutOne}
use Rattle.analysis.proofs.Asked.{QuickAnswers}

-- ---- an ask
-- what the oracle answers is so within the budgets
pub answered_within : (program : Program) (allowed : Budgets) (oracle : BranchValue PresolveValue) → IsOracleOf program allowed oracle → (set : List Member) (result : Result Verdict Stop) → QuickAnswers (oracle_state oracle).model (oracle_state oracle).budgets set result
    → QuickAnswers program allowed set result
answered_within program allowed oracle h set result answered =
    subst (λ (p : Program). QuickAnswers p allowed set result) h.model (subst (λ (b : Budgets). QuickAnswers (oracle_state oracle).model b set result) h.budgets answered)

-- ---- without one member
module _ (model : Program) (set : SetValue) (m : Member) (rest : List Member) (points : List Point) (w : IsWitnessed model set.members (m ∷ rest) points) where
  pub others_can : IsInOrder set.members → IsIrreducible model set.members → IsSatisfiable model (set_without set m).members
  others_can order h = subst (IsSatisfiable model) (sym (others_are model set m rest points w order)) (h.minimal w.kept m rest w.is)

  pub others_without : IsInOrder set.members → IsWithoutOne set.members (set_without set m).members
  others_without order = record { front = w.kept; member = m; back = rest; set_is = w.is; others_are = others_are model set m rest points w order }

  pub others_stop : IsInOrder set.members → (budgets : Budgets) (stop : Stop) → IsAnsweredStop (IsPresolvedReference model budgets) (set_without set m).members stop → IsWitnessStop model budgets set.members stop
  others_stop order budgets stop (inl memory) = inl memory
  others_stop order budgets stop (inr answered) = inr ((set_without set m).members, (others_without order, answered))
