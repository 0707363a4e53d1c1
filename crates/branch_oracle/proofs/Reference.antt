-- Over runs of plain systems an oracle by trees answers what the reference does.
use Rattle.std.proofs.Common.{◌≡◌, sym, subst, List, Err, inl, inr}
use Rattle.std.specs.Prelude.{Result, ◌⊎◌}
use Rattle.lp_model.specs.declared.members.Member.{Member}
use Rattle.lp_model.specs.Program.{Program}
use Rattle.certs.specs.declared.solving.Stop.{Stop}
use Rattle.certs.specs.declared.solving.Stop.TheVariants.{Memory}
use Rattle.certs.specs.declared.solving.Verdict.{Verdict}
use Rattle.certs.specs.Answers.{IsPlainAnswer, IsPlainVerdict}
use Rattle.certs.specs.Sites.{Budgets}
use Rattle.branch_oracle.specs.Answers.{ReferenceLaw}

-- an answer that is passed on, or want of memory for it
passed_on : (model : Program) (budgets : Budgets) (set : List Member) (result answer : Result Verdict Stop) → IsPlainAnswer model budgets.pivots set answer → (result ≡ answer) ⊎ (result ≡ Err Memory)
    → IsPlainAnswer model budgets.pivots set result
passed_on model budgets set result answer h (inl e) = subst (IsPlainAnswer model budgets.pivots set) (sym e) h
passed_on model budgets set result answer h (inr e) = record { asked = h.asked; ends = subst (IsPlainVerdict model set budgets.pivots) (sym e) tt }

pub reference_answer : ReferenceLaw
reference_answer model budgets set result (inl h) = inl (passed_on model budgets set result h.answer h.answered h.given)
reference_answer model budgets set result (inr h) = inr h
