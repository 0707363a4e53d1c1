use Rattle.std.proofs.Common.{ℕ, subst, inr}
use Rattle.lp_model.specs.Program.{Program}
use Rattle.certs.specs.Answers.{IsPlainVerdict}
use Rattle.presolve_laws.specs.Answers.{set_system}
use Rattle.presolve_laws.specs.Eased.{IsEased}
use Rattle.presolve_oracle.specs.Easing.{IsEasingEnd}
use Rattle.presolve_oracle.proofs.oracle.answered.Goals as goal

pub returns-in-Uneased-clause-answer : goal.returns-in-Uneased-clause-answer
returns-in-Uneased-clause-answer c =
    let model = c.args.model.now in
    let set = c.args.set.now.members in
    let none : IsEased (set_system model set) c.pivots.result → ⊥ = subst (IsEasingEnd model set c.pivots.result) c.in-Uneased.is c.in-Ok.ensures.eased in
    inr (record {
      not_eased = subst (λ (n : ℕ). IsEased (set_system model set) n → ⊥) c.pivots.ensures.pivots none;
      ends = subst (λ (m : Program). IsPlainVerdict m set c.args.inner.now.pivots c.ask.result) c.requires.program c.ask.ensures.answered.ends;
    })
