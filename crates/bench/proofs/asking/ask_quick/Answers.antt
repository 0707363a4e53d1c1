use Rattle.std.proofs.Common.{ap, sym, ◌∙◌, subst}
use Rattle.lp_model.specs.Program.{Program}
use Rattle.certs.specs.Checks.{IsSetOf}
use Rattle.linear_oracle.specs.Value.{OracleValue}
use Rattle.branch_oracle.specs.Value.{BranchValue}
use Rattle.bench.proofs.Served.{plain_served}
use Rattle.quick_answers.specs.Value.{QuickValue}
use Rattle.bench.proofs.asking.ask_quick.Goals as goal

pub isolate_with-given-requires-clause-served : goal.isolate_with-given-requires-clause-served
isolate_with-given-requires-clause-served c = plain_served c.in_ok-set.set.members

pub isolate_with-given-requires-clause-served_later : goal.isolate_with-given-requires-clause-served_later
isolate_with-given-requires-clause-served_later c = plain_served c.in_ok-set.set.members

pub asked-end-requires : goal.asked-end-requires
asked-end-requires c =
    let model = ap (λ (q : QuickValue (BranchValue OracleValue)). q.inner.inner.model) c.new-quick.ensures ∙ c.reference_of-inner.ensures.program in
    record {
      same = subst (λ (m : Program). IsSetOf m c.in_ok-set.set) (sym model) c.in_ok-set.ensures;
      served = plain_served c.in_ok-set.set.members;
      fresh = ap (λ (q : QuickValue (BranchValue OracleValue)). q.tale.first_core) c.new-quick.ensures;
    }
