-- What is told of how little must give way.
use Rattle.std.specs.Prelude.{◌≡◌, true}
use Rattle.lp_model.specs.Program.{Program}
use Rattle.lp_model.specs.Members.{active_members}
use Rattle.lp_model.specs.Satisfaction.{IsPart}
use Rattle.certs.specs.Sites.{Budgets}
use Rattle.certs.specs.Violation.{rigid_members}
use Rattle.least_checks.specs.Least.{IsLeastBy}
use Rattle.relaxation.specs.Relaxed.{IsRelaxStop}
use Rattle.report_text.specs.declared.report.ToldStop.{ToldStop}
use Rattle.report_text.specs.declared.report.Answer.{Answer}
use Rattle.report_text.specs.declared.report.Answer.TheVariants.{Least, RigidInfeasible, Stopped}
use Rattle.report_text.specs.Form.{is_one_leaf}
use Rattle.analysis.specs.Linear.{IsLinearly, elastic_size}
use Rattle.analysis.specs.Stops.{IsAtRun, IsRefutation}

-- the run of the active members' elastic system, their rigid part enforced, stops so within the pivots
abbrev pub IsEasedStop : Program → Budgets → ToldStop → Type 0
IsEasedStop model budgets stop = IsAtRun model (λ site s. IsRelaxStop model (active_members model) budgets.pivots s) stop

-- A point of least weighted violation, with a dual that shows so; or rigid active members that no point satisfies, with a combination of them as a proof of one leaf; or a stop of that run.
abbrev pub IsLeastTold : Program → Budgets → Answer → Type 0
IsLeastTold model budgets (Least point dual) = IsLeastBy model (active_members model) point dual
IsLeastTold model budgets (RigidInfeasible printed proof) = IsRefutation model printed proof × (IsPart printed.members (rigid_members model (active_members model)) × (is_one_leaf proof.nodes ≡ true))
IsLeastTold model budgets (Stopped stop) = IsEasedStop model budgets stop
IsLeastTold model budgets _ = ⊥

-- what is right to `relax`
abbrev pub IsRelaxation : Program → Budgets → Answer → Type 0
IsRelaxation model budgets answer = IsLinearly model (elastic_size model (active_members model) (rigid_members model (active_members model))) (IsLeastTold model budgets) answer
