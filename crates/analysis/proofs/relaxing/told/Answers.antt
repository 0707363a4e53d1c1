use Rattle.std.proofs.Common.{sym, subst}
use Rattle.lp_model.specs.Members.{active_members}
use Rattle.certs.specs.declared.evidence.Point.{Point}
use Rattle.relaxation.specs.declared.relaxing.Relaxed.{Relaxed}
use Rattle.relaxation.specs.Relaxed.{IsRelaxed}
use Rattle.analysis.proofs.relaxing.told.Goals as goal

pub returns-in_ok-of-in-Least : goal.returns-in_ok-of-in-Least
returns-in_ok-of-in-Least c budgets =
    subst (λ (p : Point). IsRelaxed c.args.model.now (active_members c.args.model.now) (Relaxed.Least p c.in-Least.dual)) (sym c.in_ok-of-in-Least.ensures)
    (subst (λ (r : Relaxed). IsRelaxed c.args.model.now (active_members c.args.model.now) r) c.in-Least.is c.requires.found)

pub returns-in-RigidInfeasible : goal.returns-in-RigidInfeasible
returns-in-RigidInfeasible c budgets = c.rigid_refuted.ensures budgets
