use Rattle.std.proofs.Common.{subst, List, arith}
use Rattle.certs.specs.declared.evidence.Branch.{Branch}
use Rattle.certs.specs.Paths.{HasTightest}
use Rattle.certs.proofs.Tightest.{never_empty, tightest_popped}
use Rattle.certs.proofs.paths.BranchPath.pop.Goals as goal

pub invariant_of-self-in-Some : goal.invariant_of-self-in-Some
invariant_of-self-in-Some c =
    let i = c.self.inside in
    tightest_popped c.pop.new.self.items c.in_ok-branch.branch i.columns.items i.before.items c.pop-2.new.self.items c.in-Some.tightest
    (subst (λ (l : List Branch). HasTightest l i.columns.items i.before.items) c.in_ok-branch.ensures.items c.self.invariant) c.in-Some.ensures.items

pub invariant_of-self-in_default : goal.invariant_of-self-in_default
invariant_of-self-in_default c =
    let i = c.self.inside in
    absurd
    (never_empty c.pop.new.self.items c.in_ok-branch.branch i.columns.items i.before.items
    (subst (λ (l : List Branch). HasTightest l i.columns.items i.before.items) c.in_ok-branch.ensures.items c.self.invariant) (omega (arith, c.in_default.ensures.cases.0)))
