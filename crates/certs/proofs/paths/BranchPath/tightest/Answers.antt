use Rattle.std.proofs.Common.{◌≡◌, ◌<◌, ◌≤◌, sym, subst, ◌∙◌, IfSome, length, unsigned_abs, arith}
use Rattle.std.proofs.lemmas.List.{get_or_read}
use Rattle.frac128.specs.Limit.{limit}
use Rattle.certs.specs.declared.paths.Tightest.{Tightest}
use Rattle.certs.specs.Paths.{unbranched, tightest_on}
use Rattle.certs.proofs.PathNumbers.{least_fits, greatest_fits}
use Rattle.certs.proofs.paths.BranchPath.tightest.Goals as goal
use Rattle.certs.proofs.paths.BranchPath.tightest.Goals.{After-index}

-- what is read is what the path says
here : (c : After-index) → c.index.result.now ≡ tightest_on c.self.inside.branches.items c.args.column
here c =
    let known : c.args.column < length c.self.inside.columns.items = omega arith in
    get_or_read c.self.inside.columns.items c.args.column c.index.result.now known c.index.ensures unbranched ∙ c.self.invariant.on c.args.column

pub returns-then-column-len-clause-upper : goal.returns-then-column-len-clause-upper
returns-then-column-len-clause-upper c =
    subst (λ (t : Tightest). IfSome t.upper (λ n. unsigned_abs n ≤ limit)) (sym (here (goal.at.returns-then-column-len-clause-upper c).After-index))
    (least_fits c.self.inside.branches.items c.args.column c.self.invariant.fitting)

pub returns-then-column-len-clause-lower : goal.returns-then-column-len-clause-lower
returns-then-column-len-clause-lower c =
    subst (λ (t : Tightest). IfSome t.lower (λ n. unsigned_abs n ≤ limit)) (sym (here (goal.at.returns-then-column-len-clause-lower c).After-index))
    (greatest_fits c.self.inside.branches.items c.args.column c.self.invariant.fitting)
