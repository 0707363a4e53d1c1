use Rattle.quick_run.proofs.Building.{branches, passes}
use Rattle.quick_run.proofs.combinations.push_branches.Goals as goal
use Rattle.quick_run.proofs.combinations.push_branches.Goals.{in-Some+in_ok-push, in_default}

pub loop-column-preserved : goal.loop-column-preserved
loop-column-preserved c =
    let path = c.args.path.now in
    let first = c.args.shares.now.items in
    let shares = c.loop-column.shares.items in
    let column = c.loop-column.column in
    elim c.match-branch_share.branch [
      | in-Some+in_ok-push w ↦
          rw (w.shares-is, w.in_ok-push.ensures.items) (branches path first shares column w.in-Some.share w.in-Some.ensures.0 w.in-Some.ensures.1 c.loop-column.invariant)
      | in_default w ↦ rw w.shares-is (passes path first shares column c.loop-column.invariant)
    ]
