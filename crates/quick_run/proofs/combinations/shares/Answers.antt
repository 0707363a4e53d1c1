use Rattle.std.proofs.Common.{sym, subst, List}
use Rattle.std.specs.Prelude.{All}
use Rattle.certs.specs.declared.evidence.Share.{Share}
use Rattle.quick_run.specs.Shape.{IsShareOf}
use Rattle.quick_run.proofs.combinations.shares.Goals as goal

pub returns-clause-shares : goal.returns-clause-shares
returns-clause-shares c =
    let set = c.args.set.now.members in
    let path = c.args.path.now in
    subst (λ (l : List Share). All (IsShareOf set path) l) (sym c.new.ensures) (c.in_ok-push_branches.ensures.shares set (c.in_ok-shares.ensures.shares path))
