use Rattle.std.proofs.Common.{◌++◌, ◌∷◌, [], sym, subst, ◌∙◌, List, set}
use Rattle.std.proofs.lemmas.List.{get_or_read}
use Rattle.certs.specs.declared.evidence.Branch.{Branch}
use Rattle.certs.specs.declared.paths.Tightest.{Tightest}
use Rattle.certs.specs.Paths.{unbranched, HasTightest}
use Rattle.certs.proofs.Tightest.{kept_ok, tightest_in_room, tightest_pushed}
use Rattle.certs.proofs.paths.BranchPath.push.Goals as goal

pub invariant_of-self-2 : goal.invariant_of-self-2
invariant_of-self-2 c =
    let i = c.self.inside in
    let b = c.args.branch in
    let room = c.in_ok-make_room.ensures in
    let columns = c.make_room.new.columns.items in
    let t = c.index-tightest.result.now in
    let made = set columns b.column c.with_branch.result in
    let path = kept_ok c.push-2.result c.push-2.new.self.items (i.branches.items ++ b ∷ []) i.branches.items (sym c.is_err.ensures.value ∙ c.if-is_err.false) c.push-2.ensures.items in
    let all =
    tightest_pushed i.branches.items b columns i.before.items t c.with_branch.result (tightest_in_room i.branches.items i.columns.items columns i.before.items c.self.invariant room.longer room.same)
    c.requires room.room (get_or_read columns b.column t room.room c.index-tightest.ensures unbranched) c.with_branch.ensures in
    subst (λ (l : List Branch). HasTightest l made c.push.new.self.items) (sym path)
    (subst (λ (l : List Tightest). HasTightest (i.branches.items ++ b ∷ []) made l) (sym c.in_ok-push.ensures.items) all)
