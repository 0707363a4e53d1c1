use Rattle.lp_model.proofs.Walk.{all_follow}
use Rattle.lp_model.proofs.member_sets.MemberSet.iter.Goals as goal

pub returns : goal.returns
returns c = all_follow c.args.self.now.members
