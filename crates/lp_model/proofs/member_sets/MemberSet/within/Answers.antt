use Rattle.std.proofs.Common.{rules}
use Rattle.lp_model.proofs.Compared.{within_seen}
use Rattle.lp_model.proofs.member_sets.MemberSet.within.Goals as goal

pub returns : goal.returns
returns c =
    let i = c.self.inside in
    let o = c.other.inside in
    let is =
    within_seen i.rows i.columns o.rows o.columns c.as_slice-words.result.now c.as_slice.result.now i.words.items o.words.items c.args.self.now c.args.other.now
    c.as_slice-words.ensures.value c.as_slice.ensures.value c.self.view_is c.other.view_is c.requires.rows c.requires.columns c.self.invariant (λ k. search rules) in
    (λ e. is.0 (c.subset.ensures.0 e), λ h. c.subset.ensures.1 (is.1 h))
