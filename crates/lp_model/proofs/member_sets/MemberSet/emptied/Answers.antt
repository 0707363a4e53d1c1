use Rattle.std.proofs.Common.{◌∙◌, ap, []}
use Rattle.lp_model.specs.MemberSets.{SetValue, marked_set}
use Rattle.lp_model.proofs.Marked.{no_marks, set_of}
use Rattle.lp_model.proofs.member_sets.MemberSet.emptied.Goals as goal

pub returns : goal.returns
returns c =
    let i = c.self.inside in
    ap (marked_set i.rows i.columns) (c.in_ok-vec.ensures.items_if_clones_equal (λ y h. h))
    ∙ (ap (set_of i.rows i.columns) (no_marks i.rows i.columns c.len.result)
    ∙ ap (λ (s : SetValue). record s { members = [] }) c.self.view_is)
