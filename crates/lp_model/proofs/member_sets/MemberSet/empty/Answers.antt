use Rattle.std.proofs.Common.{◌∙◌, ap, ℕ, [], length}
use Rattle.lp_model.specs.MemberSets.{marked_set}
use Rattle.lp_model.proofs.Marked.{no_marks, set_of}
use Rattle.lp_model.proofs.member_sets.MemberSet.empty.Goals as goal

pub returns : goal.returns
returns c =
    let rows = c.row_count-rows.result in
    let columns = c.column_count-columns.result in
    ap (marked_set rows columns) (c.in_ok-words.ensures.items_if_clones_equal (λ y h. h))
    ∙ (ap (set_of rows columns) (no_marks rows columns c.count_words.result)
    ∙ (ap (λ (n : ℕ). set_of n columns []) c.row_count-rows.ensures.count ∙ ap (λ (n : ℕ). set_of (length c.args.model.now.rows) n []) c.column_count-columns.ensures.count))
