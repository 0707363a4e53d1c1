use Rattle.std.proofs.Common.{◌≡◌, ℕ, length, sym, subst, filter}
use Rattle.lp_model.specs.Members.{has}
use Rattle.lp_model.specs.MemberSets.{members_for}
use Rattle.report_text.proofs.Ordered.{listed_all}
use Rattle.report_text.proofs.listed.MemberList.new.Goals as goal

pub invariant_of-result : goal.invariant_of-result
invariant_of-result c =
    let model = c.args.model.now in
    let list = c.args.members.items in
    subst (λ (n : ℕ). list ≡ filter (has list) (members_for n c.column_count.result)) (sym c.row_count.ensures.count)
    (subst (λ (n : ℕ). list ≡ filter (has list) (members_for (length model.rows) n)) (sym c.column_count.ensures.count)
    (listed_all (length model.rows) (length model.columns) list c.requires.possible c.requires.in_order))
