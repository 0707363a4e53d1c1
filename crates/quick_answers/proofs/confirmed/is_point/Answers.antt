use Rattle.std.proofs.Common.{sym, ◌∙◌, ap, length}
use Rattle.quick_answers.proofs.Confirming.{point_confirmed}
use Rattle.quick_answers.proofs.confirmed.is_point.Goals as goal

pub returns : goal.returns
returns c = λ yes.
    let each = sym (ap length c.as_slice.ensures) ∙ c.if-as_slice-column_count.false ∙ c.column_count.ensures.count in
    point_confirmed c.args.model.now c.args.set.now.members c.args.point.now each (sym (c.is_yes.ensures yes) ∙ c.check_point.ensures.said)
