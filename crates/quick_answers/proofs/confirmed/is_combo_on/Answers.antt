use Rattle.std.proofs.Common.{◌≡◌, sym, ◌∙◌, subst, List, true}
use Rattle.certs.specs.declared.evidence.Share.{Share}
use Rattle.certs.specs.Order.{are_in_order}
use Rattle.certs.proofs.PlainOrder.{in_order_by_test}
use Rattle.quick_answers.proofs.Confirming.{combo_confirmed}
use Rattle.quick_answers.proofs.confirmed.is_combo_on.Goals as goal

pub returns : goal.returns
returns c = λ yes.
    let shares = c.args.combo.now.shares in
    let passes = subst (λ (l : List Share). are_in_order l ≡ true) c.as_slice.ensures (sym c.are_in_order.ensures ∙ c.if-not-are_in_order.false) in (
      combo_confirmed c.args.model.now c.args.set.now.members c.args.path.now shares c.row_count-rows.ensures.well_formed c.requires.known (sym (c.is_yes.ensures yes) ∙ c.check_combo.ensures.said),
      in_order_by_test shares passes,
    )
