use Rattle.std.proofs.Common.{◌≡◌, sym, ◌∙◌, ap, subst, false, List, [], ◌∷◌, length}
use Rattle.std.specs.Prelude.{All}
use Rattle.std.proofs.lemmas.Result.{err_from_is_err_and}
use Rattle.std.proofs.lemmas.List.Elements.{All-head, All-tail}
use Rattle.algebra.proofs.Ring.{x0, x1, x2, ◌:+◌, zero_of}
use Rattle.rational.specs.Rational.{ℚ, ◌+ℚ◌, ◌*ℚ◌, zero_ℚ}
use Rattle.rational.proofs.Field.{ring_ℚ}
use Rattle.rational.proofs.Sums.{nothing_first}
use Rattle.frac128.specs.declared.Op.TheVariants.{Times, Plus}
use Rattle.frac128.specs.Limit.{limit}
use Rattle.frac128.specs.Width.{operation, is_wide}
use Rattle.frac128.specs.Calculation.{first_wide}
use Rattle.frac128.proofs.Calculations.{first_wide-nil}
use Rattle.lp_model.specs.declared.members.Member.{Member}
use Rattle.lp_model.specs.MemberSets.{IsMemberFor}
use Rattle.lp_model.specs.Satisfaction.{values_at}
use Rattle.certs.specs.Checks.{weighted_operations}
use Rattle.certs.specs.Violation.{violation, weighted_violation}
use Rattle.certs.proofs.Possible.{members_for_model}
use Rattle.least_checks.proofs.Missing.{missing_wide, product_wide, sum_wide, sum_fits, soft_sum, rigid_step, rigid_sum, rigid_of}
use Rattle.least_checks.proofs.violations.weighted_violation.Goals as goal

add-zero : (a : ℚ) → a +ℚ zero_ℚ ≡ a
add-zero a = ring_ℚ (a ∷ []) (x0 :+ zero_of) x0 tt

in_turn : (a b c : ℚ) → (a +ℚ b) +ℚ c ≡ a +ℚ (b +ℚ c)
in_turn a b c = ring_ℚ (a ∷ b ∷ c ∷ []) ((x0 :+ x1) :+ x2) (x0 :+ (x1 :+ x2)) tt

pub loop-member-init : goal.loop-member-init
loop-member-init c =
    let model = c.args.model.now in
    let x = values_at c.args.values.now in
    let given = c.into_iter-member-iterator.ensures.into_iter_gives ∙ c.iter-member-items.ensures in
    record {
      known = subst (All (IsMemberFor (length model.rows) (length model.columns))) (sym given) (members_for_model model c.args.set.now c.requires.same c.stands_in_order.ensures.possible);
      width = ap (λ (z : ℚ). first_wide limit (weighted_operations model z c.into_iter-member-iterator.result x)) c.whole-sum.ensures ∙ ap (λ (l : List Member). first_wide limit (weighted_operations model zero_ℚ l x)) given;
      sum = ap (λ (z : ℚ). z +ℚ weighted_violation model c.into_iter-member-iterator.result x) c.whole-sum.ensures ∙ nothing_first _ ∙ ap (λ (l : List Member). weighted_violation model l x) given;
    }

pub weight_of-requires : goal.weight_of-requires
weight_of-requires c =
    let For = IsMemberFor (length c.args.model.now.rows) (length c.args.model.now.columns) in
    All-head For c.in-Some.member c.next.new.self (subst (All For) c.in-Some.ensures.steps c.loop-member.invariant.known)

pub member_violation-requires-clause-member : goal.member_violation-requires-clause-member
member_violation-requires-clause-member c =
    let For = IsMemberFor (length c.args.model.now.rows) (length c.args.model.now.columns) in
    All-head For c.in-Some.member c.next.new.self (subst (All For) c.in-Some.ensures.steps c.loop-member.invariant.known)

pub returns-in_err-missed : goal.returns-in_err-missed
returns-in_err-missed c =
    let model = c.args.model.now in
    let x = values_at c.args.values.now in
    let m = c.in-Some.member in
    let rest = c.next.new.self in
    let p = err_from_is_err_and c.from_residual.result c.from_residual.ensures.1 in
    rw (p.1, p.2)
    (sym c.loop-member.invariant.width
    ∙ ap (λ (l : List Member). first_wide limit (weighted_operations model c.loop-member.sum l x)) c.in-Some.ensures.steps
    ∙ missing_wide model c.loop-member.sum m rest x c.in-Soft.weight (sym c.weight_of.ensures ∙ c.in-Soft.is) _ c.in_err-missed.ensures)

pub returns-in_err-product : goal.returns-in_err-product
returns-in_err-product c =
    let model = c.args.model.now in
    let x = values_at c.args.values.now in
    let m = c.in-Some.member in
    let rest = c.next.new.self in
    let w = c.in-Soft.weight in
    let missed = c.in_ok-missed.ensures in
    let e = c.in_err-product.ensures in
    let p = err_from_is_err_and c.from_residual-in_err-product.result c.from_residual-in_err-product.ensures.1 in
    rw (p.1, p.2)
    (sym c.loop-member.invariant.width
    ∙ ap (λ (l : List Member). first_wide limit (weighted_operations model c.loop-member.sum l x)) c.in-Some.ensures.steps
    ∙ product_wide model c.loop-member.sum m rest x w (sym c.weight_of.ensures ∙ c.in-Soft.is) missed.1 _ (e.0 ∙ ap (operation Times w) missed.0) e.1)

pub returns-in_err-sum : goal.returns-in_err-sum
returns-in_err-sum c =
    let model = c.args.model.now in
    let x = values_at c.args.values.now in
    let m = c.in-Some.member in
    let rest = c.next.new.self in
    let w = c.in-Soft.weight in
    let missed = c.in_ok-missed.ensures in
    let product = c.in_ok-product.ensures in
    let e = c.in_err-sum.ensures in
    let fits = subst (λ (z : ℚ). is_wide limit (operation Times w z) ≡ false) missed.0 product.1 in
    let value = product.0 ∙ ap (λ (z : ℚ). w *ℚ z) missed.0 in
    let p = err_from_is_err_and c.from_residual-in_err-sum.result c.from_residual-in_err-sum.ensures.1 in
    rw (p.1, p.2)
    (sym c.loop-member.invariant.width
    ∙ ap (λ (l : List Member). first_wide limit (weighted_operations model c.loop-member.sum l x)) c.in-Some.ensures.steps
    ∙ sum_wide model c.loop-member.sum m rest x w (sym c.weight_of.ensures ∙ c.in-Soft.is) missed.1 fits _ (e.0 ∙ ap (operation Plus c.loop-member.sum) value) e.1)

pub loop-member-preserved-in-Soft : goal.loop-member-preserved-in-Soft
loop-member-preserved-in-Soft c =
    let model = c.args.model.now in
    let x = values_at c.args.values.now in
    let m = c.in-Some.member in
    let rest = c.next.new.self in
    let w = c.in-Soft.weight in
    let soft = sym c.weight_of.ensures ∙ c.in-Soft.is in
    let missed = c.in_ok-missed.ensures in
    let product = c.in_ok-product.ensures in
    let e = c.in_ok-sum.ensures in
    let fits = subst (λ (z : ℚ). is_wide limit (operation Times w z) ≡ false) missed.0 product.1 in
    let value = product.0 ∙ ap (λ (z : ℚ). w *ℚ z) missed.0 in
    let narrow = subst (λ (z : ℚ). is_wide limit (operation Plus c.loop-member.sum z) ≡ false) value e.1 in
    let sum = e.0 ∙ ap (λ (z : ℚ). c.loop-member.sum +ℚ z) value in
    let For = IsMemberFor (length model.rows) (length model.columns) in
    record {
      known = All-tail For m rest (subst (All For) c.in-Some.ensures.steps c.loop-member.invariant.known);
      width = ap (λ (z : ℚ). first_wide limit (weighted_operations model z rest x)) sum
          ∙ sym (sum_fits model c.loop-member.sum m rest x w soft missed.1 fits narrow)
          ∙ sym (ap (λ (l : List Member). first_wide limit (weighted_operations model c.loop-member.sum l x)) c.in-Some.ensures.steps)
          ∙ c.loop-member.invariant.width;
      sum = ap (λ (z : ℚ). z +ℚ weighted_violation model rest x) sum
          ∙ in_turn c.loop-member.sum (w *ℚ violation model x m) (weighted_violation model rest x)
          ∙ ap (λ (z : ℚ). c.loop-member.sum +ℚ z) (sym (soft_sum model c.loop-member.sum m rest x w soft))
          ∙ sym (ap (λ (l : List Member). c.loop-member.sum +ℚ weighted_violation model l x) c.in-Some.ensures.steps)
          ∙ c.loop-member.invariant.sum;
    }

pub loop-member-preserved : goal.loop-member-preserved
loop-member-preserved c =
    let model = c.args.model.now in
    let x = values_at c.args.values.now in
    let m = c.in-Some.member in
    let rest = c.next.new.self in
    let rigid = sym c.weight_of.ensures ∙ rigid_of c.weight_of.result c.in_default.not-Soft in
    let For = IsMemberFor (length model.rows) (length model.columns) in
    record {
      known = All-tail For m rest (subst (All For) c.in-Some.ensures.steps c.loop-member.invariant.known);
      width = sym (ap (first_wide limit) (rigid_step model c.loop-member.sum m rest x rigid))
          ∙ sym (ap (λ (l : List Member). first_wide limit (weighted_operations model c.loop-member.sum l x)) c.in-Some.ensures.steps)
          ∙ c.loop-member.invariant.width;
      sum = ap (λ (z : ℚ). c.loop-member.sum +ℚ z) (sym (nothing_first (weighted_violation model rest x)) ∙ sym (rigid_sum model c.loop-member.sum m rest x rigid))
          ∙ sym (ap (λ (l : List Member). c.loop-member.sum +ℚ weighted_violation model l x) c.in-Some.ensures.steps)
          ∙ c.loop-member.invariant.sum;
    }

pub returns : goal.returns
returns c =
    let model = c.args.model.now in
    let x = values_at c.args.values.now in
    let none = c.in-None.ensures.steps.0 in
    let v = c.loop-member.invariant in (
      sym (add-zero c.loop-member.sum) ∙ ap (λ (l : List Member). c.loop-member.sum +ℚ weighted_violation model l x) (sym none) ∙ v.sum,
      sym v.width ∙ ap (λ (l : List Member). first_wide limit (weighted_operations model c.loop-member.sum l x)) none ∙ first_wide-nil limit,
    )
