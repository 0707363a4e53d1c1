use Rattle.std.proofs.Common.{◌≡◌, ◌<◌, ℕ, true, List, None, length, get_or, sym, ap, subst, refl, ◌∙◌}
use Rattle.std.proofs.lemmas.List.{get_or_read_under}
use Rattle.rational.specs.Rational.{ℚ, zero_ℚ}
use Rattle.frac128.specs.Limit.{limit}
use Rattle.frac128.specs.Calculation.{first_wide}
use Rattle.lp_model.specs.declared.members.Member.{Member}
use Rattle.lp_model.specs.declared.members.Side.TheVariants.{Lo, Up}
use Rattle.lp_model.specs.Members.{exists}
use Rattle.lp_model.specs.Evaluation.{IsInRange, member_operations}
use Rattle.lp_model.specs.Satisfaction.{values_at}
use Rattle.certs.specs.Checks.{kept_test, ray_test}
use Rattle.bound_checks.proofs.Kept.{absent, lower_kept, upper_kept, mark_kept}
use Rattle.bound_checks.proofs.rays.member_is_kept.Goals as goal

-- what the index reads
read : (xs : List ℚ) (j n : ℕ) (y : ℚ) → y ≡ get_or xs j y → j < n → length xs ≡ n → y ≡ values_at xs j
read xs j n y e l r = get_or_read_under xs j (length xs) y zero_ℚ e (subst (λ (m : ℕ). j < m) (sym r) l) refl

pub returns-then-not-is_present : goal.returns-then-not-is_present
returns-then-not-is_present c = absent c.args.model.now (values_at c.args.values.now) c.args.member (sym c.is_present.ensures.there ∙ c.if-not-is_present.true)

pub returns-in-Lower : goal.returns-in-Lower
returns-in-Lower c =
    let model = c.args.model.now in
    let x = values_at c.args.values.now in
    let j = c.in-Lower.column in
    let there = subst (λ (m : Member). exists model m ≡ true) c.in-Lower.is (sym c.is_present.ensures.there ∙ c.if-not-is_present.false) in
    let known = subst (λ (m : Member). IsInRange model m) c.in-Lower.is (c.is_present.ensures.in_range c.if-not-is_present.false) in
    let y = read c.args.values.now j (length model.columns) c.index-values-column.result c.index-values-column.is known c.requires in
    subst (λ (m : Member). (c.is_kept.result ≡ ray_test model x m) × (first_wide limit (member_operations model m x) ≡ None)) (sym c.in-Lower.is)
    (lower_kept model x j c.is_kept.result there (c.is_kept.ensures ∙ ap (kept_test Lo) y))

pub returns-in-Upper : goal.returns-in-Upper
returns-in-Upper c =
    let model = c.args.model.now in
    let x = values_at c.args.values.now in
    let j = c.in-Upper.column in
    let there = subst (λ (m : Member). exists model m ≡ true) c.in-Upper.is (sym c.is_present.ensures.there ∙ c.if-not-is_present.false) in
    let known = subst (λ (m : Member). IsInRange model m) c.in-Upper.is (c.is_present.ensures.in_range c.if-not-is_present.false) in
    let y = read c.args.values.now j (length model.columns) c.index-values-column-in-Upper.result c.index-values-column-in-Upper.is known c.requires in
    subst (λ (m : Member). (c.is_kept-in-Upper.result ≡ ray_test model x m) × (first_wide limit (member_operations model m x) ≡ None)) (sym c.in-Upper.is)
    (upper_kept model x j c.is_kept-in-Upper.result there (c.is_kept-in-Upper.ensures ∙ ap (kept_test Up) y))

pub returns-in-Whole : goal.returns-in-Whole
returns-in-Whole c =
    let model = c.args.model.now in
    let x = values_at c.args.values.now in
    subst (λ (m : Member). (true ≡ ray_test model x m) × (first_wide limit (member_operations model m x) ≡ None)) (sym c.in-Whole.is) (mark_kept model x c.in-Whole.field-0)
