-- Rays with few values: a member that no column reaches is kept.
use Rattle.std.proofs.Common.{◌≡◌, ◌∙◌, ℕ, All, Bool, true, false, cond, refl, sym, ap, subst, List, [], ◌∷◌, Option, None, Some, is_some, length, arith, Contains, pos, ◌*ℤ◌}
use Rattle.std.specs.Global.{Vec}
use Rattle.std.proofs.lemmas.List.Elements.{All-cons, All-contains, All-contains_itself, All-head, All-nil, All-tail, All-weaker}
use Rattle.algebra.specs.Gcd.{gcd, gcd_within}
use Rattle.algebra.proofs.Ring.{ring_ℤ}
use Rattle.rational.specs.Rational.{ℚ, frac, zero_ℚ, ◌+ℚ◌, ◌*ℚ◌, le_q}
use Rattle.rational.specs.Linear.{Term, Assignment, form_value}
use Rattle.rational.proofs.Compare.{le_q-Decides}
use Rattle.rational.proofs.Field.{ring_ℚ, zero_of, x0, ◌:+◌, ◌:*◌}
use Rattle.rational.proofs.Order.{le_refl_ℚ}
use Rattle.frac128.specs.Limit.{limit}
use Rattle.frac128.specs.Calculation.{AddsProduct, first_wide, product_steps}
use Rattle.frac128.proofs.Calculations.{first_wide-next, first_wide-nil}
use Rattle.frac128.proofs.Commons.{adds_nothing}
use Rattle.frac128.specs.declared.Wide.{Wide as Operation}
use Rattle.lp_model.specs.declared.members.Member.{Member}
use Rattle.lp_model.specs.declared.members.Member.TheVariants.{RowLo, RowUp, Lower, Upper, Whole}
use Rattle.lp_model.specs.declared.members.Side.{Side}
use Rattle.lp_model.specs.declared.members.Side.TheVariants.{Lo, Up}
use Rattle.lp_model.specs.Program.{Program, row_at, column_at}
use Rattle.lp_model.specs.Members.{form, has}
use Rattle.lp_model.specs.MemberSets.{SetValue, IsMemberFor, IsPossibleIn}
use Rattle.lp_model.specs.Satisfaction.{values_at}
use Rattle.lp_model.specs.Evaluation.{member_operations, side_operations}
use Rattle.lp_model.proofs.Sets.{contains_of_has, has_of_contains}
use Rattle.certs.specs.declared.evidence.Checked.{Checked}
use Rattle.certs.specs.declared.evidence.Checked.TheVariants.{Yes, No}
use Rattle.certs.specs.Checks.{IsSetOf, outcome, unless_wide, kept_test, ray_steps, ray_test}
use Rattle.certs.specs.Packed.{HasNonzeros}
use Rattle.bound_checks.proofs.Kept.{member_decides}
use Rattle.cert_check.specs.Sparse.{HasReached, ListsRows}
use Rattle.cert_check.proofs.Reached.{same_side, same_value, untouched}

-- ---- where every column is 0
zero_num : zero_ℚ.num ≡ pos 0
unfolding frac gcd gcd_within
zero_num = refl

-- a product more is 0, and not too wide
zero_more : (q : ℚ) → AddsProduct zero_ℚ q zero_ℚ zero_ℚ
zero_more q = adds_nothing zero_ℚ q zero_ℚ (pos 0) 1 refl (omega arith) (omega arith) (omega arith) (ap (λ z. q.num *ℤ z) zero_num ∙ ring_ℤ (q.num ∷ []) (x0 :* zero_of) zero_of tt)

zero_steps : (terms : List Term) → first_wide limit (product_steps (λ t. t.factor) (λ t. zero_ℚ) zero_ℚ terms) ≡ None
unfolding product_steps
zero_steps [] = first_wide-nil limit
zero_steps (t ∷ terms) =
    let more = zero_more t.factor in
    first_wide-next limit _ _ more.times ∙ (first_wide-next limit _ _ more.plus
    ∙ (ap (λ s. first_wide limit (product_steps (λ (u : Term). u.factor) (λ u. zero_ℚ) s terms)) (sym more.is) ∙ zero_steps terms))

zero_side : (o : Option ℚ) (terms : List Term) → first_wide limit (side_operations o terms (λ j. zero_ℚ)) ≡ None
zero_side None terms = first_wide-nil limit
zero_side (Some b) terms = zero_steps terms

zero_value : (terms : List Term) → form_value terms (λ j. zero_ℚ) ≡ zero_ℚ
zero_value [] = refl
zero_value (t ∷ terms) = ap (λ v. t.factor *ℚ zero_ℚ +ℚ v) (zero_value terms) ∙ ring_ℚ (t.factor ∷ []) (x0 :* zero_of :+ zero_of) zero_of tt

zero_kept : (there : Bool) (s : Side) (v : ℚ) → v ≡ zero_ℚ → cond there (kept_test s v) true ≡ true
zero_kept false s v e = refl
zero_kept true Lo v e = ap (λ w. le_q zero_ℚ w) e ∙ (le_q-Decides zero_ℚ zero_ℚ).1 (le_refl_ℚ zero_ℚ)
zero_kept true Up v e = ap (λ w. le_q w zero_ℚ) e ∙ (le_q-Decides zero_ℚ zero_ℚ).1 (le_refl_ℚ zero_ℚ)

module _ (model : Program) (x : Assignment) where
  -- nothing that is calculated for a member at the ray is too wide, and it is kept
  abbrev pub Keeps : Member → Type 0
  Keeps m = (first_wide limit (member_operations model m x) ≡ None) × (ray_test model x m ≡ true)

  -- so it is where each of its columns has a 0
  zero_keeps : (m : Member) → All (λ t. x t.column ≡ zero_ℚ) (form model m) → Keeps m
  zero_keeps (RowLo i) h =
      let row = row_at model i in
      (ap (first_wide limit) (same_side x (λ j. zero_ℚ) row.lower row.terms h) ∙ zero_side row.lower row.terms, zero_kept (is_some row.lower) Lo (form_value row.terms x) (same_value x (λ j. zero_ℚ) row.terms h ∙ zero_value row.terms))
  zero_keeps (RowUp i) h =
      let row = row_at model i in
      (ap (first_wide limit) (same_side x (λ j. zero_ℚ) row.upper row.terms h) ∙ zero_side row.upper row.terms, zero_kept (is_some row.upper) Up (form_value row.terms x) (same_value x (λ j. zero_ℚ) row.terms h ∙ zero_value row.terms))
  zero_keeps (Lower j) h = (first_wide-nil limit, zero_kept (is_some (column_at model j).lower) Lo (x j) (All-head (λ (t : Term). x t.column ≡ zero_ℚ) _ [] h))
  zero_keeps (Upper j) h = (first_wide-nil limit, zero_kept (is_some (column_at model j).upper) Up (x j) (All-head (λ (t : Term). x t.column ≡ zero_ℚ) _ [] h))
  zero_keeps (Whole j) h = (first_wide-nil limit, refl)

  -- ---- the check of a ray
  step_yes : (o : Option Operation) (p : Bool) (r : Checked) → unless_wide o (cond p r No) ≡ Yes → ((o ≡ None) × (p ≡ true)) × (r ≡ Yes)
  step_yes None true r e = ((refl, refl), e)
  step_yes None false r e = absurd (cc)
  step_yes (Some o) p r e = absurd (cc)

  -- a yes keeps each member, and says yes of the objective
  yes_keeps : (set : List Member) → outcome (ray_steps model set x) ≡ Yes → All Keeps set × (outcome (ray_steps model [] x) ≡ Yes)
  yes_keeps [] e = (All-nil Keeps, e)
  yes_keeps (m ∷ set) e =
      let here = step_yes (first_wide limit (member_operations model m x)) (ray_test model x m) (outcome (ray_steps model set x)) e in
      let rest = yes_keeps set here.1 in
      (All-cons Keeps m set here.0 rest.0, rest.1)

  -- and these say yes
  keeps_yes : (set : List Member) → All Keeps set → outcome (ray_steps model [] x) ≡ Yes → outcome (ray_steps model set x) ≡ Yes
  keeps_yes [] h e = e
  keeps_yes (m ∷ set) h e =
      let here = All-head Keeps m set h in
      member_decides model m set x true (sym here.1) here.0 ∙ keeps_yes set (All-tail Keeps m set h) e

-- A yes to the members that the columns reach is one to all.
pub reached_yes : (model : Program) (lists : List (Vec ℕ)) (set : SetValue) (part : List Member) (columns : List ℕ) (values : List ℚ)
    → ListsRows model lists → HasReached lists set.members columns part → HasNonzeros values columns → IsSetOf model set → All (IsPossibleIn set) set.members
    → outcome (ray_steps model part (values_at values)) ≡ Yes → outcome (ray_steps model set.members (values_at values)) ≡ Yes
reached_yes model lists set part columns values rows reached nonzeros same possible said =
    let x = values_at values in
    let yes = yes_keeps model x part said in
    keeps_yes model x set.members (All-weaker (Contains set.members) (Keeps model x) one set.members (All-contains_itself set.members)) yes.1
  where
    one : (m : Member) → Contains set.members m → Keeps model (values_at values) m
    one m at = by (has part m) refl
      where
        in_model : IsMemberFor (length model.rows) (length model.columns) m
        in_model = subst (λ n. IsMemberFor n (length model.columns) m) same.rows (subst (λ n. IsMemberFor set.rows n m) same.columns (All-contains (IsPossibleIn set) set.members m possible at))

        by : (b : Bool) → has part m ≡ b → Keeps model (values_at values) m
        by true e = All-contains (Keeps model (values_at values)) part m (yes_keeps model (values_at values) part said).0 (contains_of_has part m e)
        by false e = zero_keeps model (values_at values) m (untouched model lists set.members part columns values m rows reached nonzeros in_model (has_of_contains set.members m at) e)
