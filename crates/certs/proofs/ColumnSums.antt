-- The sums of the columns, and the right side, share by share.
use Rattle.std.proofs.Common.{◌≡◌, ◌<◌, ◌≤◌, ◌+◌, ◌==◌, refl, sym, ◌∙◌, ap, ℕ, Bool, true, false, cond, List, [], ◌∷◌, length, drop, get_or, None, Some}
use Rattle.std.proofs.Common.{subst, set, eqb-true, eq-eqb, true≢false, Result, Ok, Err}
use Rattle.std.specs.Prelude.{MatchResult}
use Rattle.std.proofs.lemmas.List.{at_drop_more, drop_all, get_or-set_same, get_or-set_other, get_or_past}
use Rattle.algebra.proofs.Ring.{x0, x1, x2, x3, ◌:+◌, ◌:*◌, minus, zero_of}
use Rattle.rational.specs.Rational.{ℚ, ◌+ℚ◌, ◌*ℚ◌, zero_ℚ}
use Rattle.rational.specs.Linear.{Term, Assignment, factor_of}
use Rattle.rational.proofs.Field.{ring_ℚ}
use Rattle.lp_model.specs.declared.members.Side.{Side}
use Rattle.lp_model.specs.declared.members.Side.TheVariants.{Lo, Up}
use Rattle.lp_model.specs.Program.{Program, NamedRow, row_at, empty_row}
use Rattle.lp_model.specs.Satisfaction.{values_at}
use Rattle.frac128.specs.declared.Wide.{Wide as Operation}
use Rattle.frac128.specs.Limit.{limit}
use Rattle.frac128.specs.Width.{operation, is_wide}
use Rattle.frac128.specs.declared.Op.TheVariants.{Times}
use Rattle.frac128.specs.Calculation.{first_wide}
use Rattle.frac128.proofs.Calculations.{first_wide-before, first_wide-past, first_wide-here, first_wide-next, first_wide-nil}
use Rattle.certs.specs.declared.evidence.Branch.{Branch}
use Rattle.certs.specs.declared.evidence.Share.{Share}
use Rattle.certs.specs.Combination.{source_form, source_side, source_number, number_or_zero, signed, multiple, column_sum, right_side}
use Rattle.certs.specs.Checks.{sign_of, share_operations, added_at, form_operations, sums_after, column_operations, right_operations}

-- ---- the sign of a side
signed-times : (side : Side) (f w : ℚ) → signed side (f *ℚ w) ≡ signed side w *ℚ f
signed-times Lo f w = ring_ℚ (f ∷ w ∷ []) (minus (x0 :* x1)) (minus x1 :* x0) tt
signed-times Up f w = ring_ℚ (f ∷ w ∷ []) (x0 :* x1) (x1 :* x0) tt

-- ---- one number, times a weight
module _ (sum : ℚ) (side : Side) (n w : ℚ) where
  pub product_wide : (o : Operation) → o ≡ operation Times n w → is_wide limit o ≡ true → first_wide limit (share_operations sum side n w) ≡ Some o
  product_wide o e k =
      first_wide-here limit (operation Times n w) (operation (sign_of side) sum (n *ℚ w) ∷ []) (sym (ap (λ (z : Operation). is_wide limit z) e) ∙ k) ∙ ap (λ (z : Operation). Some z) (sym e)

  -- p is the product, and r what its sum gives
  pub then_sum : (p : ℚ) (r : Result ℚ Operation) → p ≡ n *ℚ w → is_wide limit (operation Times n w) ≡ false
      → MatchResult r (λ v. (v ≡ sum +ℚ signed side p) × (is_wide limit (operation (sign_of side) sum p) ≡ false)) (λ o. (o ≡ operation (sign_of side) sum p) × (is_wide limit o ≡ true))
      → MatchResult r (λ v. (v ≡ sum +ℚ signed side (n *ℚ w)) × (first_wide limit (share_operations sum side n w) ≡ None)) (λ o. first_wide limit (share_operations sum side n w) ≡ Some o)
  then_sum p (Ok v) e f h = (
    h.0 ∙ ap (λ (z : ℚ). sum +ℚ signed side z) e,
    first_wide-next limit (operation Times n w) (operation (sign_of side) sum (n *ℚ w) ∷ []) f
        ∙ (first_wide-next limit (operation (sign_of side) sum (n *ℚ w)) [] (subst (λ (z : ℚ). is_wide limit (operation (sign_of side) sum z) ≡ false) e h.1) ∙ first_wide-nil limit),
  )
  then_sum p (Err o) e f h =
      let same : o ≡ operation (sign_of side) sum (n *ℚ w) = h.0 ∙ ap (λ (z : ℚ). operation (sign_of side) sum z) e in
      first_wide-next limit (operation Times n w) (operation (sign_of side) sum (n *ℚ w) ∷ []) f
      ∙ (first_wide-here limit (operation (sign_of side) sum (n *ℚ w)) [] (subst (λ (z : Operation). is_wide limit z ≡ true) same h.1) ∙ ap (λ (z : Operation). Some z) (sym same))

-- ---- the sums, with one set to what it was and q more
set_at : (sums : List ℚ) (j k : ℕ) (v q : ℚ) → j < length sums → v ≡ values_at sums j +ℚ q → (b : Bool) → (j == k) ≡ b → values_at (set sums j v) k ≡ cond b (values_at sums k +ℚ q) (values_at sums k)
set_at sums j k v q h e true s =
    subst (λ (n : ℕ). values_at (set sums j v) n ≡ values_at sums n +ℚ q) (eqb-true j k s) (get_or-set_same sums j v zero_ℚ h ∙ e)
set_at sums j k v q h e false s = get_or-set_other sums j k v zero_ℚ (λ p. true≢false (sym (eq-eqb j k (sym p)) ∙ s))

pub set_added : (sums : List ℚ) (j : ℕ) (v q : ℚ) → j < length sums → v ≡ values_at sums j +ℚ q → values_at (set sums j v) ≡ added_at (values_at sums) j q
set_added sums j v q h e = λ i. λ k. set_at sums j k v q h e (j == k) refl i

-- ---- a row past the last one adds nothing
pub no_row : (model : Program) (index : ℕ) (x : Assignment) (side : Side) (w : ℚ) → length model.rows ≤ index
    → (first_wide limit (form_operations x side w (row_at model index).terms) ≡ None) × (x ≡ sums_after x side w (row_at model index).terms)
no_row model index x side w h =
    let e : row_at model index ≡ empty_row = get_or_past model.rows index empty_row h in (
      ap (λ (r : NamedRow). first_wide limit (form_operations x side w r.terms)) e ∙ first_wide-nil limit,
      sym (ap (λ (r : NamedRow). sums_after x side w r.terms) e),
    )

-- ---- what a form adds to each sum
one_more : (b : Bool) (v q f m rest : ℚ) → q ≡ m *ℚ f → cond b (v +ℚ q) v +ℚ m *ℚ rest ≡ v +ℚ m *ℚ (cond b f zero_ℚ +ℚ rest)
one_more true v q f m rest e = ap (λ (z : ℚ). (v +ℚ z) +ℚ m *ℚ rest) e ∙ ring_ℚ (v ∷ m ∷ f ∷ rest ∷ []) ((x0 :+ x1 :* x2) :+ x1 :* x3) (x0 :+ x1 :* (x2 :+ x3)) tt
one_more false v q f m rest e = ring_ℚ (v ∷ m ∷ rest ∷ []) (x0 :+ x1 :* x2) (x0 :+ x1 :* (zero_of :+ x2)) tt

sums_after-is : (x : Assignment) (side : Side) (w : ℚ) (terms : List Term) (j : ℕ) → sums_after x side w terms j ≡ x j +ℚ signed side w *ℚ factor_of terms j
sums_after-is x side w [] j = ring_ℚ (x j ∷ signed side w ∷ []) x0 (x0 :+ x1 :* zero_of) tt
sums_after-is x side w (t ∷ terms) j =
    sums_after-is (added_at x t.column (signed side (t.factor *ℚ w))) side w terms j
    ∙ one_more (t.column == j) (x j) (signed side (t.factor *ℚ w)) t.factor (signed side w) (factor_of terms j) (signed-times side t.factor w)

-- ---- a loop over terms; x has the sums before a term, and y those after it
module _ (side : Side) (w : ℚ) (terms : List Term) (i : ℕ) (t : Term) (h : i < length terms) (is : t ≡ get_or terms i t) (x : Assignment) where
  term_at : {B : Type 0} (F : List Term → B) → F (drop i terms) ≡ F (t ∷ drop (i + 1) terms)
  term_at F = at_drop_more F terms i t h ∙ ap (λ (z : Term). F (z ∷ drop (i + 1) terms)) (sym is)

  pub term_wide : (o : Operation) → first_wide limit (share_operations (x t.column) side t.factor w) ≡ Some o → first_wide limit (form_operations x side w (drop i terms)) ≡ Some o
  term_wide o e =
      term_at (λ (l : List Term). first_wide limit (form_operations x side w l))
      ∙ first_wide-before limit (share_operations (x t.column) side t.factor w) (form_operations (added_at x t.column (signed side (t.factor *ℚ w))) side w (drop (i + 1) terms)) o e

  module _ (y : Assignment) (more : y ≡ added_at x t.column (signed side (t.factor *ℚ w))) where
    pub term_next : first_wide limit (share_operations (x t.column) side t.factor w) ≡ None
        → first_wide limit (form_operations y side w (drop (i + 1) terms)) ≡ first_wide limit (form_operations x side w (drop i terms))
    term_next e =
        ap (λ (z : Assignment). first_wide limit (form_operations z side w (drop (i + 1) terms))) more
        ∙ (sym (first_wide-past limit (share_operations (x t.column) side t.factor w) (form_operations (added_at x t.column (signed side (t.factor *ℚ w))) side w (drop (i + 1) terms)) e)
        ∙ sym (term_at (λ (l : List Term). first_wide limit (form_operations x side w l))))

    pub term_sums : sums_after y side w (drop (i + 1) terms) ≡ sums_after x side w (drop i terms)
    term_sums = ap (λ (z : Assignment). sums_after z side w (drop (i + 1) terms)) more ∙ sym (term_at (λ (l : List Term). sums_after x side w l))

-- the end of the terms
module _ (side : Side) (w : ℚ) (terms : List Term) (i : ℕ) (h : length terms ≤ i) (x : Assignment) where
  pub term_end : first_wide limit (form_operations x side w (drop i terms)) ≡ None
  term_end = ap (λ (l : List Term). first_wide limit (form_operations x side w l)) (drop_all i terms h) ∙ first_wide-nil limit

  pub term_done : x ≡ sums_after x side w (drop i terms)
  term_done = sym (ap (λ (l : List Term). sums_after x side w l) (drop_all i terms h))

-- ---- a loop over shares
module _ (model : Program) (shares : List Share) (i : ℕ) (s : Share) (h : i < length shares) (is : s ≡ get_or shares i s) where
  share_at : {B : Type 0} (F : List Share → B) → F (drop i shares) ≡ F (s ∷ drop (i + 1) shares)
  share_at F = at_drop_more F shares i s h ∙ ap (λ (z : Share). F (z ∷ drop (i + 1) shares)) (sym is)

  module _ (x : Assignment) where
    abbrev its_operations : List Operation
    its_operations = form_operations x (source_side s.source) s.weight (source_form model s.source)

    abbrev its_sums : Assignment
    its_sums = sums_after x (source_side s.source) s.weight (source_form model s.source)

    pub share_wide : (o : Operation) → first_wide limit (form_operations x (source_side s.source) s.weight (source_form model s.source)) ≡ Some o → first_wide limit (column_operations model x (drop i shares)) ≡ Some o
    share_wide o e =
        share_at (λ (l : List Share). first_wide limit (column_operations model x l)) ∙ first_wide-before limit its_operations (column_operations model its_sums (drop (i + 1) shares)) o e

    module _ (y : Assignment) (more : y ≡ sums_after x (source_side s.source) s.weight (source_form model s.source)) where
      pub share_next : first_wide limit (form_operations x (source_side s.source) s.weight (source_form model s.source)) ≡ None
          → first_wide limit (column_operations model y (drop (i + 1) shares)) ≡ first_wide limit (column_operations model x (drop i shares))
      share_next e =
          ap (λ (z : Assignment). first_wide limit (column_operations model z (drop (i + 1) shares))) more
          ∙ (sym (first_wide-past limit its_operations (column_operations model its_sums (drop (i + 1) shares)) e) ∙ sym (share_at (λ (l : List Share). first_wide limit (column_operations model x l))))

      pub share_sums : (j : ℕ) → y j +ℚ column_sum model (drop (i + 1) shares) j ≡ x j +ℚ column_sum model (drop i shares) j
      share_sums j =
          ap (λ (z : Assignment). z j +ℚ column_sum model (drop (i + 1) shares) j) more
          ∙ (ap (λ (z : ℚ). z +ℚ column_sum model (drop (i + 1) shares) j) (sums_after-is x (source_side s.source) s.weight (source_form model s.source) j)
          ∙ (ring_ℚ (x j ∷ (multiple s *ℚ factor_of (source_form model s.source) j) ∷ column_sum model (drop (i + 1) shares) j ∷ []) ((x0 :+ x1) :+ x2) (x0 :+ (x1 :+ x2)) tt
          ∙ sym (share_at (λ (l : List Share). x j +ℚ column_sum model l j))))

  -- the right side: n is the number on the side
  module _ (path : List Branch) (sum n : ℚ) (there : n ≡ number_or_zero (source_number model path s.source)) where
    pub right_wide : (o : Operation) → first_wide limit (share_operations sum (source_side s.source) n s.weight) ≡ Some o → first_wide limit (right_operations model path sum (drop i shares)) ≡ Some o
    right_wide o e =
        let m : ℚ = number_or_zero (source_number model path s.source) in
        share_at (λ (l : List Share). first_wide limit (right_operations model path sum l))
        ∙ first_wide-before limit (share_operations sum (source_side s.source) m s.weight) (right_operations model path (sum +ℚ signed (source_side s.source) (m *ℚ s.weight)) (drop (i + 1) shares)) o
        (sym (ap (λ (z : ℚ). first_wide limit (share_operations sum (source_side s.source) z s.weight)) there) ∙ e)

    module _ (next : ℚ) (more : next ≡ sum +ℚ signed (source_side s.source) (n *ℚ s.weight)) where
      pub right_next : first_wide limit (share_operations sum (source_side s.source) n s.weight) ≡ None
          → first_wide limit (right_operations model path next (drop (i + 1) shares)) ≡ first_wide limit (right_operations model path sum (drop i shares))
      right_next e =
          let m : ℚ = number_or_zero (source_number model path s.source) in
          ap (λ (z : ℚ). first_wide limit (right_operations model path z (drop (i + 1) shares))) (more ∙ ap (λ (z : ℚ). sum +ℚ signed (source_side s.source) (z *ℚ s.weight)) there)
          ∙ (sym
          (first_wide-past limit (share_operations sum (source_side s.source) m s.weight) (right_operations model path (sum +ℚ signed (source_side s.source) (m *ℚ s.weight)) (drop (i + 1) shares))
          (sym (ap (λ (z : ℚ). first_wide limit (share_operations sum (source_side s.source) z s.weight)) there) ∙ e))
          ∙ sym (share_at (λ (l : List Share). first_wide limit (right_operations model path sum l))))

      pub right_sum : next +ℚ right_side model path (drop (i + 1) shares) ≡ sum +ℚ right_side model path (drop i shares)
      right_sum =
          let m : ℚ = number_or_zero (source_number model path s.source) in
          let rest : ℚ = right_side model path (drop (i + 1) shares) in
          ap (λ (z : ℚ). z +ℚ rest) (more ∙ (ap (λ (z : ℚ). sum +ℚ signed (source_side s.source) (z *ℚ s.weight)) there ∙ ap (λ (z : ℚ). sum +ℚ z) (signed-times (source_side s.source) m s.weight)))
          ∙ (ring_ℚ (sum ∷ (multiple s *ℚ m) ∷ rest ∷ []) ((x0 :+ x1) :+ x2) (x0 :+ (x1 :+ x2)) tt ∙ sym (share_at (λ (l : List Share). sum +ℚ right_side model path l)))

-- the end of the shares
module _ (model : Program) (shares : List Share) (i : ℕ) (h : length shares ≤ i) where
  pub share_end : (x : Assignment) → first_wide limit (column_operations model x (drop i shares)) ≡ None
  share_end x = ap (λ (l : List Share). first_wide limit (column_operations model x l)) (drop_all i shares h) ∙ first_wide-nil limit

  pub share_done : (x : Assignment) (j : ℕ) → x j ≡ x j +ℚ column_sum model (drop i shares) j
  share_done x j = ring_ℚ (x j ∷ []) x0 (x0 :+ zero_of) tt ∙ sym (ap (λ (l : List Share). x j +ℚ column_sum model l j) (drop_all i shares h))

  pub right_end : (path : List Branch) (sum : ℚ) → first_wide limit (right_operations model path sum (drop i shares)) ≡ None
  right_end path sum = ap (λ (l : List Share). first_wide limit (right_operations model path sum l)) (drop_all i shares h) ∙ first_wide-nil limit

  pub right_done : (path : List Branch) (sum : ℚ) → sum ≡ sum +ℚ right_side model path (drop i shares)
  right_done path sum = ring_ℚ (sum ∷ []) x0 (x0 :+ zero_of) tt ∙ sym (ap (λ (l : List Share). sum +ℚ right_side model path l) (drop_all i shares h))
