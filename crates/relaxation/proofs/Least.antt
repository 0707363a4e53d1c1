-- At a solution of an elastic system that a dual bounds, the weighted violation is least.
use Rattle.std.proofs.Common.{◌≡◌, ◌+◌, ◌-◌, ◌<◌, sym, ◌∙◌, ap, subst, ℕ, cond, not, List, [], ◌∷◌, length, get_or, ltb, arith, lt-ltb}
use Rattle.std.specs.Prelude.{All, false}
use Rattle.std.proofs.lemmas.Bool.{cond-true, cond-false, le-ltb}
use Rattle.std.proofs.lemmas.List.Elements.{All-contains, All-filter, All-weaker}
use Rattle.algebra.proofs.Ring.{x0, x1, ◌:-◌, minus, zero_of}
use Rattle.rational.specs.Rational.{ℚ, ◌*ℚ◌, neg_ℚ, zero_ℚ, ◌≤ℚ◌}
use Rattle.rational.specs.Sum.{sum_over}
use Rattle.rational.specs.Linear.{Term, Assignment, form_value}
use Rattle.rational.proofs.Field.{ring_ℚ}
use Rattle.rational.proofs.Order.{le_antisymm_ℚ, le_by, le_refl_ℚ, mul-le_ℚ, nonneg-mul, nonneg_is, nonneg_of_le}
use Rattle.rational.proofs.Sums.{sum_over-ext_on, sum_over-zero}
use Rattle.lp_model.specs.declared.members.Member.{Member}
use Rattle.lp_model.specs.declared.members.Member.TheVariants.{Lower}
use Rattle.lp_model.specs.Program.{Program, IsWellFormed, IsForm}
use Rattle.lp_model.specs.Members.{form, has, is_mark, number, side}
use Rattle.lp_model.specs.MemberSets.{IsMemberFor}
use Rattle.lp_model.specs.Satisfaction.{IsPart, Satisfies}
use Rattle.lp_model.proofs.Points.{value_law}
use Rattle.certs.specs.Elastic.{cost_terms, elastic_system, soft_members}
use Rattle.certs.specs.Ended.{IsSolution, IsWithin}
use Rattle.certs.specs.Plain.{column_limits}
use Rattle.certs.specs.System.{LinearSystem, SystemRow}
use Rattle.certs.specs.Tableau.{IsWellFormedSystem}
use Rattle.certs.specs.Violation.{missed_by, violation}
use Rattle.certs.proofs.Sides.{sum_over-le}
use Rattle.relaxation.proofs.Eased.{cost_value, elastic_rows_kept, elastic_within, plain_rows, plain_within, to_columns, to_rows}
use Rattle.relaxation.proofs.Lists.{all_paired, one_default, paired, paired_members, paired_sum, sums_meet}
use Rattle.relaxation.proofs.Missing.{row_kept, row_missed, violation_nonneg}
use Rattle.relaxation.proofs.Plain.{columns_within, member_known, row_within, satisfied}
use Rattle.relaxation.proofs.Solved.{Keeps, IsKnown, columns_kept, extended, extended_form, extended_solution, rows_kept, same_form}

-- a member is missed by one number where the columns have one value
pub same_violation : (model : Program) (x y : Assignment) (m : Member) → IsWellFormed model → IsMemberFor (length model.rows) (length model.columns) m
    → ((j : ℕ) → j < length model.columns → x j ≡ y j) → violation model x m ≡ violation model y m
same_violation model x y m formed known same =
    ap (missed_by (side m) (number model m))
    (value_law model m x ∙ same_form (length model.columns) (form model m) x y (member_known model m formed known) same ∙ sym (value_law model m y))

-- a set of members of the program without marks, and a part of it that is enforced
pub record IsSound (model : Program) (set enforced : List Member) : Type 0 where
  pub formed : IsWellFormed model
  pub known : All (IsMemberFor (length model.rows) (length model.columns)) set
  pub linear : All (λ m. is_mark m ≡ false) set
  pub part : IsPart enforced set

module _ (model : Program) (set enforced : List Member) (cost : Member → ℚ) (sound : IsSound model set enforced) (well : IsWellFormedSystem (elastic_system model set enforced cost)) where
  abbrev system : LinearSystem
  system = elastic_system model set enforced cost

  abbrev soft : List Member
  soft = soft_members set enforced

  abbrev n : ℕ
  n = length model.columns

  abbrev terms : List Term
  terms = cost_terms cost (length model.columns) (soft_members set enforced)

  abbrev pairs : List (ℕ × Member)
  pairs = paired (length model.columns) (soft_members set enforced)

  abbrev IsFor : Member → Type 0
  IsFor = IsMemberFor (length model.rows) (length model.columns)

  -- the weighted sum over the soft members
  abbrev pub total : Assignment → ℚ
  total y = sum_over (λ m. cost m *ℚ violation model y m) soft

  soft_known : All IsFor soft
  soft_known = All-filter (λ m. not (has enforced m)) IsFor set sound.known

  enforced_known : All IsFor enforced
  enforced_known = All-weaker _ IsFor (λ m c. All-contains IsFor set m sound.known c) enforced sound.part

  enforced_linear : All (λ m. is_mark m ≡ false) enforced
  enforced_linear = All-weaker _ (λ m. is_mark m ≡ false) (λ m c. All-contains (λ m. is_mark m ≡ false) set m sound.linear c) enforced sound.part

  rows_known : All (λ row. IsKnown (length system.columns) row.terms) system.rows
  rows_known = All-weaker (λ (row : SystemRow). IsForm (length system.columns) row.terms) (λ (row : SystemRow). IsKnown (length system.columns) row.terms) (λ row f. f.known) system.rows well.rows

  terms_known : IsKnown (length system.columns) terms
  terms_known = (let f : IsForm (length system.columns) terms = well.objective in f.known)

  -- ---- what satisfies the enforced members gives a solution
  module _ (y : Assignment) (satisfies : Satisfies model enforced y) where
    unfoldable based : Assignment
    based v = cond (ltb v (length model.columns)) (y v) (violation model y (get_or (soft_members set enforced) (v - length model.columns) (Lower 0)))

    based_column : (j : ℕ) → j < length model.columns → based j ≡ y j
    unfolding based
    based_column j l = cond-true (ltb j n) (y j) _ (lt-ltb j n l)

    based_elastic : (i : ℕ) → based (length model.columns + i) ≡ violation model y (get_or (soft_members set enforced) i (Lower 0))
    unfolding based
    based_elastic i =
        cond-false (ltb (n + i) n) (y (n + i)) _ (le-ltb (n + i) n (omega arith))
        ∙ ap (λ k. violation model y (get_or soft k (Lower 0))) (let e : (n + i) - n ≡ i = omega arith in e)

    based_pairs : All (λ e. based e.0 ≡ violation model y e.1) pairs
    based_pairs = all_paired (λ e. based e.0 ≡ violation model y e.1) n soft (λ i d l. based_elastic i ∙ ap (violation model y) (one_default soft i (Lower 0) d l))

    pairs_known : All (λ e. IsFor e.1) pairs
    pairs_known = paired_members IsFor n soft soft_known

    kept_rows : All (Keeps based) system.rows
    kept_rows =
        to_rows model set enforced cost based
        (λ k d l e. let i : ℕ = get_or _ k d in row_within model enforced based (based_satisfies) i)
        (λ k d l. row_kept model based (get_or pairs k d).0 (get_or pairs k d).1
        (subst (λ z. violation model based (get_or pairs k d).1 ≤ℚ z) (sym (based_pairs k d l))
        (subst (λ z. z ≤ℚ violation model y (get_or pairs k d).1) (sym (same_violation model based y (get_or pairs k d).1 sound.formed (pairs_known k d l) based_column)) (le_refl_ℚ _))))
      where
        based_satisfies : Satisfies model enforced based
        based_satisfies =
            satisfied model enforced sound.formed enforced_known enforced_linear y (λ k d l e. row_within model enforced y satisfies (get_or _ k d)) (λ j l. columns_within model enforced y satisfies j) based based_column

    abbrev solution : Assignment
    solution = extended system based

    -- with the violations in the elastic variables
    is_solution : IsSolution system solution
    is_solution =
        extended_solution system based rows_known terms_known kept_rows
        (to_columns model set enforced cost based
        (λ j l. subst (IsWithin (column_limits model enforced [] j)) (sym (based_column j l)) (columns_within model enforced y satisfies j))
        (λ i l. subst (λ z. zero_ℚ ≤ℚ z) (sym (based_elastic i)) (violation_nonneg model y (get_or soft i (Lower 0)))))

    -- and the weighted sum of these is the objective there, negated
    objective_is : form_value terms solution ≡ neg_ℚ (total y)
    objective_is =
        extended_form system based terms terms_known
        ∙ cost_value cost based n soft
        ∙ ap neg_ℚ
        (sum_over-ext_on (λ e. based e.0 ≡ violation model y e.1) (λ e. cost e.1 *ℚ based e.0) (λ e. cost e.1 *ℚ violation model y e.1) (λ e h. ap (λ z. cost e.1 *ℚ z) h) pairs based_pairs
        ∙ paired_sum (λ m. cost m *ℚ violation model y m) n soft)

  -- ---- at a solution that nothing passes
  module _ (x : Assignment) (b : ℚ) (solved : IsSolution system x) (tight : form_value terms x ≡ b) (bounded : (z : Assignment) → IsSolution system z → form_value terms z ≤ℚ b)
      (costs : All (λ m. zero_ℚ ≤ℚ cost m) (soft_members set enforced)) (y : Assignment) (same : (j : ℕ) → j < length model.columns → y j ≡ x j) where
    pub satisfies_enforced : Satisfies model enforced y
    satisfies_enforced =
        satisfied model enforced sound.formed enforced_known enforced_linear x
        (plain_rows model set enforced cost x (rows_kept system x solved))
        (plain_within model set enforced cost x (columns_kept system x solved)) y same

    -- no elastic variable is less than what its member is missed by
    missed_within : All (λ e. violation model y e.1 ≤ℚ x e.0) pairs
    missed_within k d l =
        let e : ℕ × Member = get_or pairs k d in
        subst (λ z. z ≤ℚ x e.0) (same_violation model x y e.1 sound.formed (paired_members IsFor n soft soft_known k d l) (λ j l. sym (same j l)))
        (row_missed model x e.0 e.1 (elastic_within model set enforced cost x (columns_kept system x solved) k d l)
        (elastic_rows_kept model set enforced cost x (rows_kept system x solved) (paired_members IsFor n soft soft_known) k d l))

    -- nothing that satisfies the enforced members has a smaller total than the bound, negated
    pub none_less : (z : Assignment) → Satisfies model enforced z → neg_ℚ b ≤ℚ total z
    none_less z h =
        le_by (b ∷ total z ∷ []) (minus x0) x1 (x0 :- minus x1) (nonneg_of_le (subst (λ q. q ≤ℚ b) (objective_is z h) (bounded (solution z h) (is_solution z h)))) tt

    elastic_total : sum_over (λ e. cost e.1 *ℚ x e.0) pairs ≡ neg_ℚ b
    elastic_total = ring_ℚ (sum_over (λ e. cost e.1 *ℚ x e.0) pairs ∷ []) x0 (minus (minus x0)) tt ∙ ap neg_ℚ (sym (cost_value cost x n soft) ∙ tight)

    missed_sum : sum_over (λ e. cost e.1 *ℚ violation model y e.1) pairs ≡ total y
    missed_sum = paired_sum (λ m. cost m *ℚ violation model y m) n soft

    weighted_within : All (λ e. cost e.1 *ℚ violation model y e.1 ≤ℚ cost e.1 *ℚ x e.0) pairs
    weighted_within k d l = mul-le_ℚ (paired_members (λ m. zero_ℚ ≤ℚ cost m) n soft costs k d l) (missed_within k d l)

    -- the total here is just that
    pub total_is : total y ≡ neg_ℚ b
    total_is =
        le_antisymm_ℚ
        (subst (λ z. z ≤ℚ neg_ℚ b) missed_sum
        (subst (λ z. sum_over (λ e. cost e.1 *ℚ violation model y e.1) pairs ≤ℚ z) elastic_total
        (sum_over-le (λ (e : ℕ × Member). cost e.1 *ℚ violation model y e.1 ≤ℚ cost e.1 *ℚ x e.0) (λ e. cost e.1 *ℚ violation model y e.1) (λ e. cost e.1 *ℚ x e.0) (λ e h. h) pairs weighted_within)))
        (none_less y satisfies_enforced)

    -- so each elastic variable is what its member is missed by, times its cost
    pub elastic_is : All (λ e. cost e.1 *ℚ violation model y e.1 ≡ cost e.1 *ℚ x e.0) pairs
    elastic_is =
        sums_meet (λ (e : ℕ × Member). cost e.1 *ℚ violation model y e.1) (λ e. cost e.1 *ℚ x e.0) pairs weighted_within
        (subst (λ z. sum_over (λ e. cost e.1 *ℚ x e.0) pairs ≤ℚ z) (elastic_total ∙ sym total_is ∙ sym missed_sum) (le_refl_ℚ _))

-- ---- what a ray changes
-- no ray raises the objective, since the elastic variables have lower limits
pub no_ray : (model : Program) (set enforced : List Member) (cost : Member → ℚ) → All (λ m. zero_ℚ ≤ℚ cost m) (soft_members set enforced)
    → (ray : Assignment) → ((i : ℕ) → i < length (soft_members set enforced) → zero_ℚ ≤ℚ ray (length model.columns + i))
    → form_value (cost_terms cost (length model.columns) (soft_members set enforced)) ray ≤ℚ zero_ℚ
no_ray model set enforced cost costs ray h =
    let n : ℕ = length model.columns in
    let soft : List Member = soft_members set enforced in
    let pairs : List (ℕ × Member) = paired n soft in
    let up : All (λ e. zero_ℚ ≤ℚ ray e.0) pairs = all_paired (λ e. zero_ℚ ≤ℚ ray e.0) n soft (λ i d l. h i l) in
    let sum : sum_over (λ (e : ℕ × Member). zero_ℚ) pairs ≤ℚ sum_over (λ e. cost e.1 *ℚ ray e.0) pairs =
    sum_over-le (λ (e : ℕ × Member). zero_ℚ ≤ℚ cost e.1 *ℚ ray e.0) (λ e. zero_ℚ) (λ e. cost e.1 *ℚ ray e.0) (λ e k. k) pairs
    (λ k d l. nonneg_is.1 (nonneg-mul (nonneg_is.0 (paired_members (λ m. zero_ℚ ≤ℚ cost m) n soft costs k d l)) (nonneg_is.0 (up k d l)))) in
    subst (λ z. z ≤ℚ zero_ℚ) (sym (cost_value cost ray n soft))
    (le_by (sum_over (λ e. cost e.1 *ℚ ray e.0) pairs ∷ []) (minus x0) zero_of (x0 :- zero_of) (nonneg_of_le (subst (λ z. z ≤ℚ sum_over (λ e. cost e.1 *ℚ ray e.0) pairs) (sum_over-zero pairs) sum)) tt)
