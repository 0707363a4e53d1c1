-- Where the improve run of a system of the alternative is optimal the dictionary gives its last table, at which the cost is least.
use Rattle.std.proofs.Common.{◌≡◌, ◌≢◌, ◌+◌, ◌<◌, ◌==◌, refl, sym, ◌∙◌, ap, subst, ℕ, suc, Bool, true, false, true≢false, not, ◌&&◌, List, [], ◌∷◌, length, arith, inl, inr, ne_eqb}
use Rattle.std.specs.Prelude.{All}
use Rattle.std.proofs.lemmas.Bool.{cases_Bool, cond-true, cond-false, or_parts}
use Rattle.std.proofs.lemmas.List.Elements.{All-contains, All-head, All-tail}
use Rattle.rational.specs.Rational.{ℚ, ◌+ℚ◌, ◌≤ℚ◌, lt_q, neg_ℚ, one_ℚ, zero_ℚ}
use Rattle.rational.specs.Linear.{Term, Assignment, factor_of}
use Rattle.rational.proofs.Order.{le_antisymm_ℚ, lt_q-false}
use Rattle.rational.proofs.Sums.{nothing_first}
use Rattle.lp_model.specs.declared.members.Member.{Member}
use Rattle.lp_model.specs.declared.members.Side.TheVariants.{Lo}
use Rattle.lp_model.specs.Program.{Program}
use Rattle.certs.specs.System.{Limits, LinearSystem, Place, IsLastTable, IsOptimal, alternative_system, bounding, equal_to, is_basic, variable_limits}
use Rattle.certs.specs.System.Place.{Basic, AtLower, AtUpper, AtZero}
use Rattle.certs.specs.Tableau.{Tableau, basic_value, limits_at, nonbasics, place_of, place_value, value_at_place, value_of}
use Rattle.certs.specs.Turns.{can_fall, can_rise, helps, meets}
use Rattle.certs.specs.Ended.{IsSolution, IsWithin}
use Rattle.certs.specs.Improves.{objective_variable}
use Rattle.certs.proofs.Feasible.{feasible_law, limits_are, listed, none_passes}
use Rattle.evidence_laws.specs.Tables.{TermsLaw, terms_of}
use Rattle.relaxation.specs.Origins.{from_zero}
use Rattle.dictionary.specs.Value.{DictionaryValue, tableau_of}
use Rattle.simplex.specs.Duals.{objective_multiple}
use Rattle.simplex.proofs.Ends.{last_is, one_more, optimal_none}
use Rattle.unbounded.proofs.Settled.{settled}
use Rattle.relaxation.specs.Runs.{StandsBest}
use Rattle.alt_polyhedron.proofs.Formed.{formed_law}
use Rattle.alt_polyhedron.proofs.Variables.{column_limits, last_limits, member_limits, system_columns, system_rows}

-- ---- limits
-- wherever a variable from 0 on stands, and is not basic, its value is 0
stands_at_zero : (p : Place) → value_at_place from_zero p ≡ zero_ℚ
stands_at_zero Basic = refl
stands_at_zero AtLower = refl
stands_at_zero AtUpper = refl
stands_at_zero AtZero = refl

-- what is within one number is that number
fixed : (q v : ℚ) → IsWithin (equal_to q) v → v ≡ q
fixed q v w = le_antisymm_ℚ {a = v} {b = q} w.upper w.lower

only_first : (a b : Bool) → b ≡ true → (a && b) ≡ false → a ≡ false
only_first true b e h = sym e ∙ h
only_first false b e h = refl

-- ---- a form of what is not basic names nothing that is
unnamed : (basis : List Place) (terms : List Term) (v : ℕ) → All (λ t. is_basic basis t.column ≡ false) terms → is_basic basis v ≡ true → factor_of terms v ≡ zero_ℚ
unnamed basis [] v h b = refl
unnamed basis (t ∷ terms) v h b =
    let differs : t.column ≢ v = λ e. true≢false (sym b ∙ ap (is_basic basis) (sym e) ∙ All-head (λ (t : Term). is_basic basis t.column ≡ false) t terms h) in
    ap (λ z. z +ℚ factor_of terms v) (cond-false (t.column == v) t.factor zero_ℚ (ne_eqb t.column v differs))
    ∙ nothing_first (factor_of terms v)
    ∙ unnamed basis terms v (All-tail (λ (t : Term). is_basic basis t.column ≡ false) t terms h) b

module _ (law : TermsLaw) (model : Program) (set : List Member) (now : DictionaryValue) (stands : StandsBest (alternative_system model set) now) where
  abbrev system : LinearSystem
  system = alternative_system model set

  abbrev t : Tableau
  t = tableau_of now

  abbrev n : ℕ
  n = length (bounding model set)

  abbrev c : ℕ
  c = length model.columns

  abbrev y : Assignment
  y = value_of (tableau_of now)

  all_are : length system.columns + length system.rows ≡ n + suc c
  all_are = ap (λ k. k + length system.rows) (system_columns model set) ∙ ap (λ k. n + k) (system_rows model set)

  -- the objective's number, and those of the others
  pub objective_is : objective_variable (tableau_of now) ≡ length (bounding model set) + suc (length model.columns)
  objective_is = last_is system t stands.is_of refl ∙ all_are

  pub size_is : length now.basis ≡ length (bounding model set) + suc (length model.columns) + 1
  size_is = one_more system t stands.is_of refl ∙ ap (λ k. k + 1) all_are

  solution : IsSolution system y
  solution = feasible_law system t (formed_law model set) stands.is_of (settled system t stands.is_of stands.within)

  within : (v : ℕ) → v < n + suc c → IsWithin (variable_limits system v) (value_of t v)
  within v l = solution.limits v (subst (λ k. v < k) (sym all_are) l)

  member_within : (k : ℕ) → k < n → IsWithin from_zero (value_of t k)
  member_within k l = subst (λ (z : Limits). IsWithin z (value_of t k)) (member_limits model set k l) (within k (omega arith))

  column_within : (j : ℕ) → j < c → IsWithin (equal_to zero_ℚ) (value_of t (n + j))
  column_within j l = subst (λ (z : Limits). IsWithin z (value_of t (n + j))) (column_limits model set j l) (within (n + j) (omega arith))

  last_within : IsWithin (equal_to (neg_ℚ one_ℚ)) (value_of t (n + c))
  last_within = subst (λ (z : Limits). IsWithin z (value_of t (n + c))) (last_limits model set) (within (n + c) (omega arith))

  member_limited : (k : ℕ) → k < n → limits_at t k ≡ from_zero
  member_limited k l = limits_are system t stands.is_of k (subst (λ a. k < a) (sym all_are) (omega arith)) ∙ member_limits model set k l

  nonbasic_zero : (k : ℕ) → k < n → is_basic t.basis k ≡ false → value_of t k ≡ zero_ℚ
  nonbasic_zero k l b =
      cond-false (is_basic t.basis k) (basic_value t k) (place_value t k) b
      ∙ ap (λ (z : Limits). value_at_place z (place_of t k)) (member_limited k l)
      ∙ stands_at_zero (place_of t k)

  objective_basic : is_basic t.basis (n + suc c) ≡ true
  objective_basic = subst (λ v. is_basic t.basis v ≡ true) all_are (stands.is_of.objective_basic refl)

  pub last_table : IsLastTable model set (tableau_of now).basis (terms_of (tableau_of now)) (value_of (tableau_of now))
  last_table = record {
    table_is = (law system t stands.is_of).0;
    keeps = solution.rows;
    nonnegative = λ k l. (member_within k l).lower;
    at_zero = nonbasic_zero;
    columns_at = λ j l. fixed zero_ℚ (value_of t (n + j)) (column_within j l);
    last_at = fixed (neg_ℚ one_ℚ) (value_of t (n + c)) last_within;
    objective_basic = objective_basic;
  }

  -- ---- nothing raises the objective
  unhelped : (k : ℕ) → k < length t.basis → is_basic t.basis k ≡ false → helps t Lo (objective_variable t) k ≡ false
  unhelped k l b =
      All-contains (λ k. helps t Lo (objective_variable t) k ≡ false) (nonbasics t.basis) k (none_passes (helps t Lo (objective_variable t)) (nonbasics t.basis) (optimal_none t stands.ended.1.0))
      (listed (λ k. not (is_basic t.basis k)) (length t.basis) k l (ap not b))

  rises : (k : ℕ) → k < n → can_rise t k ≡ true
  rises k l = ap (λ (z : Limits). not (meets z.upper (place_value t k))) (member_limited k l)

  factor_known : (k : ℕ) → k < length t.basis → is_basic t.basis k ≡ false → factor_of (terms_of t (n + suc c)) k ≡ t.factor (objective_variable t) k
  factor_known k l b = (law system t stands.is_of).1 (n + suc c) k l b ∙ ap (λ v. t.factor v k) (sym objective_is)

  not_gaining : (k : ℕ) → k < n → is_basic t.basis k ≡ false → factor_of (terms_of t (n + suc c)) k ≤ℚ zero_ℚ
  not_gaining k l b =
      let f : ℚ = t.factor (objective_variable t) k in
      let known : k < length t.basis = (let s = size_is in omega (arith, s)) in
      let parts = or_parts (lt_q zero_ℚ f && can_rise t k) (lt_q f zero_ℚ && can_fall t k) (unhelped k known b) in
      subst (λ q. q ≤ℚ zero_ℚ) (sym (factor_known k known b)) (lt_q-false zero_ℚ f (only_first (lt_q zero_ℚ f) (can_rise t k) (rises k l) parts.0))

  pub optimal : IsOptimal model set (tableau_of now).basis (terms_of (tableau_of now))
  optimal = record { no_gain = not_gaining }

  -- ---- the objective's row
  pub row_read : (v : ℕ) → v < length now.basis
      → factor_of (terms_of (tableau_of now) (length (bounding model set) + suc (length model.columns))) v ≡ objective_multiple (tableau_of now) v
  row_read v l =
      elim (cases_Bool (is_basic t.basis v)) [
        | inl b ↦ unnamed t.basis (terms_of t (n + suc c)) v (last_table.table_is.nonbasic (n + suc c) objective_basic) b ∙ sym (cond-true (is_basic t.basis v) zero_ℚ (t.factor (objective_variable t) v) b)
        | inr b ↦ factor_known v l b ∙ sym (cond-false (is_basic t.basis v) zero_ℚ (t.factor (objective_variable t) v) b)
      ]
