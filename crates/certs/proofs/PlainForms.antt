-- Where no limits cross, the plain system of a set is well formed.
use Rattle.std.proofs.Common.{◌≡◌, ◌≢◌, ◌+◌, ◌-◌, ◌<◌, sym, ◌∙◌, ap, subst, ℕ, Bool, true, false, cond, List, [], ◌∷◌, ◌++◌, map, length, get_or, Option, None, Some, is_some, ltb, arith, inl, inr, lt-ltb}
use Rattle.std.specs.Prelude.{All, AllPairs, IfSome}
use Rattle.std.proofs.lemmas.Bool.{cases_lt, cond_both, cond-true, cond-false, le-ltb}
use Rattle.std.proofs.lemmas.List.{get_or-map, get_or_past, length-map}
use Rattle.std.proofs.lemmas.List.Elements.{All-nil, All-cons, All-append, All-map, All-weaker, All-get_or, All-from_get_or}
use Rattle.algebra.proofs.Ring.{x0, minus, zero_of}
use Rattle.rational.specs.Rational.{ℚ, neg_ℚ, zero_ℚ, ◌≤ℚ◌}
use Rattle.rational.specs.Linear.{Term}
use Rattle.rational.proofs.Field.{ring_ℚ}
use Rattle.rational.proofs.Order.{lt_q-false}
use Rattle.lp_model.specs.Program.{Program, NamedRow, IsWellFormed, IsWellFormedRow, IsForm, empty_row, row_at}
use Rattle.certs.specs.System.{Limits, SystemRow, LinearSystem, empty_system_row, no_limits, variable_limits}
use Rattle.certs.specs.Tableau.{all_limits}
use Rattle.certs.specs.Ended.{numbers_from}
use Rattle.certs.specs.Plain.{are_crossed, column_limits, crosses, first_crossing, greatest_objective, negated, plain_row, plain_system, rows_in}
use Rattle.certs.specs.PlainLaws.{PlainFormedLaw}
use Rattle.certs.proofs.Feasible.{none_passes}
use Rattle.certs.proofs.Translated.{length_mapped, length_numbers, number_at}

-- ---- forms
no_terms : (n : ℕ) → IsForm n []
no_terms n = record {
  ascending = λ i j d l m. absurd (omega arith);
  known = All-nil (λ (t : Term). t.column < n);
  nonzero = All-nil (λ (t : Term). t.factor ≢ zero_ℚ);
}

-- the terms of a row; past the last there are none
pub row_form : (model : Program) (i : ℕ) → IsWellFormed model → IsForm (length model.columns) (row_at model i).terms
row_form model i formed =
    elim (cases_lt i (length model.rows)) [
      | inl l ↦ (All-get_or (IsWellFormedRow (length model.columns)) model.rows i empty_row l formed.rows).form
      | inr l ↦ subst (λ (r : NamedRow). IsForm (length model.columns) r.terms) (sym (get_or_past model.rows i empty_row l)) (no_terms (length model.columns))
    ]

-- the other signs
negative_nonzero : (q : ℚ) → q ≢ zero_ℚ → neg_ℚ q ≢ zero_ℚ
negative_nonzero q h e = h (ring_ℚ (q ∷ []) x0 (minus (minus x0)) tt ∙ ap neg_ℚ e ∙ ring_ℚ [] (minus zero_of) zero_of tt)

abbrev opposite : Term → Term
opposite t = record { column = t.column; factor = neg_ℚ t.factor }

negated_ascending : (terms : List Term) → AllPairs (λ (s t : Term). s.column < t.column) terms → AllPairs (λ (s t : Term). s.column < t.column) (negated terms)
negated_ascending terms h i j d l m =
    let within : j < length terms = subst (λ n. j < n) (length-map terms opposite) m in
    let first : (get_or (map opposite terms) i d).column ≡ (get_or terms i d).column = ap (λ (t : Term). t.column) (get_or-map opposite terms i d d (let g : i < length terms = omega arith in g)) in
    let second : (get_or (map opposite terms) j d).column ≡ (get_or terms j d).column = ap (λ (t : Term). t.column) (get_or-map opposite terms j d d within) in
    subst (λ z. z < (get_or (map opposite terms) j d).column) (sym first) (subst (λ z. (get_or terms i d).column < z) (sym second) (h i j d l within))

negated_form : (n : ℕ) (terms : List Term) → IsForm n terms → IsForm n (negated terms)
negated_form n terms form = record {
  ascending = negated_ascending terms form.ascending;
  known = All-map (λ (t : Term). t.column < n) opposite terms form.known;
  nonzero =
      All-map (λ (t : Term). t.factor ≢ zero_ℚ) opposite terms
      (All-weaker (λ (t : Term). t.factor ≢ zero_ℚ) (λ (t : Term). neg_ℚ t.factor ≢ zero_ℚ) (λ t h. negative_nonzero t.factor h) terms form.nonzero);
}

-- ---- limits
abbrev pub Ordered : Limits → Type 0
Ordered limits = IfSome limits.lower (λ l. IfSome limits.upper (λ u. l ≤ℚ u))

not_crossed : (lower upper : Option ℚ) → are_crossed lower upper ≡ false → IfSome lower (λ l. IfSome upper (λ u. l ≤ℚ u))
not_crossed None upper e = tt
not_crossed (Some l) None e = tt
not_crossed (Some l) (Some u) e = lt_q-false u l e

-- where none is found, no limits cross
module _ (system : LinearSystem) (apart : first_crossing system ≡ None) where
  ordered_at : (v : ℕ) → v < length system.columns + length system.rows → Ordered (variable_limits system v)
  ordered_at v l =
      let all : ℕ = length system.columns + length system.rows in
      let number : get_or (numbers_from 0 all) v 0 ≡ v = number_at 0 all v 0 l ∙ (let e : 0 + v ≡ v = omega arith in e) in
      let none : crosses system (get_or (numbers_from 0 all) v 0) ≡ false =
      All-get_or (λ k. crosses system k ≡ false) (numbers_from 0 all) v 0 (subst (λ n. v < n) (sym (length_numbers 0 all)) l) (none_passes (crosses system) (numbers_from 0 all) apart) in
      not_crossed (variable_limits system v).lower (variable_limits system v).upper (ap (crosses system) (sym number) ∙ none)

  ordered_columns : All Ordered system.columns
  ordered_columns =
      All-from_get_or Ordered system.columns no_limits
      (λ v l. subst Ordered (cond-true (ltb v (length system.columns)) (get_or system.columns v no_limits) (get_or system.rows (v - length system.columns) empty_system_row).limits (lt-ltb v (length system.columns) l)) (ordered_at v (omega arith)))

  ordered_rows : All (λ (r : SystemRow). Ordered r.limits) system.rows
  ordered_rows =
      All-from_get_or (λ (r : SystemRow). Ordered r.limits) system.rows empty_system_row
      (λ i l.
      let n : ℕ = length system.columns in
      let back : (n + i) - n ≡ i = omega arith in
      subst (λ k. Ordered (get_or system.rows k empty_system_row).limits) back
      (subst Ordered (cond-false (ltb (n + i) n) (get_or system.columns (n + i) no_limits) (get_or system.rows ((n + i) - n) empty_system_row).limits (le-ltb (n + i) n (omega arith))) (ordered_at (n + i) (omega arith))))

  pub ordered_all : All Ordered (all_limits system)
  ordered_all =
      All-append Ordered system.columns (map (λ r. r.limits) system.rows ++ cond (is_some system.objective) (no_limits ∷ []) []) ordered_columns
      (All-append Ordered (map (λ r. r.limits) system.rows) (cond (is_some system.objective) (no_limits ∷ []) [])
      (All-map Ordered (λ (r : SystemRow). r.limits) system.rows ordered_rows)
      (cond_both (is_some system.objective) (no_limits ∷ []) [] (All Ordered) (λ e. All-cons Ordered no_limits [] tt (All-nil Ordered)) (λ e. All-nil Ordered)))

-- ---- the system
objective_form : (model : Program) (b : Bool) → IsWellFormed model → IfSome (cond b (Some (greatest_objective model)) None) (IsForm (length model.columns))
objective_form model false formed = tt
objective_form model true formed = cond_both model.maximise model.objective (negated model.objective) (IsForm (length model.columns)) (λ e. formed.objective) (λ e. negated_form (length model.columns) model.objective formed.objective)

pub plain_formed : PlainFormedLaw
plain_formed model set path objective formed apart =
    let count : length model.columns ≡ length (map (column_limits model set path) (numbers_from 0 (length model.columns))) = sym (length_mapped (column_limits model set path) (length model.columns)) in
    record {
      rows =
          All-map (λ (r : SystemRow). IsForm (length (map (column_limits model set path) (numbers_from 0 (length model.columns)))) r.terms) (plain_row model set) (rows_in model set)
          (All-from_get_or (λ i. IsForm (length (map (column_limits model set path) (numbers_from 0 (length model.columns)))) (row_at model i).terms) (rows_in model set) 0
          (λ k l. subst (λ n. IsForm n (row_at model (get_or (rows_in model set) k 0)).terms) count (row_form model (get_or (rows_in model set) k 0) formed)));
      objective = subst (λ n. IfSome (cond objective (Some (greatest_objective model)) None) (IsForm n)) count (objective_form model objective formed);
      ordered = ordered_all (plain_system model set path objective) apart;
    }
