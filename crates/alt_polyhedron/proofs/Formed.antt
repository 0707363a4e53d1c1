-- A system of the alternative is well formed, no limits of it cross, and its variables are few.
use Rattle.std.proofs.Common.{◌≡◌, ◌≢◌, ◌+◌, ◌-◌, ◌<◌, ◌≤◌, refl, sym, ◌∙◌, ap, subst, ℕ, zero, suc, Bool, true, false, cond, List, [], ◌∷◌, ◌++◌, length, get_or, is_some, arith, inl, inr}
use Rattle.std.specs.Prelude.{All}
use Rattle.std.proofs.lemmas.Bool.{cases_lt}
use Rattle.std.proofs.lemmas.List.Elements.{All-append, All-cons, All-from_get_or, All-nil, All-weaker}
use Rattle.std.proofs.lemmas.List.Kept.{AllPairs-cons}
use Rattle.rational.specs.Rational.{ℚ, eq_ℚ, lt_q, neg_ℚ, one_ℚ, zero_ℚ}
use Rattle.rational.specs.Linear.{Term}
use Rattle.rational.proofs.Compare.{apart_from_test}
use Rattle.rational.proofs.Order.{lt_irrefl_ℚ, lt_q-true}
use Rattle.lp_model.specs.declared.members.Member.{Member}
use Rattle.lp_model.specs.Program.{Program, IsForm}
use Rattle.lp_model.specs.Members.{number}
use Rattle.certs.specs.Ended.{numbers_from}
use Rattle.certs.specs.Plain.{are_crossed, crosses}
use Rattle.certs.specs.System.{Limits, LinearSystem, SystemRow, alternative_system, bounding, column_rows, equal_to, member_cost, member_factor, member_number, terms_from, variable_limits}
use Rattle.certs.proofs.PlainForms.{ordered_all}
use Rattle.certs.proofs.Translated.{length_numbers, number_at}
use Rattle.simplex.proofs.Firsts.{find-none}
use Rattle.relaxation.proofs.Few.{set_few}
use Rattle.relaxation.proofs.Joined.{kept_few, no_pairs}
use Rattle.alt_polyhedron.specs.Laws.{ApartLaw, FewLaw, FormedLaw}
use Rattle.alt_polyhedron.proofs.Variables.{column_limits, last_limits, member_limits, system_columns, system_rows}

-- ---- limits
not_below_itself : (q : ℚ) → lt_q q q ≡ false
not_below_itself q = by (lt_q q q) refl
  where
    by : (b : Bool) → lt_q q q ≡ b → b ≡ false
    by true e = lt_irrefl_ℚ (lt_q-true q q e)
    by false e = refl

abbrev AreApart : Limits → Type 0
AreApart limits = are_crossed limits.lower limits.upper ≡ false

module _ (model : Program) (set : List Member) where
  abbrev system : LinearSystem
  system = alternative_system model set

  abbrev n : ℕ
  n = length (bounding model set)

  abbrev c : ℕ
  c = length model.columns

  row_apart : (j : ℕ) → j < suc (length model.columns) → AreApart (variable_limits (alternative_system model set) (length (bounding model set) + j))
  row_apart j l =
      elim (cases_lt j c) [
        | inl h ↦ subst AreApart (sym (column_limits model set j h)) (not_below_itself zero_ℚ)
        | inr h ↦
            (let e : c ≡ j = omega arith in
            subst (λ k. AreApart (variable_limits system (n + k))) e (subst AreApart (sym (last_limits model set)) (not_below_itself (neg_ℚ one_ℚ))))
      ]

  apart_at : (v : ℕ) → v < length system.columns + length system.rows → crosses system v ≡ false
  apart_at v l =
      let all : v < n + suc c = subst (λ r. v < n + r) (system_rows model set) (subst (λ k. v < k + length system.rows) (system_columns model set) l) in
      elim (cases_lt v n) [
        | inl h ↦ ap (λ (z : Limits). are_crossed z.lower z.upper) (member_limits model set v h)
        | inr h ↦
            (let back : n + (v - n) ≡ v = omega arith in
            let low : v - n < suc c = omega arith in
            subst (λ k. AreApart (variable_limits system k)) back (row_apart (v - n) low))
      ]

pub apart_law : ApartLaw
apart_law model set =
    let system : LinearSystem = alternative_system model set in
    let all : ℕ = length system.columns + length system.rows in
    find-none (crosses system) (numbers_from 0 all)
    (All-from_get_or (λ k. crosses system k ≡ false) (numbers_from 0 all) 0
    (λ k l. let below : k < all = subst (λ z. k < z) (length_numbers 0 all) l in
    let at : get_or (numbers_from 0 all) k 0 ≡ k = number_at 0 all k 0 below ∙ (let e : 0 + k ≡ k = omega arith in e) in
    ap (crosses system) at ∙ apart_at model set k below))

-- ---- forms
abbrev Ascending : Term → Term → Type 0
Ascending s t = s.column < t.column

-- the terms of members that are numbered from k on
pub numbered_form : (f : Member → ℚ) (k n : ℕ) (members : List Member) → k + length members ≤ n → IsForm n (terms_from k f members) × All (λ (t : Term). k ≤ t.column) (terms_from k f members)
numbered_form f k n [] l = (record { ascending = no_pairs Ascending; known = All-nil (λ (t : Term). t.column < n); nonzero = All-nil (λ (t : Term). t.factor ≢ zero_ℚ) }, All-nil (λ (t : Term). k ≤ t.column))
numbered_form f k n (m ∷ members) l = by (numbered_form f (suc k) n members (omega (arith, l))) (eq_ℚ (f m) zero_ℚ) refl
  where
    below : k < n
    below = omega (arith, l)

    by : IsForm n (terms_from (suc k) f members) × All (λ (t : Term). suc k ≤ t.column) (terms_from (suc k) f members) → (b : Bool) → eq_ℚ (f m) zero_ℚ ≡ b
        → let list : List Term = cond b (terms_from (suc k) f members) (record { column = k; factor = f m } ∷ terms_from (suc k) f members) in
        IsForm n list × All (λ (t : Term). k ≤ t.column) list
    by rest true e = (rest.0, All-weaker (λ (t : Term). suc k ≤ t.column) (λ (t : Term). k ≤ t.column) (λ t g. omega (arith, g)) (terms_from (suc k) f members) rest.1)
    by rest false e =
        let t : Term = record { column = k; factor = f m } in
        let terms : List Term = terms_from (suc k) f members in (
          record {
            ascending = AllPairs-cons Ascending t terms (All-weaker (λ (s : Term). suc k ≤ s.column) (Ascending t) (λ s g. omega (arith, g)) terms rest.1) rest.0.ascending;
            known = All-cons (λ (s : Term). s.column < n) t terms below rest.0.known;
            nonzero = All-cons (λ (s : Term). s.factor ≢ zero_ℚ) t terms (apart_from_test (f m) zero_ℚ zero_ℚ refl e) rest.0.nonzero;
          },
          All-cons (λ (s : Term). k ≤ s.column) t terms (omega arith) (All-weaker (λ (s : Term). suc k ≤ s.column) (λ (s : Term). k ≤ s.column) (λ s g. omega (arith, g)) terms rest.1),
        )

module _ (model : Program) (members : List Member) where
  abbrev IsFormed : SystemRow → Type 0
  IsFormed r = IsForm (length members) r.terms

  of_members : (f : Member → ℚ) → IsForm (length members) (terms_from 0 f members)
  of_members f = (numbered_form f 0 (length members) members (omega arith)).0

  columns_formed : (c : ℕ) → All IsFormed (column_rows model members c)
  columns_formed zero = All-nil IsFormed
  columns_formed (suc c) =
      let row : SystemRow = record { terms = terms_from 0 (member_factor model c) members; limits = equal_to zero_ℚ } in
      All-append IsFormed (column_rows model members c) (row ∷ []) (columns_formed c) (All-cons IsFormed row [] (of_members (member_factor model c)) (All-nil IsFormed))

  pub rows_formed : (c : ℕ) → let row : SystemRow = record { terms = terms_from 0 (member_number model) members; limits = equal_to (neg_ℚ one_ℚ) } in
      All (λ (r : SystemRow). IsForm (length members) r.terms) (column_rows model members c ++ row ∷ [])
  rows_formed c =
      let row : SystemRow = record { terms = terms_from 0 (member_number model) members; limits = equal_to (neg_ℚ one_ℚ) } in
      All-append IsFormed (column_rows model members c) (row ∷ []) (columns_formed c) (All-cons IsFormed row [] (of_members (member_number model)) (All-nil IsFormed))

  pub objective_formed : IsForm (length members) (terms_from 0 (λ m. neg_ℚ (member_cost model m)) members)
  objective_formed = of_members (λ m. neg_ℚ (member_cost model m))

pub formed_law : FormedLaw
formed_law model set =
    let system : LinearSystem = alternative_system model set in
    let count : length (bounding model set) ≡ length system.columns = sym (system_columns model set) in
    record {
      rows = subst (λ k. All (λ (r : SystemRow). IsForm k r.terms) system.rows) count (rows_formed model (bounding model set) (length model.columns));
      objective = subst (λ k. IsForm k (terms_from 0 (λ m. neg_ℚ (member_cost model m)) (bounding model set))) count (objective_formed model (bounding model set));
      ordered = ordered_all system (apart_law model set);
    }

-- ---- how many variables there are
pub few_law : FewLaw
few_law model set known ordered rows columns =
    let members = set_few (length model.rows) (length model.columns) set known ordered in
    let kept = kept_few (λ m. is_some (number model m)) set in
    let first = system_columns model set in
    let second = system_rows model set in
    omega (arith, members, kept, first, second, rows, columns)
