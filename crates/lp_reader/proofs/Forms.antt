-- Forms from sums by column.
use Rattle.std.proofs.Common.{eq-eqb, ◌≡◌, ℕ, suc, ◌+◌, ◌<◌, ◌≤◌, Bool, true, false, cond, ltb, nat_eq, List, [], ◌∷◌, ◌++◌, Some, None, length, map, drop, get_or, slice_get, Result, Ok, Err, IfOk, refl, sym, ap, ◌∙◌, subst, arith, append_assoc, append-nil}
use Rattle.std.specs.Prelude.{unwrap_or}
use Rattle.std.specs.List.{All, AllByRecursion, IsDistinct}
use Rattle.std.specs.List.Sorted.{IsSorted, IsStrictlySortedBy}
use Rattle.std.specs.Map.{lookup}
use Rattle.std.specs.Ordering.{nat_cmp, is_lt}
use Rattle.std.specs.declared.cmp.Ordering.TheVariants.{Less}
use Rattle.std.proofs.lemmas.Cmp.{nat_cmp_total}
use Rattle.std.proofs.lemmas.Map.Keys.{apart_from_distinct, sorted_from_all_adjacent}
use Rattle.std.proofs.lemmas.Bool.{ltb-true, ltb-false, ne_eqb}
use Rattle.std.proofs.lemmas.Bool.Decides.{nat_tests}
use Rattle.std.proofs.lemmas.List.Elements.{All-head, All-tail, All-nil, All-cons, All-weaker, All-get_or}
use Rattle.std.proofs.lemmas.Option.{get_or_from_slice_get, slice_get_within}
use Rattle.rational.specs.Rational.{ℚ, zero_ℚ, eq_ℚ}
use Rattle.rational.specs.Linear.{Term as LinearTerm}
use Rattle.rational.proofs.Compare.{eq-Decides}
use Rattle.name_map.specs.Names.{name_at}
use Rattle.lp_statements.specs.Statements.{Term}
use Rattle.lp_reader.specs.Numbers.{sum_of}
use Rattle.lp_reader.specs.Program.{with_term, form_from, form_of}
use Rattle.lp_reader.specs.State.{HoldsSums, sum_there, kept}
use Rattle.std.proofs.lemmas.List.{drop_all}
use Rattle.lp_reader.proofs.Sums.{sum_looked}
use Rattle.lp_reader.proofs.Terms.{drop_get}

-- ---- keys in order
rises : (a c : ℕ) → is_lt (nat_cmp c a) ≡ false → nat_eq a c ≡ false → nat_cmp a c ≡ Less
rises a c up apart = grind (arith, nat_tests)

pub strictly : (ks : List ℕ) → IsSorted nat_cmp ks → IsDistinct nat_eq ks → IsStrictlySortedBy nat_cmp ks
strictly ks up apart =
    sorted_from_all_adjacent nat_cmp_total ks 0 (λ k h.
    rises (get_or ks k 0) (get_or ks (k + 1) 0) (up k 0 (omega arith) h) (apart_from_distinct nat_eq ks k (k + 1) 0 apart (omega arith) h))

above : (m k : ℕ) → nat_cmp m k ≡ Less → m < k
above m k h = grind (arith, nat_tests)

-- a key before all others is not found
absent : (j m : ℕ) (es : List (ℕ × ℚ)) → AllByRecursion (λ k. nat_cmp m k ≡ Less) (map (λ u. u.0) es) → j ≤ m → lookup (nat_eq j) es ≡ None
absent j m [] h le = refl
absent j m (u ∷ es) h le =
    let lt = above m u.0 h.0 in
    ap (λ b. cond b (Some u.1) (lookup (nat_eq j) es)) (ne_eqb j u.0 (λ e. omega arith)) ∙ absent j m es h.1 le

later : (m : ℕ) (es : List (ℕ × ℚ)) → AllByRecursion (λ k. nat_cmp m k ≡ Less) (map (λ u. u.0) es) → All (λ u. m < u.0) es
later m [] h = All-nil (λ (u : ℕ × ℚ). m < u.0)
later m (u ∷ es) h = All-cons (λ (u : ℕ × ℚ). m < u.0) u es (above m u.0 h.0) (later m es h.1)

-- ---- terms
zero_is : eq_ℚ zero_ℚ zero_ℚ ≡ true
zero_is = (eq-Decides zero_ℚ zero_ℚ).1 refl

-- a column that is not named has no term
pub no_term : (j : ℕ) (name : List ℕ) (terms : List Term) (rest : List LinearTerm) → sum_there name terms ≡ None → with_term j (sum_of name terms) rest ≡ rest
no_term j name terms rest none =
    let is : sum_of name terms ≡ zero_ℚ = sym (sum_looked name terms) ∙ ap (λ o. unwrap_or o zero_ℚ) none in
    ap (λ (v : ℚ). with_term j v rest) is ∙ ap (λ b. cond b rest (record { column = j; factor = zero_ℚ } ∷ rest)) zero_is

pub form_of_sorted : (names : List (List ℕ)) (j : ℕ) (terms : List Term) (es : List (ℕ × ℚ)) → IsStrictlySortedBy nat_cmp (map (λ e. e.0) es) → All (λ e. j ≤ e.0) es → All (λ e. e.0 < j + length names) es
    → ((k : ℕ) → k < length names → lookup (nat_eq (j + k)) es ≡ sum_there (name_at names k) terms) → kept es ≡ form_from j names terms
unfolding kept form_from IsStrictlySortedBy
form_of_sorted [] j terms [] up low high each = refl
form_of_sorted [] j terms (e ∷ es) up low high each =
    let a = All-head (λ (e : ℕ × ℚ). j ≤ e.0) e es low in let b = All-head (λ (e : ℕ × ℚ). e.0 < j + 0) e es high in absurd (omega arith)
form_of_sorted (name ∷ names) j terms [] up low high each =
    form_of_sorted names (j + 1) terms [] tt (All-nil (λ e. j + 1 ≤ e.0)) (All-nil (λ e. e.0 < j + 1 + length names)) (λ k h. ap (λ (n : ℕ). lookup {X = ℚ} (nat_eq n) []) (let s : j + 1 + k ≡ j + suc k = omega arith in s) ∙ each (suc k) (omega arith))
    ∙ sym (no_term j name terms (form_from (j + 1) names terms) (sym (each 0 (omega arith))))
form_of_sorted (name ∷ names) j terms (e ∷ es) up low high each =
    by (ltb j e.0) refl (form_of_sorted names (j + 1) terms)
  where
    longer : j + length (name ∷ names) ≡ j + 1 + length names
    longer = omega arith

    by : (b : Bool) → ltb j e.0 ≡ b
        → ((es : List (ℕ × ℚ)) → IsStrictlySortedBy nat_cmp (map (λ e. e.0) es) → All (λ e. j + 1 ≤ e.0) es → All (λ e. e.0 < j + 1 + length names) es → ((k : ℕ) → k < length names → lookup (nat_eq (j + 1 + k)) es ≡ sum_there (name_at names k) terms) → kept es ≡ form_from (j + 1) names terms)
        → with_term e.0 e.1 (kept es) ≡ with_term j (sum_of name terms) (form_from (j + 1) names terms)
    by true q rest =
        let lt : j < e.0 = ltb-true j e.0 q in
        let beyond : lookup (nat_eq (j + 0)) (e ∷ es) ≡ None = ap (λ b. cond b (Some e.1) (lookup (nat_eq (j + 0)) es)) (ne_eqb (j + 0) e.0 (λ d. omega arith)) ∙ absent (j + 0) e.0 es up.0 (omega arith) in
        rest (e ∷ es) up (All-cons (λ (e : ℕ × ℚ). j + 1 ≤ e.0) e es (omega arith) (All-weaker (λ (u : ℕ × ℚ). e.0 < u.0) (λ (u : ℕ × ℚ). j + 1 ≤ u.0) (λ u h. omega arith) es (later e.0 es up.0)))
        (subst (λ (n : ℕ). All (λ (e : ℕ × ℚ). e.0 < n) (e ∷ es)) longer high)
        (λ k h. ap (λ (n : ℕ). lookup (nat_eq n) (e ∷ es)) (let s : j + 1 + k ≡ j + suc k = omega arith in s) ∙ each (suc k) (omega arith))
        ∙ sym (no_term j name terms (form_from (j + 1) names terms) (sym (each 0 (omega arith)) ∙ beyond))
    by false q rest =
        let ge : e.0 ≤ j = ltb-false j e.0 q in
        let le = All-head (λ (e : ℕ × ℚ). j ≤ e.0) e es low in
        let is : e.0 ≡ j = omega arith in
        let found : lookup (nat_eq (j + 0)) (e ∷ es) ≡ Some e.1 = ap (λ b. cond b (Some e.1) (lookup (nat_eq (j + 0)) es)) (eq-eqb (j + 0) e.0 (omega arith)) in
        let value : e.1 ≡ sum_of name terms = ap (λ o. unwrap_or o zero_ℚ) (sym found ∙ each 0 (omega arith)) ∙ sum_looked name terms in
        ap (λ (t : ℕ × ℚ). with_term t.0 t.1 (kept es)) (λ i. (is i, value i))
        ∙ ap (with_term j (sum_of name terms)) (rest es up.1
        (All-weaker (λ (u : ℕ × ℚ). e.0 < u.0) (λ (u : ℕ × ℚ). j + 1 ≤ u.0) (λ u h. omega arith) es (later e.0 es up.0))
        (subst (λ (n : ℕ). All (λ (e : ℕ × ℚ). e.0 < n) es) longer (All-tail (λ (e : ℕ × ℚ). e.0 < j + length (name ∷ names)) e es high))
        (λ k h. sym (ap (λ b. cond b (Some e.1) (lookup (nat_eq (j + 1 + k)) es)) (ne_eqb (j + 1 + k) e.0 (λ d. omega arith)))
        ∙ (ap (λ (n : ℕ). lookup (nat_eq n) (e ∷ es)) (let s : j + 1 + k ≡ j + suc k = omega arith in s) ∙ each (suc k) (omega arith))))

-- sums in the order of their columns
pub form_is : (names : List (List ℕ)) (terms : List Term) (es sorted : List (ℕ × ℚ)) → HoldsSums names terms es → IsStrictlySortedBy nat_cmp (map (λ e. e.0) sorted) → All (λ e. e.0 < length names) sorted → ((q : ℕ) → lookup (nat_eq q) sorted ≡ lookup (nat_eq q) es) → kept sorted ≡ form_of names terms
form_is names terms es sorted holds up below same =
    form_of_sorted names 0 terms sorted up (All-weaker (λ (e : ℕ × ℚ). e.0 < length names) (λ (e : ℕ × ℚ). 0 ≤ e.0) (λ e h. omega arith) sorted below)
    (subst (λ (n : ℕ). All (λ (e : ℕ × ℚ). e.0 < n) sorted) (let s : length names ≡ 0 + length names = omega arith in s) below)
    (λ k h. ap (λ (n : ℕ). lookup (nat_eq n) sorted) (let s : 0 + k ≡ k = omega arith in s) ∙ same k ∙ holds.each k h)

-- what is made of sums in the order of their columns, if it is
pub forms_are : {E : Type 0} (es sorted : List (ℕ × ℚ)) (result : Result (List LinearTerm) E) → IsStrictlySortedBy nat_cmp (map (λ e. e.0) sorted) → ((n : ℕ) → All (λ e. e.0 < n) es → All (λ e. e.0 < n) sorted) → ((q : ℕ) → lookup (nat_eq q) sorted ≡ lookup (nat_eq q) es)
    → IfOk result (λ form. form ≡ kept sorted) → IfOk result (λ form. (names : List (List ℕ)) (terms : List Term) → HoldsSums names terms es → form ≡ form_of names terms)
forms_are es sorted (Ok form) up below same is = λ names terms holds. is ∙ form_is names terms es sorted holds up (below (length names) holds.below) same
forms_are es sorted (Err e) up below same is = tt

-- ---- the list so far
-- what holds of each entry holds of one
pub entry_holds : (P : ℕ × ℚ → Type 0) (es : List (ℕ × ℚ)) (i : ℕ) (e : ℕ × ℚ) → slice_get es i ≡ Some e → All P es → P e
entry_holds P es i e at all = subst P (get_or_from_slice_get es i e e at) (All-get_or P es i e (slice_get_within es i e at) all)

with_term_first : (column : ℕ) (factor : ℚ) (rest : List LinearTerm) → with_term column factor rest ≡ with_term column factor [] ++ rest
with_term_first column factor rest = by (eq_ℚ factor zero_ℚ)
  where
    by : (b : Bool) → cond b rest (record { column = column; factor = factor } ∷ rest) ≡ cond b [] (record { column = column; factor = factor } ∷ []) ++ rest
    by true = refl
    by false = refl

pub kept_more : (list : List LinearTerm) (es : List (ℕ × ℚ)) (i : ℕ) (e : ℕ × ℚ) (new all : List LinearTerm) → list ++ kept (drop i es) ≡ all → slice_get es i ≡ Some e → new ≡ list ++ with_term e.0 e.1 [] → new ++ kept (drop (i + 1) es) ≡ all
unfolding kept
kept_more list es i e new all so_far at is =
    ap (λ ts. ts ++ kept (drop (i + 1) es)) is ∙ append_assoc list (with_term e.0 e.1 []) (kept (drop (i + 1) es))
    ∙ (ap (λ ts. list ++ ts) (sym (with_term_first e.0 e.1 (kept (drop (i + 1) es))) ∙ sym (ap kept (drop_get es i e at))) ∙ so_far)

pub kept_all : (list : List LinearTerm) (es : List (ℕ × ℚ)) (i : ℕ) (all : List LinearTerm) → list ++ kept (drop i es) ≡ all → length es ≤ i → list ≡ all
unfolding kept
kept_all list es i all so_far end = sym (append-nil list) ∙ ap (λ ts. list ++ kept ts) (sym (drop_all i es end)) ∙ so_far
