-- What is kept of the values of basic variables stays true where a variable that does not count in their rows changes its place.
use Rattle.std.proofs.Common.{◌≡◌, ◌≢◌, ◌<◌, refl, sym, ◌∙◌, ap, subst, ℕ, zero, suc, Bool, true, false, true≢false, cond, List, [], ◌∷◌, ◌++◌, length, get_or, set, Option, Some, None, inl, inr}
use Rattle.std.specs.Prelude.{All, replicate, slice_index_or}
use Rattle.std.proofs.lemmas.Bool.{cases_eq, cond-true}
use Rattle.std.proofs.lemmas.List.{get_or-set_same, get_or-set_other, length-replicate, length-set}
use Rattle.std.proofs.lemmas.List.Elements.{All-head, All-tail, All-map}
use Rattle.rational.specs.Rational.{ℚ, ◌+ℚ◌, ◌-ℚ◌, ◌*ℚ◌, ◌/ℚ◌, zero_ℚ, one_ℚ}
use Rattle.rational.specs.Sum.{sum_over}
use Rattle.rational.specs.Linear.{Term, factor_of}
use Rattle.rational.proofs.Field.{ring_ℚ, x0, x1, ◌:-◌, ◌:*◌, zero_of}
use Rattle.rational.proofs.Sums.{sum_over-ext_on, sum_over-ext, nothing_times}
use Rattle.lp_model.specs.declared.members.Side.{Side}
use Rattle.frac128.specs.Calculation.{first_wide}
use Rattle.frac128.specs.declared.Op.TheVariants.{Plus, Times}
use Rattle.certs.specs.System.{Limits, Place, is_basic, no_limits}
use Rattle.certs.specs.System.Place.{AtZero}
use Rattle.certs.specs.Tableau.{Tableau, nonbasics, place_value, value_at_place, value_of}
use Rattle.certs.specs.Turns.{counted, exchanged, operations_of, sum_operations, value_operations}
use Rattle.certs.proofs.Tableaus.{place_basic, basic_below, exchanged-other, exchanged-place}
use Rattle.dictionary.specs.Rows.{quotients_of, IsSparse, AreSparse, AreRowsExchanged}
use Rattle.dictionary.specs.Sound.{IsValue, AreValues, AreForgotten}
use Rattle.dictionary.specs.Value.{table_of}
use Rattle.dictionary.proofs.Lists.{rises, factor_at}
use Rattle.dictionary.proofs.Tables.{basic_absent}
use Rattle.dictionary.proofs.Values.{columns, value-work, value-total}

operations_same : (P : ℕ → Type 0) (e f g h : ℕ → ℚ) → ((k : ℕ) → P k → (e k ≡ f k) × (g k ≡ h k)) → (s : ℚ) (ks : List ℕ) → All P ks → sum_operations e g s ks ≡ sum_operations f h s ks
operations_same P e f g h same s [] all = refl
operations_same P e f g h same s (k ∷ ks) all =
    let a = (same k (All-head P k ks all)).0 in
    let b = (same k (All-head P k ks all)).1 in
    ap (λ x. counted Times x (g k) ++ (counted Plus s (x *ℚ g k) ++ sum_operations e g (s +ℚ x *ℚ g k) ks)) a
    ∙ ap (λ x. counted Times (f k) x ++ (counted Plus s (f k *ℚ x) ++ sum_operations e g (s +ℚ f k *ℚ x) ks)) b
    ∙ ap (λ x. counted Times (f k) (h k) ++ (counted Plus s (f k *ℚ h k) ++ x)) (operations_same P e f g h same (s +ℚ f k *ℚ h k) ks (All-tail P k ks all))

-- a row, where the variables that count in it keep their places
module _ (limits : List Limits) (basis next : List Place) (row : List Term) (sparse : IsSparse basis row) (long : length next ≡ length basis) (places : All (λ t. get_or next t.column AtZero ≡ get_or basis t.column AtZero) row) where
  abbrev place : List Place → ℕ → ℚ
  place b k = value_at_place (get_or limits k no_limits) (get_or b k AtZero)

  after : IsSparse next row
  unfolding place_basic
  after = record {
    is_row = sparse.is_row;
    nonbasic = λ k d l. (subst (λ n. (get_or row k d).column < n) (sym long) (sparse.nonbasic k d l).0, ap place_basic (places k d l) ∙ (sparse.nonbasic k d l).1);
  }

  same_places : All (λ k. place next k ≡ place basis k) (columns row)
  same_places = All-map (λ k. place next k ≡ place basis k) (λ (t : Term). t.column) row (λ k d l. ap (value_at_place (get_or limits (get_or row k d).column no_limits)) (places k d l))

  pub row_work_stays : sum_operations (factor_of row) (place next) zero_ℚ (nonbasics next) ≡ sum_operations (factor_of row) (place basis) zero_ℚ (nonbasics basis)
  row_work_stays =
      sym (value-work next row after (place next) zero_ℚ)
      ∙ operations_same (λ k. place next k ≡ place basis k) (factor_of row) (factor_of row) (place next) (place basis) (λ k e. (refl, e)) zero_ℚ (columns row) same_places
      ∙ value-work basis row sparse (place basis) zero_ℚ

  pub row_total_stays : sum_over (λ k. factor_of row k *ℚ place next k) (nonbasics next) ≡ sum_over (λ k. factor_of row k *ℚ place basis k) (nonbasics basis)
  row_total_stays =
      sym (value-total next row after (place next))
      ∙ sum_over-ext_on (λ k. place next k ≡ place basis k) _ _ (λ k e. ap (λ z. factor_of row k *ℚ z) e) (columns row) same_places
      ∙ value-total basis row sparse (place basis)

-- the variables but j keep their places, and so do the rows in which j does not count
module _ (most : ℕ) (limits : List Limits) (objective : Bool) (basis next : List Place) (rows new : List (List Term)) (j : ℕ) (sparse : AreSparse basis rows) (long : length next ≡ length basis)
    (places : (k : ℕ) → is_basic basis k ≡ false → k ≢ j → get_or next k AtZero ≡ get_or basis k AtZero)
    (same : (i : ℕ) → is_basic basis i ≡ true → factor_of (slice_index_or rows i []) j ≡ zero_ℚ → (is_basic next i ≡ true) × ((k : ℕ) → factor_of (slice_index_or new i []) k ≡ factor_of (slice_index_or rows i []) k)) where
  value_stays : (i : ℕ) (q : ℚ) → factor_of (slice_index_or rows i []) j ≡ zero_ℚ → IsValue most (table_of limits objective basis rows) i q → IsValue most (table_of limits objective next new) i q
  value_stays i q absent is =
      let row = slice_index_or rows i [] in
      let here : IsSparse basis row = sparse.sparse i is.basic in
      let stays : All (λ t. get_or next t.column AtZero ≡ get_or basis t.column AtZero) row =
      λ k d l. places (get_or row k d).column (here.nonbasic k d l).1 (λ e. here.is_row.nonzero k d l (sym (factor_at 0 row (rises row here.is_row) k d l) ∙ ap (factor_of row) e ∙ absent)) in
      let p = place_value (table_of limits objective next new) in
      let f = (same i is.basic absent).1 in
      record {
        basic = (same i is.basic absent).0;
        value = is.value ∙ sym (sum_over-ext (λ k. factor_of (slice_index_or new i []) k *ℚ p k) (λ k. factor_of row k *ℚ p k) (nonbasics next) (λ k. ap (λ z. z *ℚ p k) (f k)) ∙ row_total_stays limits basis next row here long stays);
        narrow =
            ap (first_wide most)
            (operations_same (λ k. Unit {0}) (factor_of (slice_index_or new i [])) (factor_of row) p p (λ k u. (f k, refl)) zero_ℚ (nonbasics next) (λ k d l. tt) ∙ row_work_stays limits basis next row here long stays)
            ∙ is.narrow;
      }

  pub values_stay : {N : Type 0} (value : N → ℚ) (old kept : List (Option N)) → AreForgotten rows j old kept → AreValues most value (table_of limits objective basis rows) old → AreValues most value (table_of limits objective next new) kept
  values_stay value old kept forgotten are = record {
    long = forgotten.long ∙ are.long ∙ sym long;
    kept = λ i v e. value_stays i (value v) (forgotten.absent i v e) (are.kept i v (forgotten.kept i v e));
  }

-- ---- a pivot
module _ (basis : List Place) (rows : List (List Term)) (sparse : AreSparse basis rows) (i j : ℕ) (side : Side) (bi : is_basic basis i ≡ true) (nj : is_basic basis j ≡ false) where
  pub pivoted_places : (k : ℕ) → is_basic basis k ≡ false → k ≢ j → get_or (exchanged basis i side j) k AtZero ≡ get_or basis k AtZero
  pivoted_places k nk d = exchanged-place basis i j side k (λ e. true≢false (sym bi ∙ ap (is_basic basis) (sym e) ∙ nk)) d

  pub pivoted_same : (new : List (List Term)) → factor_of (slice_index_or rows i []) j ≢ zero_ℚ → AreRowsExchanged i j rows new → (r : ℕ) → is_basic basis r ≡ true → factor_of (slice_index_or rows r []) j ≡ zero_ℚ
      → (is_basic (exchanged basis i side j) r ≡ true) × ((k : ℕ) → factor_of (slice_index_or new r []) k ≡ factor_of (slice_index_or rows r []) k)
  pivoted_same new nonzero changed r br absent =
      let not_i : r ≢ i = λ e. nonzero (ap (λ z. factor_of (slice_index_or rows z []) j) (sym e) ∙ absent) in
      let not_j : r ≢ j = λ e. true≢false (sym br ∙ ap (is_basic basis) e ∙ nj) in
      let is = changed.others r (subst (λ n. r < n) (sym sparse.long) (basic_below basis r br)) not_i not_j in
      let row = slice_index_or rows r [] in
      let inverse = one_ℚ /ℚ factor_of (slice_index_or rows i []) j in
      let quotients = quotients_of j (slice_index_or rows i []) in (
        exchanged-other basis i j side r not_i not_j ∙ br,
        λ k. elim (cases_eq k i) [
          | inl e ↦ (ap (factor_of (slice_index_or new r [])) e ∙ is.own ∙ ap (λ z. z *ℚ inverse) absent ∙ nothing_times inverse ∙ sym (ap (factor_of row) e ∙ basic_absent basis rows sparse i bi r))
          | inr d ↦
              elim (cases_eq k j) [
                | inl e ↦ (ap (factor_of (slice_index_or new r [])) e ∙ is.gone ∙ sym (ap (factor_of row) e ∙ absent))
                | inr f ↦ (is.others k d f ∙ ap (λ z. factor_of row k -ℚ z *ℚ factor_of quotients k) absent ∙ ring_ℚ (factor_of row k ∷ factor_of quotients k ∷ []) (x0 :- zero_of :* x1) x0 tt)
              ]
        ],
      )

-- ---- values that are kept
module _ {N : Type 0} (most : ℕ) (value : N → ℚ) (t : Tableau) where
  none_at : (n i : ℕ) → get_or {A = Option N} (replicate n None) i None ≡ None
  none_at zero i = refl
  none_at (suc n) zero = refl
  none_at (suc n) (suc i) = none_at n i

  pub none_kept : (values : List (Option N)) (n : ℕ) → values ≡ replicate n None → n ≡ length t.basis → AreValues most value t values
  none_kept values n is long = record {
    long = ap length is ∙ length-replicate n None ∙ long;
    kept = λ i v e. (let a = none_at n i in let b = ap (λ l. get_or l i None) is in absurd (cc (a, b, e)));
  }

  pub value_kept : (values : List (Option N)) (i : ℕ) (v : N) → i < length values → IsValue most t i (value v) → AreValues most value t values → AreValues most value t (set values i (Some v))
  value_kept values i v l is are = record {
    long = length-set values i (Some v) ∙ are.long;
    kept = λ k w e.
        elim (cases_eq k i) [
          | inl d ↦ (let a = get_or-set_same values i (Some v) None l in subst (λ k. IsValue most t k (value w)) (sym d) (subst (λ x. IsValue most t i (value x)) (cc (a, d, e)) is))
          | inr d ↦ are.kept k w (sym (get_or-set_other values i k (Some v) None d) ∙ e)
        ];
  }

pub value_read : (most : ℕ) (t : Tableau) (i : ℕ) (q : ℚ) → IsValue most t i q → (q ≡ value_of t i) × (first_wide most (operations_of t i) ≡ None)
value_read most t i q is = (is.value ∙ sym (cond-true (is_basic t.basis i) _ _ is.basic), ap (λ b. first_wide most (cond b (value_operations t i) [])) is.basic ∙ is.narrow)

pub value_found : (most : ℕ) (t : Tableau) (i : ℕ) (q : ℚ) → is_basic t.basis i ≡ true → (q ≡ value_of t i) × (first_wide most (operations_of t i) ≡ None) → IsValue most t i q
value_found most t i q b is = record { basic = b; value = is.0 ∙ cond-true (is_basic t.basis i) _ _ b; narrow = ap (λ b. first_wide most (cond b (value_operations t i) [])) (sym b) ∙ is.1 }
