-- No two rows of an elastic system are of one row of the program, or of one member.
use Rattle.std.proofs.Common.{◌≡◌, ◌≢◌, ◌+◌, ◌*◌, ◌/◌, ◌<◌, refl, sym, ◌∙◌, ap, subst, ℕ, zero, suc, Bool, true, false, true≢false, cond, ◌||◌, not, List, [], ◌∷◌, ◌++◌, append-nil, filter, length, get_or, Option, Some, None, arith, inl, inr}
use Rattle.std.specs.Prelude.{All, AllPairs, IsTrue, flat_map}
use Rattle.std.proofs.lemmas.Bool.{cases_lt}
use Rattle.std.proofs.lemmas.List.Concat.{flat_map-append}
use Rattle.std.proofs.lemmas.List.Elements.{All-append, All-cons, All-nil, All-weaker, filter_passes}
use Rattle.std.proofs.lemmas.List.Kept.{AllPairs-cons, AllPairs-filter}
use Rattle.rational.specs.Rational.{ℚ}
use Rattle.lp_model.specs.declared.members.Member.{Member}
use Rattle.lp_model.specs.declared.members.Member.TheVariants.{RowLo, RowUp}
use Rattle.lp_model.specs.Program.{Program}
use Rattle.lp_model.specs.Members.{comes_before, is_same, has, number, place, IsInOrder}
use Rattle.lp_model.proofs.Orders.{before_differs}
use Rattle.lp_model.proofs.Sets.{pairs_head, pairs_tail, same_members}
use Rattle.certs.specs.Elastic.{is_row_side, is_side_of, numbered_soft, soft_members}
use Rattle.certs.specs.Ended.{numbers_from}
use Rattle.certs.specs.Plain.{has_row}
use Rattle.relaxation.specs.Origins.{origins, origins_of, row_origins, soft_origin, soft_origins}
use Rattle.relaxation.specs.declared.origins.Origin.{Origin}
use Rattle.relaxation.specs.declared.origins.Origin.TheVariants.{Row, Soft}
use Rattle.relaxation.proofs.Joined.{All-flat_map, across, no_pairs, pairs_append}
use Rattle.relaxation.proofs.Soft.{numbered, numbered_all, numbered_first}

abbrev pub Apart : Origin → Origin → Type 0
Apart (Row i) (Row j) = i ≢ j
Apart (Row i) (Soft e m) = Unit {0}
Apart (Soft e m) (Row j) = Unit {0}
Apart (Soft e m) (Soft f n) = is_same m n ≡ false

abbrev Differs : ℕ × Member → ℕ × Member → Type 0
Differs e f = is_same e.1 f.1 ≡ false

-- ---- the soft members
soft_differ : (k : ℕ) (list : List Member) → AllPairs (λ m n. is_same m n ≡ false) list → AllPairs Differs (numbered k list)
unfolding numbered
soft_differ k [] h = no_pairs Differs
soft_differ k (m ∷ list) h =
    subst (AllPairs Differs) (sym (numbered_first k m list))
    (AllPairs-cons Differs (k, m) (numbered (suc k) list)
    (numbered_all (λ n. is_same m n ≡ false) (suc k) list (pairs_head (λ m n. is_same m n ≡ false) m list h))
    (soft_differ (suc k) list (pairs_tail (λ m n. is_same m n ≡ false) m list h)))

-- ---- the rows of soft members
module _ (model : Program) where
  -- what holds of members holds of their rows
  soft_each : (P : Origin → Type 0) (Q : ℕ × Member → Type 0) → ((e : ℕ × Member) → Q e → P (Soft e.0 e.1)) → (soft : List (ℕ × Member)) → All Q soft → All P (soft_origins model soft)
  soft_each P Q f soft h =
      All-flat_map P (λ e. soft_origin e (number model e.1)) soft (All-weaker Q (λ (e : ℕ × Member). All P (soft_origin e (number model e.1))) (λ e q. one e (number model e.1) q) soft h)
    where
      one : (e : ℕ × Member) (o : Option ℚ) → Q e → All P (soft_origin e o)
      one e None q = All-nil P
      one e (Some b) q = All-cons P (Soft e.0 e.1) [] (f e q) (All-nil P)

  soft_apart : (soft : List (ℕ × Member)) → AllPairs Differs soft → AllPairs Apart (soft_origins model soft)
  soft_apart [] h = no_pairs Apart
  soft_apart (e ∷ soft) h =
      by (number model e.1) (soft_apart soft (pairs_tail Differs e soft h)) (soft_each (Apart (Soft e.0 e.1)) (Differs e) (λ f d. d) soft (pairs_head Differs e soft h))
    where
      by : (o : Option ℚ) → AllPairs Apart (soft_origins model soft) → All (Apart (Soft e.0 e.1)) (soft_origins model soft) → AllPairs Apart (soft_origin e o ++ soft_origins model soft)
      by None rest first = rest
      by (Some b) rest first = AllPairs-cons Apart (Soft e.0 e.1) (soft_origins model soft) first rest

-- ---- on which row of the program they are
abbrev IsOn : ℕ → Origin → Type 0
IsOn i (Row j) = j ≡ i
IsOn i (Soft e m) = is_side_of i m ≡ true

abbrev IsBefore : ℕ → Origin → Type 0
IsBefore i o = (j : ℕ) × ((j < i) × IsOn j o)

pub side_place : (i : ℕ) (m : Member) → is_side_of i m ≡ true → place m / 2 ≡ i
side_place i m h = by (is_same m (RowLo i)) refl h
  where
    by : (t : Bool) → is_same m (RowLo i) ≡ t → (t || is_same m (RowUp i)) ≡ true → place m / 2 ≡ i
    by true e g = ap (λ z. place z / 2) (same_members m (RowLo i) e) ∙ (let k : 2 * i / 2 ≡ i = omega arith in k)
    by false e g = ap (λ z. place z / 2) (same_members m (RowUp i) g) ∙ (let k : (2 * i + 1) / 2 ≡ i = omega arith in k)

side_row : (i : ℕ) (m : Member) → is_side_of i m ≡ true → is_row_side m ≡ true
side_row i m h = by (is_same m (RowLo i)) refl h
  where
    by : (t : Bool) → is_same m (RowLo i) ≡ t → (t || is_same m (RowUp i)) ≡ true → is_row_side m ≡ true
    by true e g = ap is_row_side (same_members m (RowLo i) e)
    by false e g = ap is_row_side (same_members m (RowUp i) g)

-- members of which not both are one
unless_same : (m n : Member) → (m ≡ n → ⊥) → is_same m n ≡ false
unless_same m n h = by (is_same m n) refl
  where
    by : (t : Bool) → is_same m n ≡ t → t ≡ false
    by true e = absurd (h (same_members m n e))
    by false e = refl

rows_apart : (i : ℕ) (o p : Origin) → IsBefore i o → IsOn i p → Apart o p
rows_apart i (Row a) (Row b) h k = λ e. let l = h.1.0 in let on = h.1.1 in absurd (omega (arith, e, l, on, k))
rows_apart i (Row a) (Soft f n) h k = tt
rows_apart i (Soft e m) (Row b) h k = tt
rows_apart i (Soft e m) (Soft f n) h k =
    unless_same m n
    (λ same. let l = h.1.0 in let first = side_place h.0 m h.1.1 in let second = side_place i n k in let both = ap (λ z. place z / 2) same in absurd (omega (arith, l, first, second, both)))

bounds_apart : (o p : Origin) → ((i : ℕ) × IsOn i o) → ((e : ℕ) × ((m : Member) × ((p ≡ Soft e m) × (not (is_row_side m) ≡ true)))) → Apart o p
bounds_apart (Row i) p h k = subst (Apart (Row i)) (sym k.1.1.0) tt
bounds_apart (Soft e m) p h k =
    subst (Apart (Soft e m)) (sym k.1.1.0)
    (unless_same m k.1.0 (λ same. true≢false (sym k.1.1.1 ∙ ap not (sym (ap is_row_side same) ∙ side_row h.0 m h.1))))

-- the rows before one
module _ (model : Program) (enforced : List Member) (soft : List (ℕ × Member)) where
  abbrev front : ℕ → List Origin
  front n = flat_map (row_origins model enforced soft) (numbers_from 0 n)

  pub front_more : (n : ℕ) → front (suc n) ≡ front n ++ row_origins model enforced soft n
  front_more n =
      flat_map-append (row_origins model enforced soft) (numbers_from 0 n) ((0 + n) ∷ [])
      ∙ ap (λ z. front n ++ z) (append-nil (row_origins model enforced soft (0 + n)))
      ∙ ap (λ z. front n ++ row_origins model enforced soft z) (let e : 0 + n ≡ n = omega arith in e)

module _ (model : Program) (enforced : List Member) (soft : List (ℕ × Member)) (differ : AllPairs Differs soft) where
  on_row : (i : ℕ) → All (IsOn i) (row_origins model enforced soft i)
  on_row i =
      All-append (IsOn i) (cond (has_row enforced i) (Row i ∷ []) []) (soft_origins model (filter (λ e. is_side_of i e.1) soft)) (by (has_row enforced i))
      (soft_each model (IsOn i) (λ (e : ℕ × Member). is_side_of i e.1 ≡ true) (λ e h. h) (filter (λ e. is_side_of i e.1) soft) (filter_passes (λ (e : ℕ × Member). is_side_of i e.1) soft))
    where
      by : (b : Bool) → All (IsOn i) (cond b (Row i ∷ []) [])
      by true = All-cons (IsOn i) (Row i) [] refl (All-nil (IsOn i))
      by false = All-nil (IsOn i)

  apart_in_row : (i : ℕ) → AllPairs Apart (row_origins model enforced soft i)
  apart_in_row i = by (has_row enforced i)
    where
      rest : AllPairs Apart (soft_origins model (filter (λ e. is_side_of i e.1) soft))
      rest = soft_apart model (filter (λ e. is_side_of i e.1) soft) (AllPairs-filter Differs (λ (e : ℕ × Member). is_side_of i e.1) soft differ)

      by : (b : Bool) → AllPairs Apart (cond b (Row i ∷ []) [] ++ soft_origins model (filter (λ e. is_side_of i e.1) soft))
      by true =
          AllPairs-cons Apart (Row i) (soft_origins model (filter (λ e. is_side_of i e.1) soft))
          (soft_each model (Apart (Row i)) (λ (e : ℕ × Member). is_side_of i e.1 ≡ true) (λ e h. tt) (filter (λ e. is_side_of i e.1) soft) (filter_passes (λ (e : ℕ × Member). is_side_of i e.1) soft)) rest
      by false = rest

  before_row : (n : ℕ) → All (IsBefore n) (front model enforced soft n)
  before_row zero = All-nil (IsBefore zero)
  before_row (suc n) =
      subst (All (IsBefore (suc n))) (sym (front_more model enforced soft n))
      (All-append (IsBefore (suc n)) (front model enforced soft n) (row_origins model enforced soft n)
      (All-weaker (IsBefore n) (IsBefore (suc n)) (λ o h. (h.0, ((let l = h.1.0 in omega (arith, l)), h.1.1))) (front model enforced soft n) (before_row n))
      (All-weaker (IsOn n) (IsBefore (suc n)) (λ o h. (n, (omega arith, h))) (row_origins model enforced soft n) (on_row n)))

  front_apart : (n : ℕ) → AllPairs Apart (front model enforced soft n)
  front_apart zero = no_pairs Apart
  front_apart (suc n) =
      subst (AllPairs Apart) (sym (front_more model enforced soft n))
      (pairs_append Apart (front model enforced soft n) (row_origins model enforced soft n) (front_apart n) (apart_in_row n)
      (across Apart (IsBefore n) (IsOn n) (rows_apart n) (front model enforced soft n) (row_origins model enforced soft n) (before_row n) (on_row n)))

  pub all_apart : AllPairs Apart (origins_of model enforced soft)
  all_apart =
      let bounds : List (ℕ × Member) = filter (λ e. not (is_row_side e.1)) soft in
      pairs_append Apart (front model enforced soft (length model.rows)) (soft_origins model bounds) (front_apart (length model.rows))
      (soft_apart model bounds (AllPairs-filter Differs (λ (e : ℕ × Member). not (is_row_side e.1)) soft differ))
      (across Apart (λ o. (i : ℕ) × IsOn i o) (λ p. (e : ℕ) × ((m : Member) × ((p ≡ Soft e m) × (not (is_row_side m) ≡ true)))) bounds_apart (front model enforced soft (length model.rows)) (soft_origins model bounds)
      (All-weaker (IsBefore (length model.rows)) (λ o. (i : ℕ) × IsOn i o) (λ o h. (h.0, h.1.1)) (front model enforced soft (length model.rows)) (before_row (length model.rows)))
      (soft_each model (λ p. (e : ℕ) × ((m : Member) × ((p ≡ Soft e m) × (not (is_row_side m) ≡ true)))) (λ (e : ℕ × Member). not (is_row_side e.1) ≡ true) (λ e h. (e.0, (e.1, (refl, h)))) bounds (filter_passes (λ (e : ℕ × Member). not (is_row_side e.1)) soft)))

-- those of a set in order
pub origins_apart : (model : Program) (set enforced : List Member) → IsInOrder set → AllPairs Apart (origins model set enforced)
unfolding numbered
origins_apart model set enforced ordered =
    let soft : List Member = soft_members set enforced in
    let kept : AllPairs (λ m n. IsTrue (comes_before m n)) soft = AllPairs-filter (λ m n. IsTrue (comes_before m n)) (λ m. not (has enforced m)) set ordered in
    all_apart model enforced (numbered_soft (length model.columns) set enforced)
    (soft_differ (length model.columns) soft (λ i j d l m. before_differs (get_or soft i d) (get_or soft j d) (kept i j d l m)))

-- so what stands at two places is apart, one way or the other
pub one_place : (xs : List Origin) (i j : ℕ) (d : Origin) → AllPairs Apart xs → i < length xs → j < length xs → (Apart (get_or xs i d) (get_or xs j d) → ⊥) → (Apart (get_or xs j d) (get_or xs i d) → ⊥) → i ≡ j
one_place xs i j d h l m p q =
    elim (cases_lt i j) [
      | inl g ↦ absurd (p (h i j d g m))
      | inr g ↦ (elim (cases_lt j i) [
        | inl k ↦ absurd (q (h j i d k l))
        | inr k ↦ omega (arith, g, k)
      ])
    ]
