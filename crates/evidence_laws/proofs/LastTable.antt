-- The last table of the alternative system: its support is a weighting, and irreducible without further filtering.
use Rattle.std.proofs.Common.{◌≡◌, ◌≢◌, ◌+◌, ◌<◌, refl, sym, ◌∙◌, ap, subst, ℕ, zero, suc, Bool, true, false, true≢false, cond, ◌==◌, List, [], ◌∷◌, ◌++◌, length, get_or, Option, None, Some, IsSome, is_some, arith, inl, inr, eq-eqb, ne_eqb}
use Rattle.std.specs.Prelude.{All, Contains}
use Rattle.std.proofs.lemmas.Bool.{cond_both, cond-true, cond-false, cases_lt, cases_Bool, cases_eq}
use Rattle.std.proofs.lemmas.List.Elements.{All-head, All-tail, All-nil, All-cons, All-weaker, All-contains_itself, All-get_or, All-filter, filter_passes}
use Rattle.algebra.proofs.Ring.{x0, x1, x2, x3, ◌:+◌, ◌:*◌, minus, zero_of, unit_of}
use Rattle.rational.specs.Rational.{ℚ, ◌+ℚ◌, ◌*ℚ◌, neg_ℚ, inv_ℚ, zero_ℚ, one_ℚ, lt_q, ◌≤ℚ◌, ◌<ℚ◌}
use Rattle.rational.specs.Sum.{sum_over, sum_below}
use Rattle.rational.specs.Linear.{Term, Assignment, form_value, factor_of}
use Rattle.rational.proofs.Field.{ring_ℚ, ring_by_ℚ, ring_by2_ℚ, mul-inv_ℚ}
use Rattle.rational.proofs.Order.{le_antisymm_ℚ, le_of_lt_ℚ, lt_irrefl_ℚ, lt_q-true, lt_q-false}
use Rattle.rational.proofs.Sums.{sum_below-ext, sum_below-zero, sum_below-scale, sum_below-split}
use Rattle.rational.proofs.Forms.{by_known}
use Rattle.lp_model.specs.declared.members.Member.{Member}
use Rattle.lp_model.specs.declared.members.Member.TheVariants.{RowLo}
use Rattle.lp_model.specs.declared.members.Side.{Side}
use Rattle.lp_model.specs.declared.members.Side.TheVariants.{Lo, Up}
use Rattle.lp_model.specs.Program.{Program, IsWellFormed}
use Rattle.lp_model.specs.Members.{form, value, number, side}
use Rattle.lp_model.specs.Satisfaction.{values_at, IsIrreducible}
use Rattle.lp_model.proofs.Points.{value_law}
use Rattle.lp_model.proofs.Sets.{Contains-cons}
use Rattle.lp_model.proofs.Walk.{in_middle}
use Rattle.certs.specs.declared.evidence.Branch.{Branch}
use Rattle.certs.specs.declared.evidence.Source.{Source}
use Rattle.certs.specs.declared.evidence.Source.TheVariants.{Member as Of, Below, Above}
use Rattle.certs.specs.declared.evidence.Share.{Share}
use Rattle.certs.specs.Combination.{source_form, source_value, source_number, number_or_zero, signed, multiple, IsFrom, IsThere, column_sum, right_side}
use Rattle.certs.specs.Alternative.{IsWeighting, with_source, members_of, IsMet}
use Rattle.certs.specs.System.{is_basic, Place, SystemRow, empty_system_row, bounding, member_factor, member_number, alternative_system, support, but, row_point, IsLastTable, IsVertex, LastTableLaw}
use Rattle.certs.proofs.Filters.{nil_apart}
use Rattle.certs.proofs.Signs.{signed_as}
use Rattle.certs.proofs.Further.{source_known, further_columns_law}
use Rattle.evidence_laws.proofs.Support.{all_met, support_law}
use Rattle.evidence_laws.proofs.Columns.{sum_with, terms_from_zero, unit, unit-other, sum_with-unit, row_is, number_row_is, extended, extended_member, extended_row, extended_last, system_columns, system_rows, extended_keeps}

abbrev pub no_member : Member
no_member = RowLo 0

-- ---- the support
unfoldable pub share_of : Member → ℚ → Share
share_of m q = record { source = Of m; weight = q }

support_all : (P : Share → Type 0) (members : List Member) (y : ℕ → ℚ) → ((k : ℕ) → k < length members → zero_ℚ <ℚ y k → P (share_of (get_or members k no_member) (y k))) → All P (support members y)
unfolding share_of
support_all P [] y h = All-nil P
support_all P (m ∷ members) y h =
    let rest : All P (support members (λ k. y (suc k))) = support_all P members (λ k. y (suc k)) (λ k l p. h (suc k) (let g : suc k < suc (length members) = omega arith in g) p) in
    cond_both (lt_q zero_ℚ (y 0)) (record { source = Of m; weight = y 0 } ∷ support members (λ k. y (suc k))) (support members (λ k. y (suc k))) (All P)
    (λ e. All-cons P (record { source = Of m; weight = y 0 }) (support members (λ k. y (suc k))) (h 0 (omega arith) (lt_q-true zero_ℚ (y 0) e)) rest)
    (λ e. rest)

-- a sum over the support is one over all members
pub support_sum : (g : Share → ℚ) (f : Member → ℚ) → ((m : Member) (q : ℚ) → g (share_of m q) ≡ f m *ℚ q) → (members : List Member) (y : ℕ → ℚ) → ((k : ℕ) → k < length members → zero_ℚ ≤ℚ y k) → sum_over g (support members y) ≡ sum_with f members y
unfolding share_of sum_with
support_sum g f same [] y h = refl
support_sum g f same (m ∷ members) y h =
    let rest : sum_over g (support members (λ k. y (suc k))) ≡ sum_with f members (λ k. y (suc k)) = support_sum g f same members (λ k. y (suc k)) (λ k l. h (suc k) (let g : suc k < suc (length members) = omega arith in g)) in
    cond_both (lt_q zero_ℚ (y 0)) (record { source = Of m; weight = y 0 } ∷ support members (λ k. y (suc k))) (support members (λ k. y (suc k)))
    (λ list. sum_over g list ≡ (f m *ℚ y 0) +ℚ sum_with f members (λ k. y (suc k)))
    (λ e. ap (λ z. z +ℚ sum_over g (support members (λ k. y (suc k)))) (same m (y 0)) ∙ ap (λ z. (f m *ℚ y 0) +ℚ z) rest)
    (λ e.
    let nothing : zero_ℚ ≡ y 0 = le_antisymm_ℚ (h 0 (omega arith)) (lt_q-false zero_ℚ (y 0) e) in
    rest ∙ ring_ℚ (f m ∷ sum_with f members (λ k. y (suc k)) ∷ []) x1 (x0 :* zero_of :+ x1) tt ∙ ap (λ z. (f m *ℚ z) +ℚ sum_with f members (λ k. y (suc k))) nothing)

-- the values with one put to 0
but-same : (i : ℕ) (y : ℕ → ℚ) → but i y i ≡ zero_ℚ
but-same i y = cond-true (i == i) zero_ℚ (y i) (eq-eqb i i refl)

but-other : (i : ℕ) (y : ℕ → ℚ) (k : ℕ) → i ≢ k → but i y k ≡ y k
but-other i y k h = cond-false (k == i) zero_ℚ (y k) (ne_eqb k i (λ e. h (sym e)))

but-first : (y : ℕ → ℚ) → ◌≡◌ {A = ℕ → ℚ} (λ k. but 0 y (suc k)) (λ k. y (suc k))
but-first y = λ p. λ k. but-other 0 y (suc k) (λ e. absurd (omega arith)) p

but-later : (i : ℕ) (y : ℕ → ℚ) → ◌≡◌ {A = ℕ → ℚ} (λ k. but (suc i) y (suc k)) (but i (λ k. y (suc k)))
but-later i y = λ p. λ k. by k p
  where
    by : (k : ℕ) → but (suc i) y (suc k) ≡ but i (λ k. y (suc k)) k
    by k =
        elim (cases_eq i k) [
          | inl e ↦ subst (λ z. but (suc i) y (suc z) ≡ but i (λ k. y (suc k)) z) e (but-same (suc i) y ∙ sym (but-same i (λ k. y (suc k))))
          | inr h ↦ but-other (suc i) y (suc k) (λ e. h (omega arith)) ∙ sym (but-other i (λ k. y (suc k)) k h)
        ]

-- a support from the first member on
support_of : Member → List Member → ℚ → (ℕ → ℚ) → List Share
support_of m members q y = cond (lt_q zero_ℚ q) (record { source = Of m; weight = q } ∷ support members y) (support members y)

support_first : (m : Member) (members : List Member) (y : ℕ → ℚ) → support_of m members zero_ℚ (λ k. y (suc k)) ≡ support (m ∷ members) (but 0 y)
unfolding support_of
support_first m members y = λ p. support_of m members (sym (but-same 0 y) p) (sym (but-first y) p)

support_later : (m : Member) (members : List Member) (i : ℕ) (y : ℕ → ℚ) → support_of m members (y 0) (but i (λ k. y (suc k))) ≡ support (m ∷ members) (but (suc i) y)
unfolding support_of
support_later m members i y = λ p. support_of m members (sym (but-other (suc i) y 0 (λ e. absurd (omega arith))) p) (sym (but-later i y) p)

support_with : (m : Member) (members : List Member) (i : ℕ) (y : ℕ → ℚ) (rest : List Share) → lt_q zero_ℚ (y 0) ≡ true
    → rest ≡ support members (but i (λ k. y (suc k))) → record { source = Of m; weight = y 0 } ∷ rest ≡ support (m ∷ members) (but (suc i) y)
unfolding support_of
support_with m members i y rest p e =
    ap (λ z. record { source = Of m; weight = y 0 } ∷ z) e
    ∙ sym (cond-true (lt_q zero_ℚ (y 0)) (record { source = Of m; weight = y 0 } ∷ support members (but i (λ k. y (suc k)))) (support members (but i (λ k. y (suc k)))) p)
    ∙ support_later m members i y

support_past : (m : Member) (members : List Member) (i : ℕ) (y : ℕ → ℚ) (rest : List Share) → lt_q zero_ℚ (y 0) ≡ false
    → rest ≡ support members (but i (λ k. y (suc k))) → rest ≡ support (m ∷ members) (but (suc i) y)
unfolding support_of
support_past m members i y rest p e =
    e
    ∙ sym (cond-false (lt_q zero_ℚ (y 0)) (record { source = Of m; weight = y 0 } ∷ support members (but i (λ k. y (suc k)))) (support members (but i (λ k. y (suc k)))) p)
    ∙ support_later m members i y

-- a support without one share is that of the values with that one put to 0
record Without (members : List Member) (y : ℕ → ℚ) (rest : List Share) : Type 0 where
  index : ℕ
  below : index < length members
  positive : zero_ℚ <ℚ y index
  rest_is : rest ≡ support members (but index y)

zero_not_positive : lt_q zero_ℚ zero_ℚ ≡ false
zero_not_positive = elim (cases_Bool (lt_q zero_ℚ zero_ℚ)) [ inl h ↦ lt_irrefl_ℚ (lt_q-true zero_ℚ zero_ℚ h) | inr h ↦ h ]

apart_support : (members : List Member) (y : ℕ → ℚ) (front : List Share) (s : Share) (back : List Share) → support members y ≡ front ++ s ∷ back → Without members y (front ++ back)
unfolding support_of
apart_support [] y front s back e = absurd (nil_apart front s back e)
apart_support (m ∷ members) y front s back e = go (apart_support members (λ k. y (suc k))) (lt_q zero_ℚ (y 0)) refl front e
  where
    head : Share
    head = record { source = Of m; weight = y 0 }

    below_suc : (i : ℕ) → i < length members → suc i < suc (length members)
    below_suc i l = omega arith

    go : ((front : List Share) (s : Share) (back : List Share) → support members (λ k. y (suc k)) ≡ front ++ s ∷ back → Without members (λ k. y (suc k)) (front ++ back))
        → (t : Bool) → lt_q zero_ℚ (y 0) ≡ t → (front : List Share) → cond t (head ∷ support members (λ k. y (suc k))) (support members (λ k. y (suc k))) ≡ front ++ s ∷ back → Without (m ∷ members) y (front ++ back)
    go rest true p [] e = record {
      index = 0;
      below = omega arith;
      positive = lt_q-true zero_ℚ (y 0) p;
      rest_is =
          (let tail : support members (λ k. y (suc k)) ≡ back = cc in
          sym tail
          ∙ sym (ap (λ t. cond t (record { source = Of m; weight = zero_ℚ } ∷ support members (λ k. y (suc k))) (support members (λ k. y (suc k)))) zero_not_positive)
          ∙ support_first m members y);
    }
    go rest true p (w ∷ front) e =
        let first : head ≡ w = cc in
        let tail : support members (λ k. y (suc k)) ≡ front ++ s ∷ back = cc in
        let r : Without members (λ k. y (suc k)) (front ++ back) = rest front s back tail in
        record {
          index = suc r.index;
          below = below_suc r.index r.below;
          positive = r.positive;
          rest_is = ap (λ z. z ∷ (front ++ back)) (sym first) ∙ support_with m members r.index y (front ++ back) p r.rest_is;
        }
    go rest false p front e =
        let r : Without members (λ k. y (suc k)) (front ++ back) = rest front s back e in
        record {
          index = suc r.index;
          below = below_suc r.index r.below;
          positive = r.positive;
          rest_is = support_past m members r.index y (front ++ back) p r.rest_is;
        }

-- ---- members of shares
from_more : (q s : Source) (members : List Member) → IsFrom members s → IsFrom (with_source q members) s
from_more (Of n) (Of m) members c = Contains-cons n members m c
from_more (Of n) (Below j) members c = tt
from_more (Of n) (Above j) members c = tt
from_more (Below j) s members c = c
from_more (Above j) s members c = c

from_self : (s : Source) (members : List Member) → IsFrom (with_source s members) s
from_self (Of m) members = in_middle [] m members
from_self (Below j) members = tt
from_self (Above j) members = tt

all_from : (shares : List Share) → All (λ s. IsFrom (members_of shares) s.source) shares
all_from [] = All-nil (λ (s : Share). IsFrom [] s.source)
all_from (s ∷ shares) =
    All-cons (λ t. IsFrom (with_source s.source (members_of shares)) t.source) s shares (from_self s.source (members_of shares))
    (All-weaker (λ t. IsFrom (members_of shares) t.source) (λ t. IsFrom (with_source s.source (members_of shares)) t.source) (λ t c. from_more s.source t.source (members_of shares) c) shares (all_from shares))

-- ---- signs
signed_times : (side : Side) (q f : ℚ) → signed side q *ℚ f ≡ signed side f *ℚ q
signed_times Lo q f = ring_ℚ (q ∷ f ∷ []) (minus x0 :* x1) (minus x1 :* x0) tt
signed_times Up q f = ring_ℚ (q ∷ f ∷ []) (x0 :* x1) (x1 :* x0) tt

unsigned : (side : Side) (a b : ℚ) → signed side a ≡ signed side b → a ≡ b
unsigned Lo a b e = ring_by_ℚ (a ∷ b ∷ []) x0 x1 (minus unit_of) (minus x0) (minus x1) e tt
unsigned Up a b e = e

pub met_number : (o : Option ℚ) (v : ℚ) → IsSome o → v ≡ number_or_zero o → o ≡ Some v
met_number None v h e = absurd (true≢false (sym h))
met_number (Some b) v h e = ap Some (sym e)

-- ---- a list of the first values
unfoldable pub tabulate : ℕ → (ℕ → ℚ) → List ℚ
tabulate zero f = []
tabulate (suc c) f = f 0 ∷ tabulate c (λ j. f (suc j))

pub tabulated : (c : ℕ) (f : ℕ → ℚ) (j : ℕ) → j < c → values_at (tabulate c f) j ≡ f j
unfolding tabulate
tabulated zero f j l = absurd (omega arith)
tabulated (suc c) f zero l = refl
tabulated (suc c) f (suc j) l = tabulated c (λ j. f (suc j)) j (omega arith)

-- ---- a form does not name what is basic
unnamed : (basis : List Place) (ts : List Term) (k : ℕ) → All (λ t. is_basic basis t.column ≡ false) ts → is_basic basis k ≡ true → factor_of ts k ≡ zero_ℚ
unnamed basis [] k h b = refl
unnamed basis (t ∷ ts) k h b =
    let differs : t.column ≢ k = λ e. true≢false (sym b ∙ ap (is_basic basis) (sym e) ∙ All-head (λ t. is_basic basis t.column ≡ false) t ts h) in
    ap (λ z. z +ℚ factor_of ts k) (cond-false (t.column == k) t.factor zero_ℚ (ne_eqb t.column k differs))
    ∙ ap (λ z. zero_ℚ +ℚ z) (unnamed basis ts k (All-tail (λ t. is_basic basis t.column ≡ false) t ts h) b)
    ∙ ring_ℚ [] (zero_of :+ zero_of) zero_of tt

-- the signed value of a member, by columns
pub member_value : (model : Program) (m : Member) (z : Assignment) → All (λ t. t.column < length model.columns) (form model m)
    → signed (side m) (value model m z) ≡ sum_below (length model.columns) (λ j. member_factor model j m *ℚ z j)
member_value model m z h =
    let c : ℕ = length model.columns in
    let f : ℕ → ℚ = factor_of (form model m) in
    ap (signed (side m)) (value_law model m z ∙ by_known c (form model m) z h)
    ∙ signed_as (side m) (sum_below c (λ j. f j *ℚ z j))
    ∙ sym (sum_below-scale c (signed (side m) one_ℚ) (λ j. f j *ℚ z j))
    ∙ sum_below-ext c (λ j. signed (side m) one_ℚ *ℚ (f j *ℚ z j)) (λ j. member_factor model j m *ℚ z j)
    (λ j l.
    ring_ℚ (signed (side m) one_ℚ ∷ f j ∷ z j ∷ []) (x0 :* (x1 :* x2)) ((x0 :* x1) :* x2) tt
    ∙ ap (λ q. q *ℚ z j) (sym (signed_as (side m) (f j))))

-- the members of the alternative system are of the set, ask for a number, and have a form of known columns
module _ (model : Program) (set : List Member) (k : ℕ) (l : k < length (bounding model set)) where
  bounding_in : Contains set (get_or (bounding model set) k no_member)
  bounding_in = All-get_or (Contains set) (bounding model set) k no_member l (All-filter (λ m. is_some (number model m)) (Contains set) set (All-contains_itself set))

  bounding_there : IsSome (number model (get_or (bounding model set) k no_member))
  bounding_there = All-get_or (λ m. IsSome (number model m)) (bounding model set) k no_member l (filter_passes (λ m. is_some (number model m)) set)

  pub bounding_known : IsWellFormed model → All (λ t. t.column < length model.columns) (form model (get_or (bounding model set) k no_member))
  bounding_known formed = source_known model [] formed (All-nil (λ (b : Branch). b.column < length model.columns)) (Of (get_or (bounding model set) k no_member)) bounding_there

-- ---- what the table says
module _ (model : Program) (set : List Member) (basis : List Place) (table : ℕ → List Term) (y : Assignment) (formed : IsWellFormed model) (last : IsLastTable model set basis table y) where
  known_in : (i : ℕ) → is_basic basis i ≡ true → All (λ t. t.column < length (bounding model set) + suc (suc (length model.columns))) (table i)
  known_in i b =
      subst (λ r. All (λ t. t.column < length (bounding model set) + suc r) (table i)) (system_rows model set)
      (subst (λ a. All (λ t. t.column < a + suc (length (alternative_system model set).rows)) (table i)) (system_columns model set) (last.table_is.known i b))

  pub names_nothing : (i k : ℕ) → is_basic basis i ≡ true → is_basic basis k ≡ true → factor_of (table i) k ≡ zero_ℚ
  names_nothing i k b c = unnamed basis (table i) k (last.table_is.nonbasic i b) c

  pub nothing_by : (f q : ℚ) → f ≡ zero_ℚ → f *ℚ q ≡ zero_ℚ
  nothing_by f q e = ap (λ z. z *ℚ q) e ∙ ring_ℚ (q ∷ []) (zero_of :* x0) zero_of tt

  pub nothing_of : (f q : ℚ) → q ≡ zero_ℚ → f *ℚ q ≡ zero_ℚ
  nothing_of f q e = ap (λ z. f *ℚ z) e ∙ ring_ℚ (f ∷ []) (x0 :* zero_of) zero_of tt

  pub decomposed : (i : ℕ) → is_basic basis i ≡ true → (x : Assignment)
      → form_value (table i) x
      ≡ sum_below (length (bounding model set)) (λ v. factor_of (table i) v *ℚ x v)
      +ℚ (sum_below (length model.columns) (λ j. factor_of (table i) (length (bounding model set) + j) *ℚ x (length (bounding model set) + j))
      +ℚ factor_of (table i) (length (bounding model set) + length model.columns) *ℚ x (length (bounding model set) + length model.columns))
  decomposed i b x =
      let n : ℕ = length (bounding model set) in
      let c : ℕ = length model.columns in
      let g : ℕ → ℚ = λ v. factor_of (table i) v *ℚ x v in
      by_known (n + suc (suc c)) (table i) x (known_in i b)
      ∙ sum_below-split n (suc (suc c)) g
      ∙ ap (λ z. sum_below n g +ℚ ((sum_below c (λ j. g (n + j)) +ℚ g (n + c)) +ℚ z)) (nothing_by (factor_of (table i) (n + suc c)) (x (n + suc c)) (names_nothing i (n + suc c) b last.objective_basic))
      ∙ ring_ℚ (sum_below n g ∷ sum_below c (λ j. g (n + j)) ∷ g (n + c) ∷ []) (x0 :+ ((x1 :+ x2) :+ zero_of)) (x0 :+ (x1 :+ x2)) tt

  -- the identity of a basic member, at each basic member alone
  alone_at : (i k : ℕ) → i < length (bounding model set) → k < length (bounding model set) → is_basic basis i ≡ true → is_basic basis k ≡ true
      → unit k i
      ≡ sum_below (length model.columns) (λ j. factor_of (table i) (length (bounding model set) + j) *ℚ member_factor model j (get_or (bounding model set) k no_member))
      +ℚ factor_of (table i) (length (bounding model set) + length model.columns) *ℚ member_number model (get_or (bounding model set) k no_member)
  alone_at i k l m b d =
      let members : List Member = bounding model set in
      let n : ℕ = length members in
      let c : ℕ = length model.columns in
      let x : Assignment = extended model members c (unit k) in
      let here : Member = get_or members k no_member in
      let f : ℕ → ℚ = factor_of (table i) in
      sym (extended_member model members c (unit k) i l)
      ∙ last.table_is.equals x (extended_keeps model set (unit k)) i b
      ∙ decomposed i b x
      ∙ ap (λ z. z +ℚ (sum_below c (λ j. f (n + j) *ℚ x (n + j)) +ℚ f (n + c) *ℚ x (n + c)))
      (sum_below-ext n (λ v. f v *ℚ x v) (λ v. zero_ℚ)
      (λ v h.
      elim (cases_eq k v) [
        | inl e ↦ nothing_by (f v) (x v) (names_nothing i v b (subst (λ w. is_basic basis w ≡ true) e d))
        | inr e ↦ nothing_of (f v) (x v) (extended_member model members c (unit k) v h ∙ unit-other k v e)
      ])
      ∙ sum_below-zero n)
      ∙ ap (λ z. zero_ℚ +ℚ (z +ℚ f (n + c) *ℚ x (n + c)))
      (sum_below-ext c (λ j. f (n + j) *ℚ x (n + j)) (λ j. f (n + j) *ℚ member_factor model j here)
      (λ j h. ap (λ z. f (n + j) *ℚ z) (extended_row model members c (unit k) j h ∙ sum_with-unit (member_factor model j) members k no_member m)))
      ∙ ap (λ z. zero_ℚ +ℚ (sum_below c (λ j. f (n + j) *ℚ member_factor model j here) +ℚ f (n + c) *ℚ z)) (extended_last model members c (unit k) ∙ sum_with-unit (member_number model) members k no_member m)
      ∙ ring_ℚ (sum_below c (λ j. f (n + j) *ℚ member_factor model j here) ∷ (f (n + c) *ℚ member_number model here) ∷ []) (zero_of :+ (x0 :+ x1)) (x0 :+ x1) tt

  -- the value of a basic member is minus its factor of the last row
  pub value_is : (i : ℕ) → is_basic basis i ≡ true → y i ≡ neg_ℚ (factor_of (table i) (length (bounding model set) + length model.columns))
  value_is i b =
      let n : ℕ = length (bounding model set) in
      let c : ℕ = length model.columns in
      let f : ℕ → ℚ = factor_of (table i) in
      last.table_is.equals y last.keeps i b
      ∙ decomposed i b y
      ∙ ap (λ z. z +ℚ (sum_below c (λ j. f (n + j) *ℚ y (n + j)) +ℚ f (n + c) *ℚ y (n + c)))
      (sum_below-ext n (λ v. f v *ℚ y v) (λ v. zero_ℚ)
      (λ v h.
      elim (cases_Bool (is_basic basis v)) [
        | inl e ↦ nothing_by (f v) (y v) (names_nothing i v b e)
        | inr e ↦ nothing_of (f v) (y v) (last.at_zero v h e)
      ])
      ∙ sum_below-zero n)
      ∙ ap (λ z. zero_ℚ +ℚ (z +ℚ f (n + c) *ℚ y (n + c)))
      (sum_below-ext c (λ j. f (n + j) *ℚ y (n + j)) (λ j. zero_ℚ) (λ j h. nothing_of (f (n + j)) (y (n + j)) (last.columns_at j h)) ∙ sum_below-zero c)
      ∙ ap (λ z. zero_ℚ +ℚ (zero_ℚ +ℚ f (n + c) *ℚ z)) last.last_at
      ∙ ring_ℚ (f (n + c) ∷ []) (zero_of :+ (zero_of :+ x0 :* minus unit_of)) (minus x0) tt

  -- the values that a basic side gives
  given : ℕ → List ℚ
  given i = tabulate (length model.columns) (λ j. factor_of (table i) (length (bounding model set) + j) *ℚ inv_ℚ (y i))

  -- on the columns
  IsGiven : ℕ → Assignment → Type 0
  IsGiven i x = (j : ℕ) → j < length model.columns → x j ≡ row_point model set table y i j

  -- they meet every other basic member exactly
  other_met : (i k : ℕ) → i < length (bounding model set) → k < length (bounding model set) → is_basic basis i ≡ true → is_basic basis k ≡ true → zero_ℚ <ℚ y i → k ≢ i
      → (x : Assignment) → IsGiven i x → number model (get_or (bounding model set) k no_member) ≡ Some (value model (get_or (bounding model set) k no_member) x)
  unfolding IsGiven
  other_met i k l m b d p differ x at =
      let n : ℕ = length (bounding model set) in
      let c : ℕ = length model.columns in
      let here : Member = get_or (bounding model set) k no_member in
      let f : ℕ → ℚ = factor_of (table i) in
      let r : ℚ = inv_ℚ (y i) in
      let total : ℚ = sum_below c (λ j. f (n + j) *ℚ member_factor model j here) in
      let some : y i ≢ zero_ℚ = λ e. lt_irrefl_ℚ {a = zero_ℚ} (subst (λ z. zero_ℚ <ℚ z) e p) in
      let balance : zero_ℚ ≡ total +ℚ f (n + c) *ℚ member_number model here = sym (unit-other k i differ) ∙ alone_at i k l m b d in
      let total_is : total ≡ y i *ℚ member_number model here =
      ring_by2_ℚ (total ∷ y i ∷ member_number model here ∷ f (n + c) ∷ []) x0 (x1 :* x2) (minus unit_of) zero_of (x0 :+ x3 :* x2) (minus x2) x1 (minus x3) balance (value_is i b) tt in
      met_number (number model here) (value model here x) (bounding_there model set k m)
      (unsigned (side here) (value model here x) (number_or_zero (number model here))
      (member_value model here x (bounding_known model set k m formed)
      ∙ sum_below-ext c (λ j. member_factor model j here *ℚ x j) (λ j. r *ℚ (f (n + j) *ℚ member_factor model j here))
      (λ j h.
      ap (λ q. member_factor model j here *ℚ q) (at j h)
      ∙ ring_ℚ (member_factor model j here ∷ f (n + j) ∷ r ∷ []) (x0 :* (x1 :* x2)) (x2 :* (x1 :* x0)) tt)
      ∙ sum_below-scale c r (λ j. f (n + j) *ℚ member_factor model j here)
      ∙ ap (λ q. r *ℚ q) total_is
      ∙ ring_by_ℚ (r ∷ y i ∷ member_number model here ∷ []) (x0 :* (x1 :* x2)) x2 x2 (x1 :* x0) unit_of (mul-inv_ℚ (y i) some) tt))

  basic_of_positive : (k : ℕ) → k < length (bounding model set) → zero_ℚ <ℚ y k → is_basic basis k ≡ true
  basic_of_positive k l p =
      elim (cases_Bool (is_basic basis k)) [
        | inl h ↦ h
        | inr h ↦ lt_irrefl_ℚ {a = zero_ℚ} (subst (λ z. zero_ℚ <ℚ z) (last.at_zero k l h) p)
      ]

  -- ---- the weighting
  support_positive : All (λ s. zero_ℚ <ℚ s.weight) (support (bounding model set) y)
  unfolding share_of
  support_positive = support_all (λ s. zero_ℚ <ℚ s.weight) (bounding model set) y (λ k l p. p)

  there_of : (own : List Member) → All (λ s. IsFrom own s.source) (support (bounding model set) y) → All (IsThere model own []) (support (bounding model set) y)
  unfolding share_of
  there_of own from = λ k d l. record { from = from k d l; number = numbers k d l }
    where
      numbers : All (λ s. IsSome (source_number model [] s.source)) (support (bounding model set) y)
      numbers = support_all (λ s. IsSome (source_number model [] s.source)) (bounding model set) y (λ k l p. bounding_there model set k l)

  pub there_in : All (IsThere model set []) (support (bounding model set) y)
  unfolding share_of
  there_in = there_of set (support_all (λ s. IsFrom set s.source) (bounding model set) y (λ k l p. bounding_in model set k l))

  no_path : All (λ (b : Branch). b.column < length model.columns) []
  no_path = All-nil (λ (b : Branch). b.column < length model.columns)

  column_is : (j : ℕ) → j < length model.columns → column_sum model (support (bounding model set) y) j ≡ zero_ℚ
  unfolding share_of
  column_is j l =
      let members : List Member = bounding model set in
      let rows : List SystemRow = (alternative_system model set).rows in
      let in_rows : j < length rows = (let e : length rows ≡ suc (length model.columns) = system_rows model set in omega arith) in
      let kept : y (length (alternative_system model set).columns + j) ≡ form_value (get_or rows j empty_system_row).terms y = last.keeps.rows j in_rows in
      support_sum (λ s. multiple s *ℚ factor_of (source_form model s.source) j) (member_factor model j) (λ m q. signed_times (side m) q (factor_of (form model m) j)) members y last.nonnegative
      ∙ sym (terms_from_zero (member_factor model j) members y)
      ∙ ap (λ r. form_value r.terms y) (sym (row_is model set j l))
      ∙ sym kept
      ∙ ap (λ n. y (n + j)) (system_columns model set)
      ∙ last.columns_at j l

  right_is : right_side model [] (support (bounding model set) y) ≡ neg_ℚ one_ℚ
  unfolding share_of
  right_is =
      let members : List Member = bounding model set in
      let rows : List SystemRow = (alternative_system model set).rows in
      let c : ℕ = length model.columns in
      let in_rows : c < length rows = (let e : length rows ≡ suc (length model.columns) = system_rows model set in omega arith) in
      let kept : y (length (alternative_system model set).columns + c) ≡ form_value (get_or rows c empty_system_row).terms y = last.keeps.rows c in_rows in
      support_sum (λ s. multiple s *ℚ number_or_zero (source_number model [] s.source)) (member_number model) (λ m q. signed_times (side m) q (number_or_zero (number model m))) members y last.nonnegative
      ∙ sym (terms_from_zero (member_number model) members y)
      ∙ ap (λ r. form_value r.terms y) (sym (number_row_is model set))
      ∙ sym kept
      ∙ ap (λ n. y (n + c)) (system_columns model set)
      ∙ last.last_at

  pub weighting_of : (own : List Member) → All (IsThere model own []) (support (bounding model set) y) → IsWeighting model own (support (bounding model set) y)
  weighting_of own there = record {
    nonnegative = All-weaker (λ (s : Share). zero_ℚ <ℚ s.weight) (λ s. zero_ℚ ≤ℚ s.weight) (λ s p. le_of_lt_ℚ p) (support (bounding model set) y) support_positive;
    there = there;
    cancels = λ j.
        elim (cases_lt j (length model.columns)) [
          | inl l ↦ column_is j l
          | inr l ↦ further_columns_law model own [] (support (bounding model set) y) formed no_path there j l
        ];
    contradicts = right_is;
  }

  -- values that are given meet the shares of the other members
  others_met : (i : ℕ) → i < length (bounding model set) → zero_ℚ <ℚ y i → (x : Assignment) → IsGiven i x
      → All (λ s. source_number model [] s.source ≡ Some (source_value model x s.source)) (support (bounding model set) (but i y))
  unfolding share_of
  others_met i l p x at =
      support_all (λ s. source_number model [] s.source ≡ Some (source_value model x s.source)) (bounding model set) (but i y)
      (λ k m q.
      elim (cases_eq i k) [
        | inl same ↦ lt_irrefl_ℚ {a = zero_ℚ} (subst (λ z. zero_ℚ <ℚ z) (but-same i y) (subst (λ e. zero_ℚ <ℚ but i y e) (sym same) q))
        | inr differ ↦
            other_met i k l m (basic_of_positive i l p) (basic_of_positive k m (subst (λ z. zero_ℚ <ℚ z) (but-other i y k differ) q)) p (λ same. differ (sym same)) x at
      ])

  witness : (front : List Share) (s : Share) (back : List Share) → support (bounding model set) y ≡ front ++ s ∷ back → IsMet model (front ++ back)
  unfolding given IsGiven
  witness front s back e =
      let w : Without (bounding model set) y (front ++ back) = apart_support (bounding model set) y front s back e in
      record {
        values = given w.index;
        meets =
            subst (All (λ s. source_number model [] s.source ≡ Some (source_value model (values_at (given w.index)) s.source))) (sym w.rest_is)
            (others_met w.index w.below w.positive (values_at (given w.index)) (λ j l. tabulated (length model.columns) (row_point model set table y w.index) j l));
      }

  irreducible : IsIrreducible model (members_of (support (bounding model set) y))
  irreducible =
      let own : List Member = members_of (support (bounding model set) y) in
      support_law model (support (bounding model set) y) support_positive (weighting_of own (there_of own (all_from (support (bounding model set) y)))) witness

  pub vertex : IsVertex model set table y
  unfolding IsGiven
  vertex = record {
    weighting = weighting_of set there_in;
    irreducible = irreducible;
    others = λ i l p.
        (let x : Assignment = row_point model set table y i in
        all_met model x (support (bounding model set) (but i y)) (others_met i l p x (λ j h. refl)));
  }

pub last_table_law : LastTableLaw
last_table_law model set basis table y formed last = vertex model set basis table y formed last
