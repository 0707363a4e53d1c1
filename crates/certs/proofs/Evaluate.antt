-- Tests that compute: where one answers true, the fact holds.
use Rattle.std.proofs.Common.{◌≡◌, ◌<◌, subst, ℕ, zero, suc, Bool, true, cond, ◌&&◌, ◌==◌, ltb, List, [], ◌∷◌, Option, None, Some, is_some, arith, eqb-true, ltb-true, inl, inr}
use Rattle.std.specs.Prelude.{All}
use Rattle.std.proofs.lemmas.Bool.{and_parts, cases_lt}
use Rattle.std.proofs.lemmas.List.Elements.{All-nil, All-cons}
use Rattle.rational.specs.Rational.{ℚ, zero_ℚ, neg_ℚ, lt_q, ◌<ℚ◌, eq_ℚ}
use Rattle.rational.specs.Linear.{Assignment}
use Rattle.rational.proofs.Order.{le_q-true, lt_q-true}
use Rattle.rational.proofs.Compare.{eq-Decides}
use Rattle.lp_model.specs.declared.members.Member.{Member}
use Rattle.lp_model.specs.declared.members.Member.TheVariants.{RowLo, RowUp, Lower, Upper, Whole}
use Rattle.lp_model.specs.declared.parts.Weight.{Weight}
use Rattle.lp_model.specs.declared.parts.Weight.TheVariants.{Soft, Rigid}
use Rattle.lp_model.specs.Program.{Program}
use Rattle.lp_model.specs.Members.{value, number, weight}
use Rattle.lp_model.specs.Satisfaction.{Point, coordinate, IsAtLeast, IsAtMost, Holds, IsSatisfiable}
use Rattle.certs.specs.declared.evidence.Branch.{Branch}
use Rattle.certs.specs.declared.evidence.Source.{Source}
use Rattle.certs.specs.declared.evidence.Source.TheVariants.{Member as Of, Below, Above}
use Rattle.certs.specs.declared.evidence.Share.{Share}
use Rattle.certs.specs.Combination.{source_form, source_number, IsFrom, IsThere, column_sum, right_side, IsCombination}
use Rattle.certs.specs.Violation.{weight_on, IsWithinWeight, IsLeastDual}
use Rattle.certs.specs.Checks.{every, every_below, at_least_test, at_most_test, holds_test, from_test, there_test, within_test}
use Rattle.lp_model.proofs.Sets.{contains_of_has}
use Rattle.certs.proofs.Further.{shares_past}

pub every_all : {A : Type 0} (test : A → Bool) (P : A → Type 0) → ((a : A) → test a ≡ true → P a) → (xs : List A) → every test xs ≡ true → All P xs
every_all test P h [] e = All-nil P
every_all test P h (a ∷ xs) e =
    let both : (test a ≡ true) × (every test xs ≡ true) = and_parts (test a) (every test xs) e in
    All-cons P a xs (h a both.0) (every_all test P h xs both.1)

pub every_below_all : (test : ℕ → Bool) (n j : ℕ) → every_below test n ≡ true → j < n → test j ≡ true
every_below_all test zero j e l = absurd (omega arith)
every_below_all test (suc n) j e l =
    let both : (every_below test n ≡ true) × (test n ≡ true) = and_parts (every_below test n) (test n) e in
    elim (cases_lt j n) [
      | inl h ↦ every_below_all test n j both.0 h
      | inr h ↦ (let p : n ≡ j = omega arith in subst (λ i. test i ≡ true) p both.1)
    ]

-- ---- members
at_least-true : (o : Option ℚ) (v : ℚ) → at_least_test o v ≡ true → IsAtLeast o v
at_least-true None v e = tt
at_least-true (Some b) v e = le_q-true b v e

at_most-true : (o : Option ℚ) (v : ℚ) → at_most_test o v ≡ true → IsAtMost o v
at_most-true None v e = tt
at_most-true (Some b) v e = le_q-true v b e

pub holds-true : (model : Program) (x : Assignment) (m : Member) → holds_test model x m ≡ true → Holds model x m
holds-true model x (RowLo i) e = at_least-true (number model (RowLo i)) (value model (RowLo i) x) e
holds-true model x (RowUp i) e = at_most-true (number model (RowUp i)) (value model (RowUp i) x) e
holds-true model x (Lower j) e = at_least-true (number model (Lower j)) (value model (Lower j) x) e
holds-true model x (Upper j) e = at_most-true (number model (Upper j)) (value model (Upper j) x) e
holds-true model x (Whole j) e = λ t. eqb-true (x j).den 1 (subst (λ b. cond b ((x j).den == 1) true ≡ true) t e)

pub satisfiable_by : (model : Program) (set : List Member) (p : Point) → every (holds_test model (coordinate p)) set ≡ true → IsSatisfiable model set
satisfiable_by model set p e = record { point = p; satisfies = every_all (holds_test model (coordinate p)) (Holds model (coordinate p)) (holds-true model (coordinate p)) set e }

-- ---- shares; each form's columns are below n
pub from-true : (set : List Member) (s : Source) → from_test set s ≡ true → IsFrom set s
from-true set (Of m) e = contains_of_has set m e
from-true set (Below j) e = tt
from-true set (Above j) e = tt

pub there-true : (model : Program) (set : List Member) (path : List Branch) (s : Share) → there_test model set path s ≡ true → IsThere model set path s
there-true model set path s e =
    let both : (from_test set s.source ≡ true) × (is_some (source_number model path s.source) ≡ true) = and_parts (from_test set s.source) (is_some (source_number model path s.source)) e in
    record { from = from-true set s.source both.0; number = both.1 }

abbrev pub known_test : ℕ → Program → Share → Bool
known_test n model s = every (λ t. ltb t.column n) (source_form model s.source)

known-true : (n : ℕ) (model : Program) (s : Share) → known_test n model s ≡ true → All (λ t. t.column < n) (source_form model s.source)
known-true n model s e = every_all (λ t. ltb t.column n) (λ t. t.column < n) (λ t h. ltb-true t.column n h) (source_form model s.source) e

abbrev pub cancels_test : ℕ → Program → List Share → Bool
cancels_test n model shares = every (known_test n model) shares && every_below (λ j. eq_ℚ (column_sum model shares j) zero_ℚ) n

pub cancels-true : (n : ℕ) (model : Program) (shares : List Share) → cancels_test n model shares ≡ true → (j : ℕ) → column_sum model shares j ≡ zero_ℚ
cancels-true n model shares e j =
    let both : (every (known_test n model) shares ≡ true) × (every_below (λ j. eq_ℚ (column_sum model shares j) zero_ℚ) n ≡ true) =
    and_parts (every (known_test n model) shares) (every_below (λ j. eq_ℚ (column_sum model shares j) zero_ℚ) n) e in
    elim (cases_lt j n) [
      | inl l ↦ (eq-Decides (column_sum model shares j) zero_ℚ).0 (every_below_all (λ j. eq_ℚ (column_sum model shares j) zero_ℚ) n j both.1 l)
      | inr l ↦ shares_past n model shares j (every_all (known_test n model) (λ s. All (λ t. t.column < n) (source_form model s.source)) (known-true n model) shares both.0) l
    ]

abbrev pub combination_test : ℕ → Program → List Member → List Branch → List Share → Bool
combination_test n model set path shares =
    every (λ s. lt_q zero_ℚ s.weight) shares && (every (there_test model set path) shares && (cancels_test n model shares && lt_q (right_side model path shares) zero_ℚ))

pub combination_by : (n : ℕ) (model : Program) (set : List Member) (path : List Branch) (shares : List Share) → combination_test n model set path shares ≡ true → IsCombination model set path shares
combination_by n model set path shares e =
    let a : Bool = every (λ s. lt_q zero_ℚ s.weight) shares in
    let b : Bool = every (there_test model set path) shares in
    let c : Bool = cancels_test n model shares in
    let d : Bool = lt_q (right_side model path shares) zero_ℚ in
    let p : (a ≡ true) × ((b && (c && d)) ≡ true) = and_parts a (b && (c && d)) e in
    let q : (b ≡ true) × ((c && d) ≡ true) = and_parts b (c && d) p.1 in
    let r : (c ≡ true) × (d ≡ true) = and_parts c d q.1 in
    record {
      positive = every_all (λ s. lt_q zero_ℚ s.weight) (λ s. zero_ℚ <ℚ s.weight) (λ s h. lt_q-true zero_ℚ s.weight h) shares p.0;
      there = every_all (there_test model set path) (IsThere model set path) (there-true model set path) shares q.0;
      cancels = cancels-true n model shares r.0;
      contradicts = lt_q-true (right_side model path shares) zero_ℚ r.1;
    }

-- ---- a dual of the least violation
pub within-true : (q : ℚ) (w : Weight) → within_test q w ≡ true → IsWithinWeight q w
within-true q (Soft w) e = le_q-true q w e
within-true q Rigid e = tt

abbrev pub least_test : ℕ → Program → List Member → List Share → ℚ → Bool
least_test n model set shares t =
    every (λ s. lt_q zero_ℚ s.weight) shares
    && (every (there_test model set []) shares && (cancels_test n model shares && (every (λ m. within_test (weight_on shares m) (weight model m)) set && eq_ℚ t (neg_ℚ (right_side model [] shares)))))

pub least_by : (n : ℕ) (model : Program) (set : List Member) (shares : List Share) (t : ℚ) → least_test n model set shares t ≡ true → IsLeastDual model set [] shares t
least_by n model set shares t e =
    let a : Bool = every (λ s. lt_q zero_ℚ s.weight) shares in
    let b : Bool = every (there_test model set []) shares in
    let c : Bool = cancels_test n model shares in
    let d : Bool = every (λ m. within_test (weight_on shares m) (weight model m)) set in
    let f : Bool = eq_ℚ t (neg_ℚ (right_side model [] shares)) in
    let p : (a ≡ true) × ((b && (c && (d && f))) ≡ true) = and_parts a (b && (c && (d && f))) e in
    let q : (b ≡ true) × ((c && (d && f)) ≡ true) = and_parts b (c && (d && f)) p.1 in
    let r : (c ≡ true) × ((d && f) ≡ true) = and_parts c (d && f) q.1 in
    let u : (d ≡ true) × (f ≡ true) = and_parts d f r.1 in
    record {
      positive = every_all (λ s. lt_q zero_ℚ s.weight) (λ s. zero_ℚ <ℚ s.weight) (λ s h. lt_q-true zero_ℚ s.weight h) shares p.0;
      there = every_all (there_test model set []) (IsThere model set []) (there-true model set []) shares q.0;
      cancels = cancels-true n model shares r.0;
      within = every_all (λ m. within_test (weight_on shares m) (weight model m)) (λ m. IsWithinWeight (weight_on shares m) (weight model m)) (λ m h. within-true (weight_on shares m) (weight model m) h) set u.0;
      total = (eq-Decides t (neg_ℚ (right_side model [] shares))).0 u.1;
    }
