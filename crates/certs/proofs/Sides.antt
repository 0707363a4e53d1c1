-- What a list of shares says at an assignment: its left side by columns, and each share's own inequality.
use Rattle.std.proofs.Common.{◌≡◌, refl, sym, subst, ℕ, Bool, true, false, true≢false, cond, ◌&&◌, not, ◌==◌, List, [], ◌∷◌, Option, None, Some, IsSome, option_map}
use Rattle.std.specs.Prelude.{All, int_lt}
use Rattle.std.proofs.lemmas.Bool.{and_parts}
use Rattle.std.proofs.lemmas.List.Elements.{All-head, All-tail, All-contains}
use lib.Dec.{T, eqb→eq}
use lib.IntN.{ℤ}
use Rattle.algebra.proofs.Ring.{x0, x1, x2, ◌:-◌, ◌:*◌, minus}
use Rattle.rational.specs.Rational.{ℚ, whole, ◌*ℚ◌, zero_ℚ, ◌≤ℚ◌}
use Rattle.rational.specs.Sum.{sum_over}
use Rattle.rational.specs.Linear.{Term, Assignment, form_value, factor_of}
use Rattle.rational.proofs.Sums.{alone}
use Rattle.rational.proofs.Order.{le_by, le_refl_ℚ, add-le_ℚ, nonneg-mul, nonneg_of_le, nonneg_is}
use Rattle.rational.proofs.Forms.{exchange}
use Rattle.lp_model.specs.declared.members.Member.{Member}
use Rattle.lp_model.specs.declared.members.Member.TheVariants.{RowLo, RowUp, Lower, Upper, Whole}
use Rattle.lp_model.specs.declared.members.Side.{Side}
use Rattle.lp_model.specs.declared.members.Side.TheVariants.{Lo, Up}
use Rattle.lp_model.specs.Program.{Program}
use Rattle.lp_model.specs.Members.{value, number, side}
use Rattle.lp_model.specs.Satisfaction.{IsAtLeast, IsAtMost, Holds, Satisfies}
use Rattle.lp_model.proofs.Points.{value_law}
use Rattle.certs.specs.declared.evidence.Branch.{Branch}
use Rattle.certs.specs.declared.evidence.Source.{Source}
use Rattle.certs.specs.declared.evidence.Source.TheVariants.{Member as Of, Below, Above}
use Rattle.certs.specs.declared.evidence.Share.{Share}
use Rattle.certs.specs.Combination.{KeepsBranch, KeepsPath, lesser, greater, least_upper, greatest_lower, source_form, source_side, source_value, source_number, number_or_zero, signed, multiple, IsFrom, IsThere, column_sum, right_side}

-- sums keep an inequality of their parts
pub sum_over-le : {A : Type 0} (P : A → Type 0) (f g : A → ℚ) → ((a : A) → P a → f a ≤ℚ g a) → (xs : List A) → All P xs → sum_over f xs ≤ℚ sum_over g xs
sum_over-le P f g h [] a = le_refl_ℚ zero_ℚ
sum_over-le P f g h (x ∷ xs) a = add-le_ℚ (h x (All-head P x xs a)) (sum_over-le P f g h xs (All-tail P x xs a))

pub all_both : {A : Type 0} (P Q : A → Type 0) (xs : List A) → All P xs → All Q xs → All (λ a. P a × Q a) xs
all_both P Q xs p q k d l = (p k d l, q k d l)

-- ---- a source's value
pub source_value-is : (model : Program) (x : Assignment) (s : Source) → source_value model x s ≡ form_value (source_form model s) x
source_value-is model x (Of m) = value_law model m x
source_value-is model x (Below j) = alone (x j)
source_value-is model x (Above j) = alone (x j)

unfoldable pub left_side : Program → List Share → Assignment → ℚ
left_side model shares x = sum_over (λ s. multiple s *ℚ form_value (source_form model s.source) x) shares

-- where the columns add up to a form, the left side is the form's value
pub left_side-is : (model : Program) (shares : List Share) (g : List Term) → ((j : ℕ) → column_sum model shares j ≡ factor_of g j) → (x : Assignment) → left_side model shares x ≡ form_value g x
unfolding left_side
left_side-is model shares g h x = exchange multiple (λ s. source_form model s.source) shares g h x

-- ---- what a source keeps
branch_up : (x : Assignment) (c j : ℕ) (u : Bool) (k : ℚ) → ((c == j) && u) ≡ true → cond u (x c ≤ℚ k) (k ≤ℚ x c) → x j ≤ℚ k
branch_up x c j true k e h = subst (λ i. x i ≤ℚ k) (eqb→eq c j (subst T (sym (and_parts (c == j) true e).0) tt)) h
branch_up x c j false k e h = absurd (true≢false (sym (and_parts (c == j) false e).1))

branch_down : (x : Assignment) (c j : ℕ) (u : Bool) (k : ℚ) → ((c == j) && not u) ≡ true → cond u (x c ≤ℚ k) (k ≤ℚ x c) → k ≤ℚ x j
branch_down x c j true k e h = absurd (true≢false (sym (and_parts (c == j) false e).1))
branch_down x c j false k e h = subst (λ i. k ≤ℚ x i) (eqb→eq c j (subst T (sym (and_parts (c == j) true e).0) tt)) h

under_lesser : (v : ℚ) (a : ℤ) (o : Option ℤ) → v ≤ℚ whole a → IsAtMost (option_map whole o) v → v ≤ℚ whole (lesser a o)
under_lesser v a None h k = h
under_lesser v a (Some b) h k = go (int_lt b a)
  where
    go : (t : Bool) → v ≤ℚ whole (cond t b a)
    go true = k
    go false = h

over_greater : (v : ℚ) (a : ℤ) (o : Option ℤ) → whole a ≤ℚ v → IsAtLeast (option_map whole o) v → whole (greater a o) ≤ℚ v
over_greater v a None h k = h
over_greater v a (Some b) h k = go (int_lt a b)
  where
    go : (t : Bool) → whole (cond t b a) ≤ℚ v
    go true = k
    go false = h

pub upper_kept : (x : Assignment) (path : List Branch) (j : ℕ) → KeepsPath x path → IsAtMost (option_map whole (least_upper path j)) (x j)
upper_kept x [] j h = tt
upper_kept x (b ∷ path) j h = go (upper_kept x path j (All-tail (KeepsBranch x) b path h)) ((b.column == j) && b.upper) refl
  where
    go : IsAtMost (option_map whole (least_upper path j)) (x j) → (t : Bool) → ((b.column == j) && b.upper) ≡ t → IsAtMost (option_map whole (cond t (Some (lesser b.at (least_upper path j))) (least_upper path j))) (x j)
    go rest true e = under_lesser (x j) b.at (least_upper path j) (branch_up x b.column j b.upper (whole b.at) e (All-head (KeepsBranch x) b path h)) rest
    go rest false e = rest

pub lower_kept : (x : Assignment) (path : List Branch) (j : ℕ) → KeepsPath x path → IsAtLeast (option_map whole (greatest_lower path j)) (x j)
lower_kept x [] j h = tt
lower_kept x (b ∷ path) j h = go (lower_kept x path j (All-tail (KeepsBranch x) b path h)) ((b.column == j) && not b.upper) refl
  where
    go : IsAtLeast (option_map whole (greatest_lower path j)) (x j) → (t : Bool) → ((b.column == j) && not b.upper) ≡ t → IsAtLeast (option_map whole (cond t (Some (greater b.at (greatest_lower path j))) (greatest_lower path j))) (x j)
    go rest true e = over_greater (x j) b.at (greatest_lower path j) (branch_down x b.column j b.upper (whole b.at) e (All-head (KeepsBranch x) b path h)) rest
    go rest false e = rest

-- a value keeps the number on a side
unfoldable pub KeepsSide : Side → Option ℚ → ℚ → Type 0
KeepsSide Lo o v = IsAtLeast o v
KeepsSide Up o v = IsAtMost o v

pub member_keeps : (model : Program) (x : Assignment) (m : Member) → Holds model x m → KeepsSide (side m) (number model m) (value model m x)
unfolding KeepsSide
member_keeps model x (RowLo i) h = h
member_keeps model x (RowUp i) h = h
member_keeps model x (Lower j) h = h
member_keeps model x (Upper j) h = h
member_keeps model x (Whole j) h = tt

pub source_keeps : (model : Program) (set : List Member) (path : List Branch) (x : Assignment) → Satisfies model set x → KeepsPath x path
    → (s : Source) → IsFrom set s → KeepsSide (source_side s) (source_number model path s) (source_value model x s)
unfolding KeepsSide
source_keeps model set path x h k (Of m) c = member_keeps model x m (All-contains (Holds model x) set m h c)
source_keeps model set path x h k (Below j) c = upper_kept x path j k
source_keeps model set path x h k (Above j) c = lower_kept x path j k

-- ---- a share's inequality
pub side_le : (side : Side) (o : Option ℚ) (w v : ℚ) → zero_ℚ ≤ℚ w → IsSome o → KeepsSide side o v → signed side w *ℚ v ≤ℚ signed side w *ℚ number_or_zero o
unfolding KeepsSide
side_le side None w v h t k = absurd (true≢false (sym t))
side_le Lo (Some b) w v h t k = le_by (b ∷ w ∷ v ∷ []) (minus x1 :* x2) (minus x1 :* x0) (x1 :* (x2 :- x0)) (nonneg-mul (nonneg_is.0 h) (nonneg_of_le k)) tt
side_le Up (Some b) w v h t k = le_by (b ∷ w ∷ v ∷ []) (x1 :* x2) (x1 :* x0) (x1 :* (x0 :- x2)) (nonneg-mul (nonneg_is.0 h) (nonneg_of_le k)) tt

-- where the set and the path are kept, the left side is at most the right
pub left-le-right : (model : Program) (set : List Member) (path : List Branch) (shares : List Share) (x : Assignment) → Satisfies model set x → KeepsPath x path
    → All (λ s. zero_ℚ ≤ℚ s.weight) shares → All (IsThere model set path) shares → left_side model shares x ≤ℚ right_side model path shares
unfolding left_side
left-le-right model set path shares x h k w t =
    sum_over-le (λ s. (zero_ℚ ≤ℚ s.weight) × IsThere model set path s) (λ s. multiple s *ℚ form_value (source_form model s.source) x)
    (λ s. multiple s *ℚ number_or_zero (source_number model path s.source))
    (λ s a. subst (λ v. multiple s *ℚ v ≤ℚ multiple s *ℚ number_or_zero (source_number model path s.source)) (source_value-is model x s.source)
    (side_le (source_side s.source) (source_number model path s.source) s.weight (source_value model x s.source) a.0 a.1.number (source_keeps model set path x h k s.source a.1.from)))
    shares (all_both (λ s. zero_ℚ ≤ℚ s.weight) (IsThere model set path) shares w t)
