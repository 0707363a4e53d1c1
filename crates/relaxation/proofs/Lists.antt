-- Lists of lists, members with numbers, and sums over them.
use Rattle.std.proofs.Common.{◌≡◌, ◌+◌, ◌<◌, refl, ◌∙◌, ap, subst, ℕ, zero, suc, List, [], ◌∷◌, ◌++◌, length, get_or, arith}
use Rattle.std.specs.Prelude.{All, Contains, flat_map, zip}
use Rattle.std.proofs.lemmas.List.Elements.{All-append, All-cons, All-contains_itself, All-head, All-nil, All-tail, All-weaker}
use Rattle.algebra.proofs.Ring.{x0, x1, x2, x3, ◌:+◌, ◌:-◌}
use Rattle.rational.specs.Rational.{ℚ, ◌+ℚ◌, ◌≤ℚ◌}
use Rattle.rational.specs.Sum.{sum_over}
use Rattle.rational.proofs.Order.{le_antisymm_ℚ, le_by, nonneg-add, nonneg_of_le}
use Rattle.lp_model.specs.declared.members.Member.{Member}
use Rattle.certs.specs.Ended.{numbers_from}
use Rattle.certs.proofs.Lists.{all_back, all_front}
use Rattle.certs.proofs.Sides.{sum_over-le}

-- ---- lists of lists
pub all_flat : {A B : Type 0} (P : B → Type 0) (f : A → List B) (xs : List A) → All (λ a. All P (f a)) xs → All P (flat_map f xs)
all_flat P f [] h = All-nil P
all_flat P f (a ∷ xs) h = All-append P (f a) (flat_map f xs) (All-head (λ a. All P (f a)) a xs h) (all_flat P f xs (All-tail (λ a. All P (f a)) a xs h))

pub flat_all : {A B : Type 0} (P : B → Type 0) (f : A → List B) (xs : List A) → All P (flat_map f xs) → All (λ a. All P (f a)) xs
flat_all P f [] h = All-nil (λ a. All P (f a))
flat_all P f (a ∷ xs) h = All-cons (λ a. All P (f a)) a xs (all_front P (f a) (flat_map f xs) h) (flat_all P f xs (all_back P (f a) (flat_map f xs) h))

-- what holds of each element
pub each : {A : Type 0} (P : A → Type 0) (xs : List A) → ((a : A) → Contains xs a → P a) → All P xs
each P xs h = All-weaker (Contains xs) P h xs (All-contains_itself xs)

-- what stands past the last does not matter to those before
pub one_default : {A : Type 0} (xs : List A) (i : ℕ) (c d : A) → i < length xs → get_or xs i c ≡ get_or xs i d
one_default [] i c d l = absurd (omega arith)
one_default (x ∷ xs) zero c d l = refl
one_default (x ∷ xs) (suc i) c d l = one_default xs i c d (omega arith)

-- ---- sums that are equal, of parts of which none is greater
pub sums_meet : {A : Type 0} (f g : A → ℚ) (xs : List A) → All (λ a. f a ≤ℚ g a) xs → sum_over g xs ≤ℚ sum_over f xs → All (λ a. f a ≡ g a) xs
sums_meet f g [] h k = All-nil (λ a. f a ≡ g a)
sums_meet f g (a ∷ xs) h k =
    let first : f a ≤ℚ g a = All-head (λ a. f a ≤ℚ g a) a xs h in
    let rest : All (λ a. f a ≤ℚ g a) xs = All-tail (λ a. f a ≤ℚ g a) a xs h in
    let below : sum_over f xs ≤ℚ sum_over g xs = sum_over-le (λ a. f a ≤ℚ g a) f g (λ a e. e) xs rest in
    All-cons (λ a. f a ≡ g a) a xs
    (le_antisymm_ℚ first (le_by (f a ∷ g a ∷ sum_over f xs ∷ sum_over g xs ∷ []) x1 x0 (((x0 :+ x2) :- (x1 :+ x3)) :+ (x3 :- x2)) (nonneg-add (nonneg_of_le k) (nonneg_of_le below)) tt))
    (sums_meet f g xs rest (le_by (f a ∷ g a ∷ sum_over f xs ∷ sum_over g xs ∷ []) x3 x2 (((x0 :+ x2) :- (x1 :+ x3)) :+ (x1 :- x0)) (nonneg-add (nonneg_of_le k) (nonneg_of_le first)) tt))

-- ---- members with numbers from k on
abbrev pub paired : ℕ → List Member → List (ℕ × Member)
paired k [] = []
paired k (m ∷ list) = (k, m) ∷ paired (suc k) list

numbers_first : (a n : ℕ) → numbers_from a (suc n) ≡ a ∷ numbers_from (suc a) n
numbers_first a zero = ap (λ z. z ∷ []) (let e : a + 0 ≡ a = omega arith in e)
numbers_first a (suc n) =
    ap (λ l. l ++ (a + suc n) ∷ []) (numbers_first a n)
    ∙ ap (λ z. a ∷ (numbers_from (suc a) n ++ z ∷ [])) (let e : a + suc n ≡ suc a + n = omega arith in e)

pub paired_is : (k : ℕ) (list : List Member) → zip (numbers_from k (length list)) list ≡ paired k list
paired_is k [] = refl
paired_is k (m ∷ list) = ap (λ l. zip l (m ∷ list)) (numbers_first k (length list)) ∙ ap (λ l. (k, m) ∷ l) (paired_is (suc k) list)

-- by number
pub all_paired : (P : ℕ × Member → Type 0) (k : ℕ) (list : List Member) → ((i : ℕ) (d : Member) → i < length list → P (k + i, get_or list i d)) → All P (paired k list)
all_paired P k [] h = All-nil P
all_paired P k (m ∷ list) h =
    All-cons P (k, m) (paired (suc k) list)
    (subst (λ z. P (z, m)) (let e : k + 0 ≡ k = omega arith in e) (h 0 m (let l : 0 < suc (length list) = omega arith in l)))
    (all_paired P (suc k) list
    (λ i d l. subst (λ z. P (z, get_or list i d)) (let e : k + suc i ≡ suc k + i = omega arith in e) (h (suc i) d (let g : suc i < suc (length list) = omega arith in g))))

-- and back
pub paired_at : (P : ℕ × Member → Type 0) (k : ℕ) (list : List Member) → All P (paired k list) → (i : ℕ) (d : Member) → i < length list → P (k + i, get_or list i d)
paired_at P k [] h i d l = absurd (omega arith)
paired_at P k (m ∷ list) h zero d l = subst (λ z. P (z, m)) (let e : k ≡ k + 0 = omega arith in e) (All-head P (k, m) (paired (suc k) list) h)
paired_at P k (m ∷ list) h (suc i) d l =
    subst (λ z. P (z, get_or list i d)) (let e : suc k + i ≡ k + suc i = omega arith in e) (paired_at P (suc k) list (All-tail P (k, m) (paired (suc k) list) h) i d (omega arith))

-- by member
pub paired_members : (P : Member → Type 0) (k : ℕ) (list : List Member) → All P list → All (λ e. P e.1) (paired k list)
paired_members P k [] h = All-nil (λ (e : ℕ × Member). P e.1)
paired_members P k (m ∷ list) h = All-cons (λ (e : ℕ × Member). P e.1) (k, m) (paired (suc k) list) (All-head P m list h) (paired_members P (suc k) list (All-tail P m list h))

-- sums over them are sums over the members
pub paired_sum : (f : Member → ℚ) (k : ℕ) (list : List Member) → sum_over (λ e. f e.1) (paired k list) ≡ sum_over f list
paired_sum f k [] = refl
paired_sum f k (m ∷ list) = ap (λ z. f m +ℚ z) (paired_sum f (suc k) list)
