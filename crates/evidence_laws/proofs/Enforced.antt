-- Rounds of enforcing: each brings a new member of every unsatisfiable part.
use Rattle.std.proofs.Common.{◌≡◌, ◌≤◌, ◌<◌, refl, sym, ◌∙◌, ap, subst, ℕ, zero, suc, Bool, true, false, true≢false, cond, ◌||◌, List, [], ◌∷◌, length, get_or, filter, arith, ◌⊎◌, inl, inr, Option, None, Some}
use Rattle.std.specs.Prelude.{All, Contains}
use Rattle.std.proofs.lemmas.Bool.{or_left, or_right, cases_Bool, cond_both}
use Rattle.std.proofs.lemmas.List.Elements.{All-head, All-tail, All-nil, All-cons, All-contains}
use Rattle.algebra.proofs.Ring.{x0, x1, ◌:-◌, zero_of}
use Rattle.rational.specs.Rational.{ℚ, ◌-ℚ◌, zero_ℚ, ◌≤ℚ◌}
use Rattle.rational.specs.Linear.{Assignment}
use Rattle.rational.proofs.Order.{le_by, le_refl_ℚ, le_trans_ℚ, nonneg_of_le, lt_q-true, lt_q-false, lt-le_clash_ℚ}
use Rattle.lp_model.specs.declared.members.Member.{Member}
use Rattle.lp_model.specs.declared.members.Side.{Side}
use Rattle.lp_model.specs.declared.members.Side.TheVariants.{Lo, Up}
use Rattle.lp_model.specs.Program.{Program}
use Rattle.lp_model.specs.Members.{has, is_mark, value, number, side}
use Rattle.lp_model.specs.Satisfaction.{coordinate, Holds, IsUnsatisfiable, IsPart}
use Rattle.lp_model.proofs.Sets.{Contains-cons, Contains-filter, contains_of_has, has_of_contains}
use Rattle.certs.specs.Violation.{missed_by, violation, is_violated}
use Rattle.certs.specs.Filter.{Stretches, Enforces, first, further, RoundsLaw}
use Rattle.certs.proofs.Sides.{KeepsSide, member_keeps}
use Rattle.evidence_laws.proofs.Kept.{holds_of}
use Rattle.evidence_laws.proofs.Missed.{larger_right, larger_least}

-- ---- a member is violated, or holds
keeps_unless_missed : (side : Side) (o : Option ℚ) (v : ℚ) → missed_by side o v ≤ℚ zero_ℚ → KeepsSide side o v
unfolding KeepsSide
keeps_unless_missed Lo None v h = tt
keeps_unless_missed Up None v h = tt
keeps_unless_missed Lo (Some b) v h = le_by (b ∷ v ∷ []) x0 x1 (zero_of :- (x0 :- x1)) (nonneg_of_le (le_trans_ℚ (larger_right zero_ℚ (b -ℚ v)) h)) tt
keeps_unless_missed Up (Some b) v h = le_by (b ∷ v ∷ []) x1 x0 (zero_of :- (x1 :- x0)) (nonneg_of_le (le_trans_ℚ (larger_right zero_ℚ (v -ℚ b)) h)) tt

nothing_missed : (side : Side) (o : Option ℚ) (v : ℚ) → KeepsSide side o v → missed_by side o v ≤ℚ zero_ℚ
unfolding KeepsSide
nothing_missed Lo None v h = le_refl_ℚ zero_ℚ
nothing_missed Up None v h = le_refl_ℚ zero_ℚ
nothing_missed Lo (Some b) v h = larger_least zero_ℚ (b -ℚ v) zero_ℚ (le_refl_ℚ zero_ℚ) (le_by (b ∷ v ∷ []) (x0 :- x1) zero_of (x1 :- x0) (nonneg_of_le h) tt)
nothing_missed Up (Some b) v h = larger_least zero_ℚ (v -ℚ b) zero_ℚ (le_refl_ℚ zero_ℚ) (le_by (b ∷ v ∷ []) (x1 :- x0) zero_of (x0 :- x1) (nonneg_of_le h) tt)

pub holds_unless_violated : (model : Program) (x : Assignment) (m : Member) → is_mark m ≡ false → is_violated model x m ≡ false → Holds model x m
holds_unless_violated model x m h e = holds_of model x m h (keeps_unless_missed (side m) (number model m) (value model m x) (lt_q-false zero_ℚ (violation model x m) e))

pub not_violated : (model : Program) (x : Assignment) (m : Member) → Holds model x m → is_violated model x m ≡ false
not_violated model x m h = go (is_violated model x m) refl
  where
    go : (t : Bool) → is_violated model x m ≡ t → t ≡ false
    go true e = lt-le_clash_ℚ (lt_q-true zero_ℚ (violation model x m) e) (nothing_missed (side m) (number model m) (value model m x) (member_keeps model x m h))
    go false e = refl

-- ---- how many pass a test
pub filter_step-le : {A : Type 0} (s t : Bool) (x : A) (f g : List A) → (s ≡ true → t ≡ true) → length f ≤ length g → length (cond s (x ∷ f) f) ≤ length (cond t (x ∷ g) g)
filter_step-le true true x f g h l = omega arith
filter_step-le true false x f g h l = absurd (true≢false (sym (h refl)))
filter_step-le false true x f g h l = omega arith
filter_step-le false false x f g h l = l

filter_step-lt : {A : Type 0} (s t : Bool) (x : A) (f g : List A) → (s ≡ true → t ≡ true) → length f < length g → length (cond s (x ∷ f) f) < length (cond t (x ∷ g) g)
filter_step-lt true true x f g h l = omega arith
filter_step-lt true false x f g h l = absurd (true≢false (sym (h refl)))
filter_step-lt false true x f g h l = omega arith
filter_step-lt false false x f g h l = l

filter_more : {A : Type 0} (s t : A → Bool) (xs : List A) → All (λ a. s a ≡ true → t a ≡ true) xs → length (filter s xs) ≤ length (filter t xs)
filter_more s t [] h = omega arith
filter_more s t (x ∷ xs) h =
    filter_step-le (s x) (t x) x (filter s xs) (filter t xs) (All-head (λ a. s a ≡ true → t a ≡ true) x xs h) (filter_more s t xs (All-tail (λ a. s a ≡ true → t a ≡ true) x xs h))

filter_new : {A : Type 0} (s t : A → Bool) (xs : List A) → All (λ a. s a ≡ true → t a ≡ true) xs → (a : A) → Contains xs a → s a ≡ false → t a ≡ true → length (filter s xs) < length (filter t xs)
filter_new s t [] h a (k, l, e) p q = absurd (omega arith)
filter_new s t (x ∷ xs) h a (zero, l, e) p q =
    let rest : length (filter s xs) ≤ length (filter t xs) = filter_more s t xs (All-tail (λ a. s a ≡ true → t a ≡ true) x xs h) in
    subst (λ b. length (cond b (x ∷ filter s xs) (filter s xs)) < length (cond (t x) (x ∷ filter t xs) (filter t xs))) (sym (ap s e ∙ p))
    (subst (λ b. length (filter s xs) < length (cond b (x ∷ filter t xs) (filter t xs))) (sym (ap t e ∙ q)) (let g : length (filter s xs) < suc (length (filter t xs)) = omega arith in g))
filter_new s t (x ∷ xs) h a (suc k, l, e) p q =
    filter_step-lt (s x) (t x) x (filter s xs) (filter t xs) (All-head (λ a. s a ≡ true → t a ≡ true) x xs h)
    (filter_new s t xs (All-tail (λ a. s a ≡ true → t a ≡ true) x xs h) a (k, (let g : k < length xs = omega arith in g), e) p q)

filter_short : {A : Type 0} (s : A → Bool) (xs : List A) → length (filter s xs) ≤ length xs
filter_short s [] = omega arith
filter_short s (x ∷ xs) =
    let rest : length (filter s xs) ≤ length xs = filter_short s xs in
    cond_both (s x) (x ∷ filter s xs) (filter s xs) (λ zs. length zs ≤ suc (length xs)) (λ _. let g : suc (length (filter s xs)) ≤ suc (length xs) = omega arith in g) (λ _. let g : length (filter s xs) ≤ suc (length xs) = omega arith in g)

-- no element passes, or some does
some_passes : {A : Type 0} (s : A → Bool) (xs : List A) → All (λ a. s a ≡ false) xs ⊎ ((a : A) × Contains xs a × (s a ≡ true))
some_passes s [] = inl (All-nil (λ a. s a ≡ false))
some_passes s (x ∷ xs) =
    elim (cases_Bool (s x)) [
      | inl p ↦ inr (x, (0, (let g : 0 < suc (length xs) = omega arith in g), refl), p)
      | inr p ↦
          elim (some_passes s xs) [
            | inl q ↦ inl (All-cons (λ a. s a ≡ false) x xs p q)
            | inr q ↦ inr (q.0, Contains-cons x xs q.0 q.1, q.2)
          ]
    ]

-- ---- each round brings a new member of the part
module _ (model : Program) (set part : List Member) (inside : IsPart part set) (linear : All (λ m. is_mark m ≡ false) part) (denied : IsUnsatisfiable model part) where
  one_violated : (enforced next : List Member) (s : Stretches model set enforced next) → (m : Member) × Contains part m × (is_violated model (coordinate s.point) m ≡ true)
  one_violated enforced next s =
      elim (some_passes (is_violated model (coordinate s.point)) part) [
        | inl h ↦ absurd (denied (record { point = s.point; satisfies = λ k d l. holds_unless_violated model (coordinate s.point) (get_or part k d) (linear k d l) (h k d l) }))
        | inr h ↦ h
      ]

  -- a member that is enforced holds at the point
  not_enforced : (enforced next : List Member) (s : Stretches model set enforced next) (m : Member) → is_violated model (coordinate s.point) m ≡ true → has enforced m ≡ false
  not_enforced enforced next s m v =
      elim (cases_Bool (has enforced m)) [
        | inl h ↦ absurd (true≢false (sym v ∙ not_violated model (coordinate s.point) m (All-contains (Holds model (coordinate s.point)) enforced m s.satisfies (contains_of_has enforced m h))))
        | inr h ↦ h
      ]

  enforced_next : (enforced next : List Member) (s : Stretches model set enforced next) (m : Member) → Contains set m → (has enforced m || is_violated model (coordinate s.point) m) ≡ true → has next m ≡ true
  enforced_next enforced next s m c t =
      subst (λ list. has list m ≡ true) (sym s.adds)
      (has_of_contains (filter (λ m. has enforced m || is_violated model (coordinate s.point) m) set) m (Contains-filter (λ m. has enforced m || is_violated model (coordinate s.point) m) set m c t))

  enforced_part : List Member → ℕ
  enforced_part enforced = length (filter (has enforced) part)

  grows : (enforced next : List Member) → Stretches model set enforced next → enforced_part enforced < enforced_part next
  unfolding enforced_part
  grows enforced next s =
      let new : (m : Member) × Contains part m × (is_violated model (coordinate s.point) m ≡ true) = one_violated enforced next s in
      filter_new (has enforced) (has next) part
      (λ k d l e. enforced_next enforced next s (get_or part k d) (inside k d l) (or_left (has enforced (get_or part k d)) (is_violated model (coordinate s.point) (get_or part k d)) e))
      new.0 new.1 (not_enforced enforced next s new.0 new.2)
      (enforced_next enforced next s new.0 (All-contains (Contains set) part new.0 inside new.1) (or_right (has enforced new.0) (is_violated model (coordinate s.point) new.0) new.2))

  rounds_so_far : {n : ℕ} {enforced : List Member} → Enforces model set n enforced → n ≤ suc (enforced_part enforced)
  rounds_so_far first = omega arith
  rounds_so_far (further {n = n} {enforced = e} {next = f} d s) =
      let before : n ≤ suc (enforced_part e) = rounds_so_far d in
      let more : enforced_part e < enforced_part f = grows e f s in
      omega arith

pub rounds_law : RoundsLaw
unfolding enforced_part
rounds_law model set n last part r inside linear denied =
    let so_far : n ≤ suc (length (filter (has last) part)) = rounds_so_far model set part inside linear denied r.chain in
    let short : length (filter (has last) part) ≤ length part = filter_short (has last) part in
    omega arith
