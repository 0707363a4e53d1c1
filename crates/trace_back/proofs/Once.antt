-- The combination at an infeasible end of a run takes no limit twice.
use Rattle.std.proofs.Common.{◌≡◌, ◌≢◌, ◌+◌, ◌<◌, ◌≤◌, ◌==◌, ◌&&◌, refl, sym, ◌∙◌, ap, subst, ℕ, zero, suc, Bool, true, false, cond, not, List, [], ◌∷◌, ◌++◌, length, ne_eqb, arith}
use Rattle.std.specs.Prelude.{All, filter}
use Rattle.std.proofs.lemmas.List.Elements.{All-nil, All-cons, All-head, All-tail, All-append, All-filter, All-weaker, filter_passes}
use Rattle.std.proofs.lemmas.List.Kept.{AllPairs-cons, AllPairs-filter}
use Rattle.rational.specs.Rational.{ℚ, neg_ℚ, zero_ℚ, eq_ℚ, lt_q}
use Rattle.lp_model.specs.declared.members.Side.{Side}
use Rattle.lp_model.specs.declared.members.Side.TheVariants.{Lo, Up}
use Rattle.lp_model.proofs.Sets.{pairs_head, pairs_tail}
use Rattle.certs.specs.Ended.{blocked_multiple, is_upper, numbers_from, share_for, shares_for}
use Rattle.certs.specs.System.{VariableShare}
use Rattle.reductions.specs.Limited.{is_side}
use Rattle.reductions.proofs.WeightShares.{flat_more}
use Rattle.trace_back.specs.Ends.{AreApart, AreOnce, EndLaw}

-- ---- two shares
pub other_variable : (s t : VariableShare) → s.variable ≢ t.variable → AreApart s t
other_variable s t h = by (is_side s.side t.side) (ne_eqb s.variable t.variable h)
  where
    by : (a : Bool) → (s.variable == t.variable) ≡ false → (a && (s.variable == t.variable)) ≡ false
    by true e = e
    by false e = refl

pub other_side : (s t : VariableShare) → s.side ≡ Lo → t.side ≡ Up → AreApart s t
other_side s t e f = ap (λ (a : Side). is_side a t.side && (s.variable == t.variable)) e ∙ ap (λ (a : Side). is_side Lo a && (s.variable == t.variable)) f

-- ---- lists of them
pub none_twice : AreOnce []
none_twice i j d l m = absurd (omega arith)

pub each_once : (xs ys : List VariableShare) → AreOnce xs → AreOnce ys → All (λ s. All (AreApart s) ys) xs → AreOnce (xs ++ ys)
each_once [] ys h k across = k
each_once (s ∷ xs) ys h k across =
    AllPairs-cons AreApart s (xs ++ ys) (All-append (AreApart s) xs ys (pairs_head AreApart s xs h) (All-head (λ s. All (AreApart s) ys) s xs across))
    (each_once xs ys (pairs_tail AreApart s xs h) k (All-tail (λ s. All (AreApart s) ys) s xs across))

-- each of the one list is apart from each of the other by what holds of them
pub across : (P Q : VariableShare → Type 0) → ((s t : VariableShare) → P s → Q t → AreApart s t) → (xs ys : List VariableShare) → All P xs → All Q ys → All (λ s. All (AreApart s) ys) xs
across P Q apart xs ys p q = All-weaker P (λ s. All (AreApart s) ys) (λ s h. All-weaker Q (AreApart s) (λ t k. apart s t h k) ys q) xs p

-- ---- the shares of variables that count so often
share_at : (v : ℕ) (c : ℚ) → All (λ (s : VariableShare). s.variable ≡ v) (share_for v c) × AreOnce (share_for v c)
share_at v c = by (eq_ℚ c zero_ℚ) (lt_q zero_ℚ c)
  where
    one : (s : VariableShare) → s.variable ≡ v → All (λ (s : VariableShare). s.variable ≡ v) (s ∷ []) × AreOnce (s ∷ [])
    one s e = (All-cons (λ (s : VariableShare). s.variable ≡ v) s [] e (All-nil (λ (s : VariableShare). s.variable ≡ v)), AllPairs-cons AreApart s [] (All-nil (AreApart s)) none_twice)

    by : (a b : Bool) → All (λ (s : VariableShare). s.variable ≡ v) (cond a [] (cond b (record { variable = v; side = Up; weight = c } ∷ []) (record { variable = v; side = Lo; weight = neg_ℚ c } ∷ [])))
        × AreOnce (cond a [] (cond b (record { variable = v; side = Up; weight = c } ∷ []) (record { variable = v; side = Lo; weight = neg_ℚ c } ∷ [])))
    by true b = (All-nil (λ (s : VariableShare). s.variable ≡ v), none_twice)
    by false true = one (record { variable = v; side = Up; weight = c }) refl
    by false false = one (record { variable = v; side = Lo; weight = neg_ℚ c }) refl

-- a variable of the numbers from a on, so many
abbrev IsIn : ℕ → ℕ → VariableShare → Type 0
IsIn a k s = (a ≤ s.variable) × (s.variable < a + k)

shares_within : (c : ℕ → ℚ) (a k : ℕ) → All (IsIn a k) (shares_for c (numbers_from a k)) × AreOnce (shares_for c (numbers_from a k))
shares_within c a zero = (All-nil (IsIn a zero), none_twice)
shares_within c a (suc k) =
    let before = shares_within c a k in
    let last = share_at (a + k) (c (a + k)) in
    let more = sym (flat_more (λ v. share_for v (c v)) a k) in (
      subst (All (IsIn a (suc k))) more
          (All-append (IsIn a (suc k)) (shares_for c (numbers_from a k)) (share_for (a + k) (c (a + k)))
          (All-weaker (IsIn a k) (IsIn a (suc k)) (λ s h. (h.0, wider a k s.variable h.1)) (shares_for c (numbers_from a k)) before.0)
          (All-weaker (λ (s : VariableShare). s.variable ≡ a + k) (IsIn a (suc k)) (λ s e. here a k s.variable e) (share_for (a + k) (c (a + k))) last.0)),
      subst AreOnce more
          (each_once (shares_for c (numbers_from a k)) (share_for (a + k) (c (a + k))) before.1 last.1
          (across (IsIn a k) (λ (t : VariableShare). t.variable ≡ a + k) (λ s t h e. other_variable s t (λ d. less a k s.variable t.variable h.1 e d)) (shares_for c (numbers_from a k)) (share_for (a + k) (c (a + k))) before.0 last.0)),
    )
  where
    wider : (a k v : ℕ) → v < a + k → v < a + suc k
    wider a k v h = omega arith

    here : (a k v : ℕ) → v ≡ a + k → (a ≤ v) × (v < a + suc k)
    here a k v e = (omega arith, omega arith)

    less : (a k v w : ℕ) → v < a + k → w ≡ a + k → v ≡ w → ⊥
    less a k v w l e d = omega arith

-- ---- those on one side
lower_side : (s : VariableShare) → not (is_upper s) ≡ true → s.side ≡ Lo
lower_side s h = by s.side h
  where
    by : (side : Side) → not (elim side [ Lo ↦ false | Up ↦ true ]) ≡ true → side ≡ Lo
    by Lo e = refl
    by Up e = cc

upper_side : (s : VariableShare) → is_upper s ≡ true → s.side ≡ Up
upper_side s h = by s.side h
  where
    by : (side : Side) → elim side [ Lo ↦ false | Up ↦ true ] ≡ true → side ≡ Up
    by Lo e = cc
    by Up e = refl

-- the shares of rows and then of the sides of columns, where each variable counts so often
pub taken_once : (c : ℕ → ℚ) (n m : ℕ)
    → AreOnce (shares_for c (numbers_from n m) ++ (filter (λ s. not (is_upper s)) (shares_for c (numbers_from 0 n)) ++ filter is_upper (shares_for c (numbers_from 0 n))))
taken_once c n m =
    let columns = shares_for c (numbers_from 0 n) in
    let lower = filter (λ (s : VariableShare). not (is_upper s)) columns in
    let upper = filter is_upper columns in
    let rows = shares_within c n m in
    let all = shares_within c 0 n in
    let sides = each_once lower upper (AllPairs-filter AreApart (λ (s : VariableShare). not (is_upper s)) columns all.1) (AllPairs-filter AreApart is_upper columns all.1)
    (across (λ (s : VariableShare). s.side ≡ Lo) (λ (t : VariableShare). t.side ≡ Up) other_side lower upper
    (All-weaker (λ (s : VariableShare). not (is_upper s) ≡ true) (λ (s : VariableShare). s.side ≡ Lo) lower_side lower (filter_passes (λ (s : VariableShare). not (is_upper s)) columns))
    (All-weaker (λ (s : VariableShare). is_upper s ≡ true) (λ (s : VariableShare). s.side ≡ Up) upper_side upper (filter_passes is_upper columns))) in
    each_once (shares_for c (numbers_from n m)) (lower ++ upper) rows.1 sides
    (across (IsIn n m) (IsIn 0 n) (λ s t h k. other_variable s t (λ d. past n s.variable t.variable h.0 k.1 d)) (shares_for c (numbers_from n m)) (lower ++ upper) rows.0
    (All-append (IsIn 0 n) lower upper (All-filter (λ (s : VariableShare). not (is_upper s)) (IsIn 0 n) columns all.0) (All-filter is_upper (IsIn 0 n) columns all.0)))
  where
    past : (n v w : ℕ) → n ≤ v → w < 0 + n → v ≡ w → ⊥
    past n v w a b d = omega arith

pub end_law : EndLaw
end_law system t i side = taken_once (blocked_multiple t i side) (length system.columns) (length system.rows)
