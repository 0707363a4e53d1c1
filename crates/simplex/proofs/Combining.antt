-- Shares of one variable after another.
use Rattle.std.proofs.Common.{◌≡◌, ◌+◌, ◌-◌, refl, sym, ◌∙◌, ap, subst, arith, ℕ, Bool, true, false, cond, not, List, [], ◌∷◌, ◌++◌, map, length, Option, Some, is_some, add-one, ltb}
use Rattle.std.specs.Prelude.{filter}
use Rattle.std.proofs.lemmas.Bool.{cond_both, cond-true, cond-false}
use Rattle.std.proofs.lemmas.List.{append-nil, map-append}
use Rattle.std.proofs.lemmas.List.Elements.{filter-append}
use Rattle.std.proofs.lemmas.Grind.{flat_map-append}
use Rattle.rational.specs.Rational.{ℚ, zero_ℚ, neg_ℚ, eq_ℚ, lt_q}
use Rattle.lp_model.specs.declared.members.Side.{Side}
use Rattle.lp_model.specs.declared.members.Side.TheVariants.{Lo, Up}
use Rattle.certs.specs.Ended.{blocked_multiple, blocked_shares, is_upper, numbers_from, share_for, shares_for}
use Rattle.certs.specs.System.{LinearSystem, VariableShare}
use Rattle.certs.specs.Tableau.{Tableau, IsTableauOf}
use Rattle.certs.specs.Turns.{limited, settle_choice}
use Rattle.certs.specs.Turns.Choice.{Blocked}
use Rattle.certs.proofs.Choices.{blocked_parts}
use Rattle.certs.specs.declared.evidence.Source.TheVariants.{Member as Of}
use Rattle.certs.specs.Combination.{source_side}
use Rattle.certs.specs.Named.{bound_of, named, row_side_of}
use Rattle.simplex.specs.Combined.{column_shares, is_on, row_shares}

-- ---- one share
pub share_above : (v : ℕ) (c : ℚ) → eq_ℚ c zero_ℚ ≡ false → lt_q zero_ℚ c ≡ true → share_for v c ≡ record { variable = v; side = Up; weight = c } ∷ []
share_above v c e l = cond-false (eq_ℚ c zero_ℚ) [] _ e ∙ cond-true (lt_q zero_ℚ c) (record { variable = v; side = Up; weight = c } ∷ []) _ l

pub share_below : (v : ℕ) (c : ℚ) → eq_ℚ c zero_ℚ ≡ false → lt_q zero_ℚ c ≡ false → share_for v c ≡ record { variable = v; side = Lo; weight = neg_ℚ c } ∷ []
share_below v c e l = cond-false (eq_ℚ c zero_ℚ) [] _ e ∙ cond-false (lt_q zero_ℚ c) (record { variable = v; side = Up; weight = c } ∷ []) _ l

-- ---- one variable more
shares_more : (c : ℕ → ℚ) (a n : ℕ) → shares_for c (numbers_from a (n + 1)) ≡ shares_for c (numbers_from a n) ++ share_for (a + n) (c (a + n))
shares_more c a n =
    ap (λ m. shares_for c (numbers_from a m)) (add-one n)
    ∙ flat_map-append (λ v. share_for v (c v)) (numbers_from a n) ((a + n) ∷ [])
    ∙ ap (λ z. shares_for c (numbers_from a n) ++ z) (append-nil (share_for (a + n) (c (a + n))))

pub rows_more : (columns n : ℕ) (c : ℕ → ℚ) → row_shares columns (n + 1) c ≡ row_shares columns n c ++ map (named columns) (share_for (columns + n) (c (columns + n)))
rows_more columns n c = ap (map (named columns)) (shares_more c columns n) ∙ map-append (named columns) (shares_for c (numbers_from columns n)) (share_for (columns + n) (c (columns + n)))

-- ---- those on one side
-- a share that is named has the side of its variable's limit
named_side : (columns : ℕ) (s : VariableShare) → source_side (named columns s).source ≡ s.side
named_side columns s =
    cond_both (ltb s.variable columns) (bound_of s.variable s.side) (row_side_of (s.variable - columns) s.side) (λ m. source_side (Of m) ≡ s.side)
    (λ e. bound_side s.side) (λ e. side_of_row s.side)
  where
    bound_side : (side : Side) → source_side (Of (bound_of s.variable side)) ≡ side
    bound_side Lo = refl
    bound_side Up = refl

    side_of_row : (side : Side) → source_side (Of (row_side_of (s.variable - columns) side)) ≡ side
    side_of_row Lo = refl
    side_of_row Up = refl

filter_named : (columns : ℕ) (upper : Bool) (xs : List VariableShare) → map (named columns) (filter (λ s. is_on upper s.side) xs) ≡ filter (λ s. is_on upper (source_side s.source)) (map (named columns) xs)
filter_named columns upper [] = refl
filter_named columns upper (x ∷ xs) =
    by (filter_named columns upper xs) (is_on upper x.side)
    ∙ ap (λ z. cond (is_on upper z) (named columns x ∷ filter (λ s. is_on upper (source_side s.source)) (map (named columns) xs)) (filter (λ s. is_on upper (source_side s.source)) (map (named columns) xs))) (sym (named_side columns x))
  where
    by : map (named columns) (filter (λ s. is_on upper s.side) xs) ≡ filter (λ s. is_on upper (source_side s.source)) (map (named columns) xs) → (b : Bool) → map (named columns) (cond b (x ∷ filter (λ s. is_on upper s.side) xs) (filter (λ s. is_on upper s.side) xs)) ≡ cond b (named columns x ∷ filter (λ s. is_on upper (source_side s.source)) (map (named columns) xs)) (filter (λ s. is_on upper (source_side s.source)) (map (named columns) xs))
    by rest true = ap (λ z. named columns x ∷ z) rest
    by rest false = rest

pub columns_more : (columns n : ℕ) (upper : Bool) (c : ℕ → ℚ)
    → column_shares columns upper (n + 1) c ≡ column_shares columns upper n c ++ filter (λ s. is_on upper (source_side s.source)) (map (named columns) (share_for n (c n)))
columns_more columns n upper c =
    let z : 0 + n ≡ n = omega arith in
    ap (λ l. map (named columns) (filter (λ s. is_on upper s.side) l)) (shares_more c 0 n ∙ ap (λ k. shares_for c (numbers_from 0 n) ++ share_for k (c k)) z)
    ∙ ap (map (named columns)) (filter-append (λ s. is_on upper s.side) (shares_for c (numbers_from 0 n)) (share_for n (c n)))
    ∙ map-append (named columns) (filter (λ s. is_on upper s.side) (shares_for c (numbers_from 0 n))) (filter (λ s. is_on upper s.side) (share_for n (c n)))
    ∙ ap (λ l. column_shares columns upper n c ++ l) (filter_named columns upper (share_for n (c n)))

-- ---- all shares
pub all_shares : (columns : ℕ) (system : LinearSystem) (t : Tableau) (i : ℕ) (side : Side) → length system.columns ≡ columns
    → map (named columns) (blocked_shares system t i side)
    ≡ row_shares columns (length system.rows) (blocked_multiple t i side) ++ (column_shares columns false columns (blocked_multiple t i side) ++ column_shares columns true columns (blocked_multiple t i side))
all_shares columns system t i side n = subst Goal n base
  where
    Goal : ℕ → Type 0
    Goal k =
        map (named k) (blocked_shares system t i side)
        ≡ row_shares k (length system.rows) (blocked_multiple t i side) ++ (column_shares k false k (blocked_multiple t i side) ++ column_shares k true k (blocked_multiple t i side))

    base : Goal (length system.columns)
    base =
        let k = length system.columns in
        let c = blocked_multiple t i side in
        let columns = shares_for c (numbers_from 0 k) in
        map-append (named k) (shares_for c (numbers_from k (length system.rows))) (filter (λ s. not (is_upper s)) columns ++ filter is_upper columns)
        ∙ ap (λ l. row_shares k (length system.rows) c ++ l) (map-append (named k) (filter (λ s. not (is_upper s)) columns) (filter is_upper columns))

-- the rows are the variables after the columns
pub rows_left : (system : LinearSystem) (t : Tableau) → IsTableauOf system t → limited t - length system.columns ≡ length system.rows
rows_left system t of = by (is_some system.objective) refl
  where
    by : (b : Bool) → is_some system.objective ≡ b → limited t - length system.columns ≡ length system.rows
    by true e =
        let o = ap (λ b. cond b (length t.basis - 1) (length t.basis)) (of.objective ∙ e) in
        let s = of.size ∙ ap (λ b. length system.columns + length system.rows + cond b 1 0) e in
        omega (arith, o, s)
    by false e =
        let o = ap (λ b. cond b (length t.basis - 1) (length t.basis)) (of.objective ∙ e) in
        let s = of.size ∙ ap (λ b. length system.columns + length system.rows + cond b 1 0) e in
        omega (arith, o, s)

-- a variable that nothing helps misses one limit
pub one_side : (t : Tableau) (i : ℕ) (s side : Side) → settle_choice t ≡ Blocked i s → settle_choice t ≡ Blocked i side → s ≡ side
one_side t i s side e k = same s side (sym (blocked_parts t i s e).missed ∙ (blocked_parts t i side k).missed)
  where
    same : (s side : Side) → ◌≡◌ {A = Option Side} (Some s) (Some side) → s ≡ side
    same s side q = cc
