-- Shares as weights, and the shares of weights: sums over the ones are sums over the others.
use Rattle.std.proofs.Common.{◌≡◌, ◌≢◌, ◌+◌, ◌<◌, refl, sym, ◌∙◌, ap, subst, ℕ, zero, suc, Bool, true, false, true≢false, cond, ◌&&◌, ◌==◌, List, [], ◌∷◌, ◌++◌, length, IsSome, arith}
use Rattle.std.specs.Prelude.{All, flat_map}
use Rattle.std.proofs.lemmas.Bool.{and_parts, eqb-true}
use Rattle.std.proofs.lemmas.List.{append-nil}
use Rattle.std.proofs.lemmas.List.Concat.{flat_map-append}
use Rattle.std.proofs.lemmas.List.Elements.{All-head, All-tail, All-nil, All-cons, All-append, All-weaker}
use Rattle.rational.specs.Rational.{ℚ, ◌+ℚ◌, ◌-ℚ◌, ◌*ℚ◌, neg_ℚ, zero_ℚ, eq_ℚ, ◌≤ℚ◌, ◌<ℚ◌}
use Rattle.rational.specs.Sum.{sum_over, sum_below}
use Rattle.rational.proofs.Field.{ring_ℚ, x0, x1, x2, x3, x4, ◌:+◌, ◌:-◌, ◌:*◌, minus, zero_of}
use Rattle.rational.proofs.Order.{le_of_lt_ℚ, le_refl_ℚ, lt_of_le-ne_ℚ}
use Rattle.rational.proofs.Compare.{eq-Decides}
use Rattle.rational.proofs.Sums.{sum_over-append, sum_below-ext, sum_below-add, sum_below-one, sum_below-split, sum_below-zero}
use Rattle.lp_model.specs.declared.members.Side.{Side}
use Rattle.lp_model.specs.declared.members.Side.TheVariants.{Lo, Up}
use Rattle.certs.specs.Combination.{signed}
use Rattle.certs.specs.Ended.{numbers_from}
use Rattle.certs.specs.System.{LinearSystem, VariableShare, IsVariableCombination, variable_limits, limit_on}
use Rattle.reductions.specs.Limited.{is_side}
use Rattle.reductions.specs.Rules.{share_on}
use Rattle.reductions.specs.Back.{Weights, weights_of, share_of, shares_of}
use Rattle.reductions.specs.Laws.{AreWeightsOf, balance, right}
use Rattle.reductions.proofs.WeightMoves.{taken_at}
use Rattle.reductions.proofs.WeightSystems.{factor_at, limit_at, variables, balance_as, right_as}
use Rattle.reductions.proofs.WeightSums.{part_le}
use Rattle.reductions.proofs.WeightSides.{side_same}

-- ---- shares as weights
-- what is taken is taken by a share
taken_share : (Q : Side → ℕ → Type 0) (shares : List VariableShare) → All (λ s. Q s.side s.variable) shares → (side : Side) (v : ℕ) → weights_of shares side v ≢ zero_ℚ → Q side v
taken_share Q [] h side v some = absurd (some refl)
taken_share Q (s ∷ shares) h side v some = by (taken_share Q shares (All-tail (λ s. Q s.side s.variable) s shares h) side v) (is_side s.side side && (s.variable == v)) refl some
  where
    by : (weights_of shares side v ≢ zero_ℚ → Q side v) → (b : Bool) → (is_side s.side side && (s.variable == v)) ≡ b → cond b s.weight zero_ℚ +ℚ weights_of shares side v ≢ zero_ℚ → Q side v
    by rest true e k =
        let both = and_parts (is_side s.side side) (s.variable == v) e in
        subst (λ z. Q z v) (side_same s.side side both.0) (subst (λ z. Q s.side z) (eqb-true s.variable v both.1) (All-head (λ s. Q s.side s.variable) s shares h))
    by rest false e k = rest (λ z. k (ap (λ q. zero_ℚ +ℚ q) z ∙ ring_ℚ [] (zero_of :+ zero_of) zero_of tt))

pub weights_are : (system : LinearSystem) (shares : List VariableShare) → IsVariableCombination system shares → AreWeightsOf system (weights_of shares)
weights_are system shares shown = record {
  nonnegative = λ side v. (part_le (λ (s : VariableShare). zero_ℚ <ℚ s.weight) (λ s. cond (is_side s.side side && (s.variable == v)) s.weight zero_ℚ) (λ s p. own (is_side s.side side && (s.variable == v)) s.weight p) shares shown.positive).0;
  known = λ side v some. taken_share (λ side v. v < variables system) shares shown.known side v some;
  there = λ side v some. taken_share (λ side v. IsSome (limit_on (variable_limits system v) side)) shares shown.there side v some;
}
  where
    own : (b : Bool) (q : ℚ) → zero_ℚ <ℚ q → zero_ℚ ≤ℚ cond b q zero_ℚ
    own true q p = le_of_lt_ℚ p
    own false q p = le_refl_ℚ zero_ℚ

-- a sum over the shares
abbrev pub share_sum : (Side → ℕ → ℚ) → List VariableShare → ℚ
share_sum g shares = sum_over (λ s. signed s.side s.weight *ℚ g s.side s.variable) shares

pub weights_sum : (total : ℕ) (g : Side → ℕ → ℚ) (shares : List VariableShare) → All (λ s. s.variable < total) shares → sum_below total (taken_at (weights_of shares) g) ≡ share_sum g shares
weights_sum total g [] h = sum_below-ext total (taken_at (weights_of []) g) (λ v. zero_ℚ) (λ v l. ring_ℚ (g Up v ∷ g Lo v ∷ []) (zero_of :* x0 :- zero_of :* x1) zero_of tt) ∙ sum_below-zero total
weights_sum total g (s ∷ shares) h =
    sum_below-ext total (taken_at (weights_of (s ∷ shares)) g) (λ v. cond (s.variable == v) (signed s.side s.weight) zero_ℚ *ℚ g s.side v +ℚ taken_at (weights_of shares) g v) (λ v l. one s.side (s.variable == v) v)
    ∙ sum_below-add total (λ v. cond (s.variable == v) (signed s.side s.weight) zero_ℚ *ℚ g s.side v) (taken_at (weights_of shares) g)
    ∙ ap (λ z. z +ℚ sum_below total (taken_at (weights_of shares) g)) (sum_below-one total s.variable (signed s.side s.weight) (g s.side) (All-head (λ s. s.variable < total) s shares h))
    ∙ ap (λ z. signed s.side s.weight *ℚ g s.side s.variable +ℚ z) (weights_sum total g shares (All-tail (λ s. s.variable < total) s shares h))
  where
    one : (side : Side) (b : Bool) (v : ℕ) → (cond (is_side side Up && b) s.weight zero_ℚ +ℚ weights_of shares Up v) *ℚ g Up v -ℚ (cond (is_side side Lo && b) s.weight zero_ℚ +ℚ weights_of shares Lo v) *ℚ g Lo v
        ≡ cond b (signed side s.weight) zero_ℚ *ℚ g side v +ℚ taken_at (weights_of shares) g v
    one Lo true v = ring_ℚ (s.weight ∷ weights_of shares Up v ∷ weights_of shares Lo v ∷ g Up v ∷ g Lo v ∷ []) ((zero_of :+ x1) :* x3 :- (x0 :+ x2) :* x4) (minus x0 :* x4 :+ (x1 :* x3 :- x2 :* x4)) tt
    one Up true v = ring_ℚ (s.weight ∷ weights_of shares Up v ∷ weights_of shares Lo v ∷ g Up v ∷ g Lo v ∷ []) ((x0 :+ x1) :* x3 :- (zero_of :+ x2) :* x4) (x0 :* x3 :+ (x1 :* x3 :- x2 :* x4)) tt
    one Lo false v = ring_ℚ (weights_of shares Up v ∷ weights_of shares Lo v ∷ g Up v ∷ g Lo v ∷ []) ((zero_of :+ x0) :* x2 :- (zero_of :+ x1) :* x3) (zero_of :* x3 :+ (x0 :* x2 :- x1 :* x3)) tt
    one Up false v = ring_ℚ (weights_of shares Up v ∷ weights_of shares Lo v ∷ g Up v ∷ g Lo v ∷ []) ((zero_of :+ x0) :* x2 :- (zero_of :+ x1) :* x3) (zero_of :* x2 :+ (x0 :* x2 :- x1 :* x3)) tt

-- ---- lists made number by number
pub flat_more : {A : Type 0} (h : ℕ → List A) (a k : ℕ) → flat_map h (numbers_from a (suc k)) ≡ flat_map h (numbers_from a k) ++ h (a + k)
flat_more h a k = flat_map-append h (numbers_from a k) ((a + k) ∷ []) ∙ ap (λ l. flat_map h (numbers_from a k) ++ l) (append-nil (h (a + k)))

pub flat_sum : {A : Type 0} (f : A → ℚ) (h : ℕ → List A) (a k : ℕ) → sum_over f (flat_map h (numbers_from a k)) ≡ sum_below k (λ r. sum_over f (h (a + r)))
flat_sum f h a zero = refl
flat_sum f h a (suc k) = ap (sum_over f) (flat_more h a k) ∙ sum_over-append f (flat_map h (numbers_from a k)) (h (a + k)) ∙ ap (λ z. z +ℚ sum_over f (h (a + k))) (flat_sum f h a k)

pub flat_all : {A : Type 0} (P : A → Type 0) (h : ℕ → List A) (a k : ℕ) → ((r : ℕ) → r < k → All P (h (a + r))) → All P (flat_map h (numbers_from a k))
flat_all P h a zero each = All-nil P
flat_all P h a (suc k) each =
    subst (All P) (sym (flat_more h a k)) (All-append P (flat_map h (numbers_from a k)) (h (a + k)) (flat_all P h a k (λ r l. each r (omega arith))) (each k (omega arith)))

-- ---- the shares of weights
-- what is known of the share of a limit
pub record IsShareOf (w : Weights) (side : Side) (v : ℕ) (s : VariableShare) : Type 0 where
  pub variable : s.variable ≡ v
  pub side_is : s.side ≡ side
  pub weight : s.weight ≡ w side v
  pub some : w side v ≢ zero_ℚ

pub share_known : (w : Weights) (side : Side) (v : ℕ) → All (IsShareOf w side v) (share_of w side v)
share_known w side v = by (eq_ℚ (w side v) zero_ℚ) refl
  where
    by : (b : Bool) → eq_ℚ (w side v) zero_ℚ ≡ b → All (IsShareOf w side v) (cond b [] (share_on side v (w side v) ∷ []))
    by true e = All-nil (IsShareOf w side v)
    by false e =
        All-cons (IsShareOf w side v) (share_on side v (w side v)) []
        (record { variable = refl; side_is = refl; weight = refl; some = λ z. true≢false (sym ((eq-Decides (w side v) zero_ℚ).1 z) ∙ e) }) (All-nil (IsShareOf w side v))

one_share : (w : Weights) (g : Side → ℕ → ℚ) (side : Side) (v : ℕ) → share_sum g (share_of w side v) ≡ signed side (w side v) *ℚ g side v
one_share w g side v = by (eq_ℚ (w side v) zero_ℚ) refl
  where
    none : (side : Side) → zero_ℚ ≡ signed side zero_ℚ *ℚ g side v
    none Lo = ring_ℚ (g Lo v ∷ []) zero_of (minus zero_of :* x0) tt
    none Up = ring_ℚ (g Up v ∷ []) zero_of (zero_of :* x0) tt

    by : (b : Bool) → eq_ℚ (w side v) zero_ℚ ≡ b → share_sum g (cond b [] (share_on side v (w side v) ∷ [])) ≡ signed side (w side v) *ℚ g side v
    by true e = none side ∙ ap (λ z. signed side z *ℚ g side v) (sym ((eq-Decides (w side v) zero_ℚ).0 e))
    by false e = ring_ℚ ((signed side (w side v) *ℚ g side v) ∷ []) (x0 :+ zero_of) x0 tt

-- a sum over the shares of weights is one over the variables
pub shares_sum : (columns rows : ℕ) (w : Weights) (g : Side → ℕ → ℚ) → share_sum g (shares_of columns rows w) ≡ sum_below (columns + rows) (taken_at w g)
shares_sum columns rows w g =
    let f : VariableShare → ℚ = λ s. signed s.side s.weight *ℚ g s.side s.variable in
    let lo : ℕ → ℚ = λ v. neg_ℚ (w Lo v) *ℚ g Lo v in
    let up : ℕ → ℚ = λ v. w Up v *ℚ g Up v in
    let in_rows : List VariableShare = flat_map (λ v. share_of w Lo v ++ share_of w Up v) (numbers_from columns rows) in
    let lower : List VariableShare = flat_map (share_of w Lo) (numbers_from 0 columns) in
    let upper : List VariableShare = flat_map (share_of w Up) (numbers_from 0 columns) in
    sum_over-append f in_rows (lower ++ upper)
    ∙ ap (λ z. sum_over f in_rows +ℚ z)
    (sum_over-append f lower upper
    ∙ ap (λ z. z +ℚ sum_over f upper) (flat_sum f (share_of w Lo) 0 columns ∙ sum_below-ext columns (λ r. sum_over f (share_of w Lo (0 + r))) lo (λ r l. one_share w g Lo (0 + r) ∙ ap lo (let e : 0 + r ≡ r = omega arith in e)))
    ∙ ap (λ z. sum_below columns lo +ℚ z) (flat_sum f (share_of w Up) 0 columns ∙ sum_below-ext columns (λ r. sum_over f (share_of w Up (0 + r))) up (λ r l. one_share w g Up (0 + r) ∙ ap up (let e : 0 + r ≡ r = omega arith in e)))
    ∙ sym (sum_below-add columns lo up)
    ∙ sum_below-ext columns (λ v. lo v +ℚ up v) (taken_at w g) (λ v l. ring_ℚ (w Lo v ∷ g Lo v ∷ w Up v ∷ g Up v ∷ []) (minus x0 :* x1 :+ x2 :* x3) (x2 :* x3 :- x0 :* x1) tt))
    ∙ ap (λ z. z +ℚ sum_below columns (taken_at w g))
    (flat_sum f (λ v. share_of w Lo v ++ share_of w Up v) columns rows
    ∙ sum_below-ext rows (λ r. sum_over f (share_of w Lo (columns + r) ++ share_of w Up (columns + r))) (λ r. taken_at w g (columns + r))
    (λ r l.
    sum_over-append f (share_of w Lo (columns + r)) (share_of w Up (columns + r))
    ∙ ap (λ z. z +ℚ sum_over f (share_of w Up (columns + r))) (one_share w g Lo (columns + r)) ∙ ap (λ z. lo (columns + r) +ℚ z) (one_share w g Up (columns + r))
    ∙ ring_ℚ (w Lo (columns + r) ∷ g Lo (columns + r) ∷ w Up (columns + r) ∷ g Up (columns + r) ∷ []) (minus x0 :* x1 :+ x2 :* x3) (x2 :* x3 :- x0 :* x1) tt))
    ∙ ring_ℚ (sum_below rows (λ r. taken_at w g (columns + r)) ∷ sum_below columns (taken_at w g) ∷ []) (x0 :+ x1) (x1 :+ x0) tt
    ∙ sym (sum_below-split columns rows (taken_at w g))

-- what holds of each limit that is taken holds of the shares
pub shares_all : (columns rows : ℕ) (w : Weights) (P : VariableShare → Type 0) → ((side : Side) (v : ℕ) (s : VariableShare) → IsShareOf w side v s → P s) → All P (shares_of columns rows w)
shares_all columns rows w P h =
    All-append P (flat_map (λ v. share_of w Lo v ++ share_of w Up v) (numbers_from columns rows)) _
    (flat_all P (λ v. share_of w Lo v ++ share_of w Up v) columns rows (λ r l. All-append P (share_of w Lo (columns + r)) (share_of w Up (columns + r)) (each Lo (columns + r)) (each Up (columns + r))))
    (All-append P (flat_map (share_of w Lo) (numbers_from 0 columns)) (flat_map (share_of w Up) (numbers_from 0 columns))
    (flat_all P (share_of w Lo) 0 columns (λ r l. each Lo (0 + r))) (flat_all P (share_of w Up) 0 columns (λ r l. each Up (0 + r))))
  where
    each : (side : Side) (v : ℕ) → All P (share_of w side v)
    each side v = All-weaker (IsShareOf w side v) P (h side v) (share_of w side v) (share_known w side v)

-- weights whose balance is 0 at each column, and whose right is below 0, are a combination
pub combination_from : (system : LinearSystem) (w : Weights) → AreWeightsOf system w → ((k : ℕ) → k < length system.columns → balance system w k ≡ zero_ℚ) → right system w <ℚ zero_ℚ
    → IsVariableCombination system (shares_of (length system.columns) (length system.rows) w)
combination_from system w h level below =
    let n : ℕ = length system.columns in
    let m : ℕ = length system.rows in
    record {
      positive = shares_all n m w (λ s. zero_ℚ <ℚ s.weight) (λ side v s p. subst (λ z. zero_ℚ <ℚ z) (sym p.weight) (lt_of_le-ne_ℚ (h.nonnegative side v) (λ z. p.some (sym z))));
      known = shares_all n m w (λ s. s.variable < variables system) (λ side v s p. subst (λ z. z < variables system) (sym p.variable) (h.known side v p.some));
      there = shares_all n m w (λ s. IsSome (limit_on (variable_limits system s.variable) s.side))
          (λ side v s p. subst (λ z. IsSome (limit_on (variable_limits system z) s.side)) (sym p.variable) (subst (λ z. IsSome (limit_on (variable_limits system v) z)) (sym p.side_is) (h.there side v p.some)));
      cancels = λ k l. shares_sum n m w (factor_at system k) ∙ sym (balance_as system w k (variables system) refl) ∙ level k l;
      contradicts = subst (λ z. z <ℚ zero_ℚ) (right_as system w (variables system) refl ∙ sym (shares_sum n m w (limit_at system))) below;
    }

-- and a combination is such weights
pub balance_of_shares : (system : LinearSystem) (shares : List VariableShare) → IsVariableCombination system shares → (k : ℕ) → k < length system.columns → balance system (weights_of shares) k ≡ zero_ℚ
balance_of_shares system shares shown k l =
    balance_as system (weights_of shares) k (variables system) refl ∙ weights_sum (variables system) (factor_at system k) shares shown.known ∙ shown.cancels k l

pub right_of_shares : (system : LinearSystem) (shares : List VariableShare) → IsVariableCombination system shares → right system (weights_of shares) <ℚ zero_ℚ
right_of_shares system shares shown =
    subst (λ z. z <ℚ zero_ℚ) (sym (right_as system (weights_of shares) (variables system) refl ∙ weights_sum (variables system) (limit_at system) shares shown.known)) shown.contradicts
