-- Shares, none of them of one limit twice, that are written are the weights of the shares.
use Rattle.std.proofs.Common.{◌≡◌, ◌+◌, ◌-◌, ◌<◌, ◌≤◌, ◌==◌, ◌&&◌, refl, sym, ◌∙◌, ap, subst, ℕ, Bool, true, false, cond, ltb, List, [], ◌∷◌, map, length, drop, get_or, eqb-true, arith}
use Rattle.std.specs.Prelude.{All}
use Rattle.std.proofs.lemmas.Bool.{and_parts, cond_both, cond-false, ltb-false}
use Rattle.std.proofs.lemmas.List.{at_drop_more, drop_all}
use Rattle.std.proofs.lemmas.List.Elements.{All-head, All-tail, All-map, All-weaker}
use Rattle.rational.specs.Rational.{◌+ℚ◌, zero_ℚ}
use Rattle.rational.proofs.Field.{ring_ℚ, x0, x1, ◌:+◌, zero_of}
use Rattle.lp_model.specs.declared.members.Side.{Side}
use Rattle.lp_model.specs.declared.members.Side.TheVariants.{Lo, Up}
use Rattle.lp_model.proofs.Sets.{pairs_head, pairs_tail}
use Rattle.certs.specs.Combination.{source_side}
use Rattle.certs.specs.declared.evidence.Share.{Share}
use Rattle.certs.specs.declared.evidence.Source.TheVariants.{Member as Of}
use Rattle.certs.specs.Named.{bound_of, named, row_side_of}
use Rattle.certs.specs.System.{VariableShare}
use Rattle.reductions.specs.Limited.{is_side}
use Rattle.reductions.specs.Back.{Weights, weights_of}
use Rattle.reductions.proofs.WeightSides.{side_same}
use Rattle.trace_back.specs.Ends.{AreApart, AreLimitShares, AreOnce}
use Rattle.trace_back.specs.Held.{source_variable, with_limit, written}

-- ---- a share that is named
pub named_side : (columns : ℕ) (s : VariableShare) → source_side (named columns s).source ≡ s.side
named_side columns s =
    cond_both (ltb s.variable columns) (bound_of s.variable s.side) (row_side_of (s.variable - columns) s.side) (λ m. source_side (Of m) ≡ s.side) (λ e. bound s.side) (λ e. row s.side)
  where
    bound : (side : Side) → source_side (Of (bound_of s.variable side)) ≡ side
    bound Lo = refl
    bound Up = refl

    row : (side : Side) → source_side (Of (row_side_of (s.variable - columns) side)) ≡ side
    row Lo = refl
    row Up = refl

pub named_variable : (columns : ℕ) (s : VariableShare) → source_variable columns (named columns s).source ≡ s.variable
named_variable columns s =
    cond_both (ltb s.variable columns) (bound_of s.variable s.side) (row_side_of (s.variable - columns) s.side) (λ m. source_variable columns (Of m) ≡ s.variable)
    (λ e. bound s.side) (λ e. row s.side ∙ past (ltb-false s.variable columns e))
  where
    bound : (side : Side) → source_variable columns (Of (bound_of s.variable side)) ≡ s.variable
    bound Lo = refl
    bound Up = refl

    row : (side : Side) → source_variable columns (Of (row_side_of (s.variable - columns) side)) ≡ columns + (s.variable - columns)
    row Lo = refl
    row Up = refl

    past : columns ≤ s.variable → columns + (s.variable - columns) ≡ s.variable
    past h = omega arith

pub known_limits : (columns rows : ℕ) (of : List VariableShare) (shares : List Share) → AreLimitShares columns rows of shares → All (λ s. source_variable columns s.source < columns + rows) shares
known_limits columns rows of shares h =
    subst (All (λ (s : Share). source_variable columns s.source < columns + rows)) (sym h.shares_are)
    (All-map (λ (s : Share). source_variable columns s.source < columns + rows) (named columns) of
    (All-weaker (λ s. s.variable < columns + rows) (λ s. source_variable columns (named columns s).source < columns + rows) (λ s l. subst (λ n. n < columns + rows) (sym (named_variable columns s)) l) of h.known))

-- ---- the loop over shares
module _ (columns : ℕ) (shares : List Share) (i : ℕ) (w : Weights) where
  pub write_more : (s : Share) → i < length shares → s ≡ get_or shares i s → written columns (drop i shares) w ≡ written columns (drop (i + 1) shares) (with_limit (source_side s.source) (source_variable columns s.source) s.weight w)
  write_more s h is = at_drop_more (λ (l : List Share). written columns l w) shares i s h ∙ ap (λ (z : Share). written columns (z ∷ drop (i + 1) shares) w) (sym is)

  pub write_end : length shares ≤ i → written columns (drop i shares) w ≡ w
  write_end h = ap (λ (l : List Share). written columns l w) (drop_all i shares h)

-- ---- what is written in the end
-- the same for limits of variables
limits_written : List VariableShare → Weights → Weights
limits_written [] w = w
limits_written (s ∷ of) w = limits_written of (with_limit s.side s.variable s.weight w)

named_written : (columns : ℕ) (of : List VariableShare) (w : Weights) → written columns (map (named columns) of) w ≡ limits_written of w
unfolding limits_written
named_written columns [] w = refl
named_written columns (s ∷ of) w =
    ap (λ side. written columns (map (named columns) of) (with_limit side (source_variable columns (named columns s).source) s.weight w)) (named_side columns s)
    ∙ ap (λ v. written columns (map (named columns) of) (with_limit s.side v s.weight w)) (named_variable columns s)
    ∙ named_written columns of (with_limit s.side s.variable s.weight w)

-- nothing is taken yet of the share's limit
abbrev IsFree : Weights → VariableShare → Type 0
IsFree w s = w s.side s.variable ≡ zero_ℚ

limits_add : (of : List VariableShare) (w : Weights) → AreOnce of → All (IsFree w) of → (side : Side) (v : ℕ) → limits_written of w side v ≡ w side v +ℚ weights_of of side v
unfolding limits_written
limits_add [] w apart free side v = ring_ℚ (w side v ∷ []) x0 (x0 :+ zero_of) tt
limits_add (s ∷ of) w apart free side v =
    limits_add of (with_limit s.side s.variable s.weight w) (pairs_tail AreApart s of apart) still side v ∙ by (is_side s.side side && (s.variable == v)) refl
  where
    still : All (IsFree (with_limit s.side s.variable s.weight w)) of
    still k d l = cond-false _ s.weight _ (pairs_head AreApart s of apart k d l) ∙ All-tail (IsFree w) s of free k d l

    by : (b : Bool) → (is_side s.side side && (s.variable == v)) ≡ b → cond b s.weight (w side v) +ℚ weights_of of side v ≡ w side v +ℚ (cond b s.weight zero_ℚ +ℚ weights_of of side v)
    by true e =
        let both = and_parts (is_side s.side side) (s.variable == v) e in
        let free_here : w side v ≡ zero_ℚ =
        subst (λ z. w z v ≡ zero_ℚ) (side_same s.side side both.0) (subst (λ z. w s.side z ≡ zero_ℚ) (eqb-true s.variable v both.1) (All-head (IsFree w) s of free)) in
        ring_ℚ (s.weight ∷ weights_of of side v ∷ []) (x0 :+ x1) (zero_of :+ (x0 :+ x1)) tt ∙ ap (λ z. z +ℚ (s.weight +ℚ weights_of of side v)) (sym free_here)
    by false e = ring_ℚ (w side v ∷ weights_of of side v ∷ []) (x0 :+ x1) (x0 :+ (zero_of :+ x1)) tt

pub filled : (columns rows : ℕ) (of : List VariableShare) (shares : List Share) → AreLimitShares columns rows of shares → written columns shares (weights_of []) ≡ weights_of of
filled columns rows of shares h =
    ap (λ (l : List Share). written columns l (weights_of [])) h.shares_are
    ∙ named_written columns of (weights_of [])
    ∙ (λ i. λ side v. (limits_add of (weights_of []) h.once (λ k d l. refl) side v ∙ ring_ℚ (weights_of of side v ∷ []) (zero_of :+ x0) x0 tt) i)
