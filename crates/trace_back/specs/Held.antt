-- Weights that the code holds, and what it writes to them.
use Rattle.std.specs.Prelude.{◌≡◌, ℕ, ◌+◌, ◌==◌, ◌^◌, ◌<◌, ◌&&◌, cond, List, [], ◌∷◌, Option, length, All}
use Rattle.rational.specs.Rational.{ℚ, zero_ℚ}
use Rattle.lp_model.specs.declared.members.Side.{Side}
use Rattle.lp_model.specs.declared.members.Side.TheVariants.{Lo, Up}
use Rattle.lp_model.specs.Satisfaction.{values_at}
use Rattle.lp_model.specs.declared.members.Member.{Member}
use Rattle.lp_model.specs.declared.members.Member.TheVariants.{RowLo, RowUp, Lower, Upper, Whole}
use Rattle.certs.specs.Combination.{source_side}
use Rattle.certs.specs.System.{VariableShare}
use Rattle.certs.specs.declared.evidence.Share.{Share}
use Rattle.certs.specs.declared.evidence.Source.{Source}
use Rattle.certs.specs.declared.evidence.Source.TheVariants.{Member as Of, Below, Above}
use Rattle.reductions.specs.Limited.{is_side}
use Rattle.reductions.specs.Back.{Weights, maker, unless_made}
use Rattle.trace_back.specs.declared.weights.Weights.{Weights as Held}

-- what is held, as weights: 0 past the last variable
abbrev pub weights_in : Held → Weights
weights_in held Lo v = values_at held.lower.items v
weights_in held Up v = values_at held.upper.items v

-- a weight on each side for each column and each row
pub record IsHeld (held : Held) : Type 0 where
  pub lower : length held.lower.items ≡ held.columns + held.rows
  pub upper : length held.upper.items ≡ held.columns + held.rows
  pub few : held.columns + held.rows < 2 ^ 31

-- these weights are held now, of a system as large
pub record IsNow (old new : Held) (w : Weights) : Type 0 where
  pub columns : new.columns ≡ old.columns
  pub rows : new.rows ≡ old.rows
  pub held : IsHeld new
  pub weights_are : weights_in new ≡ w

-- ---- what is written
-- the first number on the lower side, and the second on the upper one
abbrev pub of_side : ℚ → ℚ → Side → ℚ
of_side lower upper Lo = lower
of_side lower upper Up = upper

-- a number on one side, and 0 on the other
abbrev pub on_side : Side → ℚ → Side → ℚ
on_side one q side = cond (is_side side one) q zero_ℚ

-- other weights on both sides of a variable
abbrev pub with_sides : ℕ → (Side → ℚ) → Weights → Weights
with_sides k q w side v = cond (v == k) (q side) (w side v)

-- another weight of one limit
abbrev pub with_limit : Side → ℕ → ℚ → Weights → Weights
with_limit one k q w side v = cond (is_side one side && (k == v)) q (w side v)

-- 0 for each limit of a variable that was made
abbrev pub unmade : ℕ → Option Side → Option Side → Weights → Weights
unmade k lower upper w side v = cond (v == k) (unless_made (maker lower upper side) (w side v)) (w side v)

-- ---- shares
-- the variable that a member is of, in a system of so many columns
abbrev pub member_variable : ℕ → Member → ℕ
member_variable columns (RowLo i) = columns + i
member_variable columns (RowUp i) = columns + i
member_variable columns (Lower j) = j
member_variable columns (Upper j) = j
member_variable columns (Whole j) = j

-- and a source
abbrev pub source_variable : ℕ → Source → ℕ
source_variable columns (Of m) = member_variable columns m
source_variable columns (Below j) = j
source_variable columns (Above j) = j

-- the weights after those of shares are written, the first share first
abbrev pub written : ℕ → List Share → Weights → Weights
written columns [] w = w
written columns (s ∷ shares) w = written columns shares (with_limit (source_side s.source) (source_variable columns s.source) s.weight w)

-- the weights after those of shares are written, each with 0 for the other limit of its variable, the last share first
abbrev pub shares_written : List VariableShare → Weights → Weights
shares_written [] w = w
shares_written (s ∷ shares) w = with_sides s.variable (on_side s.side s.weight) (shares_written shares w)

-- the shares are of columns
abbrev pub AreColumns : ℕ → List VariableShare → Type 0
AreColumns columns shares = All (λ s. s.variable < columns) shares
