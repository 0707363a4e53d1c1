-- Pivots that are allowed, and those that are left.
use Rattle.std.specs.Prelude.{ℕ, ◌+◌, ◌≡◌, ◌≤◌}

-- how many pivots are left, and how many were allowed so far in all
pub record PivotsValue : Type 0 where
  pub left : ℕ
  pub allowed : ℕ

-- no pivot was allowed, and none that was made is given back
abbrev pub IsSpent : PivotsValue → PivotsValue → Type 0
IsSpent before now = (now.allowed ≡ before.allowed) × (now.left ≤ before.left)

-- of the numbers allowed in all before and now: no more than so many were allowed
abbrev pub Allows : ℕ → ℕ → ℕ → Type 0
Allows before now pivots = (before ≤ now) × (now ≤ before + pivots)
