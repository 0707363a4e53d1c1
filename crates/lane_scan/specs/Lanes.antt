-- The first of a kind among the bytes of a text, and the lowest bit of a mask.
use Rattle.std.specs.Prelude.{◌≡◌, ℕ, ◌<◌, ◌≤◌, ◌==◌, if◌then◌else◌, Bool, true, false, List, slice_index}
use Rattle.std.specs.Int.{w64, trailing_zeros}

-- of the places from `from` on and before `to`, `place` is the first whose byte is of the kind, or `to` where none is
pub record IsFirst (kind : ℕ → Bool) (bytes : List ℕ) (from to place : ℕ) : Type 0 where
  pub low : from ≤ place
  pub high : place ≤ to
  pub none : (k : ℕ) → from ≤ k → k < place → kind (slice_index bytes k) ≡ false
  pub here : place < to → kind (slice_index bytes place) ≡ true

-- the place of the lowest bit that is set, or n where none is
abbrev pub lowest_or : ℕ → ℕ → ℕ
lowest_or n mask = if mask == 0 then n else trailing_zeros w64 mask
