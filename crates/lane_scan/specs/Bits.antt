-- Sets of bits in words.
use Rattle.std.specs.Prelude.{◌≡◌, ◌≢◌, ℕ, ◌*◌, ◌/◌, ◌%◌, ◌<◌, ◌≤◌, ◌==◌, Bool, true, false, List, length, slice_index, bit_and, bit_xor}
use Rattle.std.specs.Int.{bit_at}

-- bit j of word i is set
abbrev pub IsSet : List ℕ → ℕ → ℕ → Type 0
IsSet words i j = bit_at (slice_index words i) j ≡ 1

-- each bit that is set in a is set in b
abbrev pub IsSubset : List ℕ → List ℕ → Type 0
IsSubset a b = (i j : ℕ) → IsSet a i j → IsSet b i j

-- some bit is set in both
abbrev pub Meets : List ℕ → List ℕ → Type 0
Meets a b = (i : ℕ) × (j : ℕ) × IsSet a i j × IsSet b i j

-- what a word has in common with another one, in which the bits of `turn` are turned round
abbrev pub shared : ℕ → ℕ → ℕ → ℕ
shared x y turn = bit_and x (bit_xor y turn)

-- some word shares a bit
abbrev pub SomeShared : List ℕ → List ℕ → ℕ → Type 0
SomeShared a b turn = (k : ℕ) × (k < length a) × (shared (slice_index a k) (slice_index b k) turn ≢ 0)

-- the words from a place on and before another share none
abbrev pub ShareNone : List ℕ → List ℕ → ℕ → ℕ → ℕ → Type 0
ShareNone a b turn from to = (k : ℕ) → from ≤ k → k < to → shared (slice_index a k) (slice_index b k) turn ≡ 0

-- whether the bit at a place is set: the words stand one after another, each with its lowest bit first
abbrev pub bit_of : List ℕ → ℕ → Bool
bit_of words place = bit_at (slice_index words (place / 64)) (place % 64) == 1

-- of the places from `from` on, `place` is the first whose bit is set, or past all words where none is
pub record IsFirstBit (words : List ℕ) (from place : ℕ) : Type 0 where
  pub low : from ≤ place
  pub high : place ≤ 64 * length words
  pub none : (k : ℕ) → from ≤ k → k < place → bit_of words k ≡ false
  pub here : place < 64 * length words → bit_of words place ≡ true
