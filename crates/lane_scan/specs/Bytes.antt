-- Kinds of bytes, and where the first of a kind stands.
use Rattle.std.specs.Prelude.{ℕ, ◌+◌, ◌==◌, ◌&&◌, ◌||◌, not, nat_le, Bool, List, drop, slice_range}
use Rattle.std.specs.List.{position_or_len}

-- the byte that ends a line
abbrev pub is_end : ℕ → Bool
is_end b = b == 10

-- a blank
abbrev pub is_blank : ℕ → Bool
is_blank b = (b == 32) || ((b == 9) || (b == 13))

-- a byte that is no blank
abbrev pub is_nonblank : ℕ → Bool
is_nonblank b = not (is_blank b)

-- a byte that a text may have: a shown one, a blank, or the end of a line
abbrev pub is_allowed : ℕ → Bool
is_allowed b = (b == 9) || ((b == 10) || ((b == 13) || (nat_le 32 b && nat_le b 126)))

-- a byte that a text may not have
abbrev pub is_foreign : ℕ → Bool
is_foreign b = not (is_allowed b)

-- the first place from `from` on where an end stands, or the length
abbrev pub end_from : List ℕ → ℕ → ℕ
end_from bytes from = from + position_or_len is_end (drop from bytes)

-- the first place from `from` on that has no blank, or `to`
abbrev pub nonblank_within : List ℕ → ℕ → ℕ → ℕ
nonblank_within bytes from to = from + position_or_len is_nonblank (slice_range bytes from to)

-- the first place from `from` on that has a foreign byte, or `to`
abbrev pub foreign_within : List ℕ → ℕ → ℕ → ℕ
foreign_within bytes from to = from + position_or_len is_foreign (slice_range bytes from to)
