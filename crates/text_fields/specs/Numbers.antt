-- Decimal literals in a text.
use Rattle.std.specs.Prelude.{◌≡◌, ◌^◌, pos, ℕ, Bool, false, ◌||◌, not, cond, List, Option, Some, None, option_map}
use Rattle.rational.specs.Rational.{ℚ, whole, neg_ℚ, le_q}
use Rattle.frac128.specs.Literal.{spelling_of, reading}
use Rattle.frac128.specs.declared.literal.Literal.{Literal}
use Rattle.frac128.specs.declared.literal.Literal.TheVariants.{Fits, TooWide}
use Rattle.text_fields.specs.declared.faults.TextFault.{TextFault}
use Rattle.text_fields.specs.declared.faults.TextKind.TheVariants.{BadNumber, NumberWide}

-- what bytes are read as, where they are a literal
abbrev pub literal_in : List ℕ → Option Literal
literal_in bytes = option_map reading (spelling_of bytes)

-- a literal whose value does not fit
abbrev pub IsWide : Literal → Type 0
IsWide (Fits value) = ⊥
IsWide (TooWide huge negative) = Unit {0}

-- the bytes are no literal, and the fault says so of this line
pub record IsBadAt (line : ℕ) (bytes : List ℕ) (fault : TextFault) : Type 0 where
  pub none : literal_in bytes ≡ None
  pub line_is : fault.line ≡ line
  pub kind_is : fault.kind ≡ BadNumber

-- the literal does not fit, and the fault says so of this line
pub record IsWideAt (line : ℕ) (literal : Literal) (fault : TextFault) : Type 0 where
  pub wide : IsWide literal
  pub line_is : fault.line ≡ line
  pub kind_is : fault.kind ≡ NumberWide

-- 10^20
abbrev pub far : ℚ
far = whole (pos (10 ^ 20))

-- a value whose magnitude is at least 10^20
unfoldable pub is_far : ℚ → Bool
is_far value = le_q far value || le_q far (neg_ℚ value)

-- a literal whose magnitude is at least 10^20, which one that does not fit tells of itself
abbrev pub is_huge_literal : Literal → Bool
is_huge_literal (Fits value) = is_far value
is_huge_literal (TooWide huge negative) = huge

-- the bound or the side that a literal says: a huge one says that there is none
abbrev pub bound_of : Literal → Option ℚ
bound_of (Fits value) = cond (is_far value) None (Some value)
bound_of (TooWide huge negative) = None

-- a literal that is no bound: it is not huge, and does not fit
abbrev pub is_wide_bound : Literal → Bool
is_wide_bound (Fits value) = false
is_wide_bound (TooWide huge negative) = not huge
