-- The first place in a part of a list.
use Rattle.std.proofs.Common.{◌≡◌, ℕ, ◌+◌, ◌-◌, ◌≤◌, Bool, List, length, take, drop, ap, arith, length-drop, length-take}
use Rattle.std.specs.List.{slice_range, position_or_len}
use Rattle.std.proofs.lemmas.List.{take_rest}

pub length-range : (xs : List ℕ) (from to : ℕ) → from ≤ to → to ≤ length xs → from + length (slice_range xs from to) ≡ to
length-range xs from to h l = simp (length-take, length-drop) (omega arith)

-- the rest of a list from a place, as code takes it
pub first-rest : (p : ℕ → Bool) (xs : List ℕ) (from : ℕ) → position_or_len p (take (length xs - from) (drop from xs)) ≡ position_or_len p (drop from xs)
first-rest p xs from = ap (position_or_len p) (take_rest xs from)
