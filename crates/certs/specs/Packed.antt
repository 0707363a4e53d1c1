-- What is kept of a point: its values that are not 0, in order.
use Rattle.std.specs.Prelude.{◌≢◌, ℕ, List, [], ◌∷◌, ◌++◌, replicate, Contains}
use Rattle.rational.specs.Rational.{ℚ, zero_ℚ}
use Rattle.lp_model.specs.Satisfaction.{values_at}
use Rattle.certs.specs.declared.packed.Entry.{Entry}

-- The values: each kept one behind its zeros, and in the end so many zeros more. Those of 0, 0, 5, 0 are kept as 5 behind two zeros, and one zero more.
abbrev pub unpacked : List Entry → ℕ → List ℚ
unpacked [] rest = replicate rest zero_ℚ
unpacked (e ∷ entries) rest = replicate e.zeros zero_ℚ ++ e.value ∷ unpacked entries rest

-- each column whose value is not 0 is among these
abbrev pub HasNonzeros : List ℚ → List ℕ → Type 0
HasNonzeros values columns = (j : ℕ) → values_at values j ≢ zero_ℚ → Contains columns j
