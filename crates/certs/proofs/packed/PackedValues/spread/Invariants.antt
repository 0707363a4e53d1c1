use Rattle.std.proofs.Common.{◌≡◌, ◌≢◌, ◌≤◌, ◌<◌, ℕ, length, drop, All, Contains}
use Rattle.rational.specs.Rational.{zero_ℚ}
use Rattle.lp_model.specs.Satisfaction.{values_at}
use Rattle.certs.specs.Packed.{unpacked}
use Rattle.certs.proofs.packed.PackedValues.spread.Given as goal

-- Before `at` the values stand, and their columns are told; from there on are zeros, and the values that are left are still to come.
abbrev pub invariant-loop-entry : goal.invariant-loop-entry
invariant-loop-entry l = record {
  within : l.at ≤ length l.self;
  sized : length l.values ≡ length l.self;
  left : (rest : ℕ) × (drop l.at l.self ≡ unpacked (drop l.entry-index l.entry-items) rest);
  before : (j : ℕ) → j < l.at → values_at l.values j ≡ values_at l.self j;
  behind : (j : ℕ) → l.at ≤ j → values_at l.values j ≡ zero_ℚ;
  told : (j : ℕ) → j < l.at → values_at l.self j ≢ zero_ℚ → Contains l.columns.items j;
  columns : All (λ j. j < length l.self) l.columns.items;
}
