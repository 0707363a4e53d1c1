use Rattle.std.proofs.Common.{◌≡◌, ◌≤◌, ◌<◌, ◌+◌, ℕ, length, get_or}
use Rattle.rational.specs.Rational.{zero_ℚ}
use Rattle.lp_model.specs.Satisfaction.{values_at}
use Rattle.certs.specs.Packed.{HasNonzeros}
use Rattle.cert_check.specs.Sparse.{nonzero_count}
use Rattle.cert_check.proofs.room.clear.Given as goal

-- the values of the columns so far are 0 and counted, and each that is not 0 is of one of the columns
abbrev pub invariant-loop-column : goal.invariant-loop-column
invariant-loop-column l = record {
  sized : length l.values ≡ length l.fn.values;
  few : l.count ≤ l.column-index;
  counted : l.count + nonzero_count l.values ≡ nonzero_count l.fn.values;
  cleared : (k d : ℕ) → k < l.column-index → values_at l.values (get_or l.columns k d) ≡ zero_ℚ;
  nonzeros : HasNonzeros l.values l.columns;
}
