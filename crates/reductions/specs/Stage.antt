-- Systems while they are reduced.
use Rattle.std.specs.Prelude.{ℕ, Bool, true, false, List, map, slice_set, slice_index_or}
use Rattle.certs.specs.System.{Limits, SystemRow, LinearSystem, no_limits, empty_system_row}

-- A system, and which of its rows are not removed yet. A removed row stays as one without terms and sides, and a removed
-- column as one without limits and factors, so that all keep their numbers.
pub record Stage : Type 0 where
  pub system : LinearSystem
  pub live : List Bool

-- nothing is removed yet
abbrev pub start_stage : LinearSystem → Stage
start_stage system = record { system = system; live = map (λ r. true) system.rows }

-- a row
abbrev pub row_in : LinearSystem → ℕ → SystemRow
row_in system i = slice_index_or system.rows i empty_system_row

-- the limits of a column
abbrev pub limits_in : LinearSystem → ℕ → Limits
limits_in system j = slice_index_or system.columns j no_limits

-- whether a row is not removed yet
abbrev pub is_live : Stage → ℕ → Bool
is_live stage i = slice_index_or stage.live i false

-- without a row
abbrev pub without_row : ℕ → LinearSystem → LinearSystem
without_row i system = record system { rows = slice_set system.rows i empty_system_row }

-- with other limits of a column
abbrev pub with_limits : ℕ → Limits → LinearSystem → LinearSystem
with_limits j limits system = record system { columns = slice_set system.columns j limits }
