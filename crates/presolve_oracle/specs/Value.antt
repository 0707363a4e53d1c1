-- What contracts see of an oracle that presolves.
use Rattle.std.specs.Prelude.{ℕ}
use Rattle.lp_model.specs.Program.{Program}
use Rattle.certs.specs.Tales.{OracleState, TaleValue, no_tale}
use Rattle.linear_oracle.specs.Value.{OracleValue, state_of}

-- the oracle that makes the runs of sets that are not eased and of nodes, and what it tells of its calls
pub record PresolveValue : Type 0 where
  pub inner : OracleValue
  pub tale : TaleValue

-- of a program, with so many pivots for each run, that was asked nothing yet
abbrev pub fresh_value : Program → ℕ → PresolveValue
fresh_value model pivots = let runs : OracleValue = record { model = model; pivots = pivots; made = 0; tale = no_tale } in record { inner = runs; tale = no_tale }

-- what callers see: the inner oracle, with a tale of its own
abbrev pub presolve_state : PresolveValue → OracleState
presolve_state o = record (state_of o.inner) { tale = o.tale }
