-- What contracts see of an oracle by runs of plain systems.
use Rattle.std.specs.Prelude.{ℕ}
use Rattle.lp_model.specs.Program.{Program}
use Rattle.certs.specs.Answers.{is_linear}
use Rattle.certs.specs.Tales.{OracleState, TaleValue}

-- the program, the pivots of each run, the pivots that its runs made, and what it tells of its calls
pub record OracleValue : Type 0 where
  pub model : Program
  pub pivots : ℕ
  pub made : ℕ
  pub tale : TaleValue

-- what callers see: it serves the sets without marks, and makes no trees
abbrev pub state_of : OracleValue → OracleState
state_of o = record { model = o.model; budgets = record { pivots = o.pivots; nodes = 0 }; serves = is_linear; tale = o.tale }
