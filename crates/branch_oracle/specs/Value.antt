-- What contracts see of an oracle by trees.
use Rattle.std.specs.Prelude.{ℕ}
use Rattle.certs.specs.Bound.{without_marks}
use Rattle.certs.specs.Tales.{OracleState, TaleValue}

-- the inner oracle, how many nodes each tree may have, how many the trees took, and what it tells of its calls
pub record BranchValue (B : Type 0) : Type 0 where
  pub inner : B
  pub nodes : ℕ
  pub taken : ℕ
  pub tale : TaleValue

-- What callers see: the inner oracle's program and its pivots for each run, and so many nodes for each tree. A set is served where the inner oracle serves its members that are no marks.
abbrev pub state_with : OracleState → ℕ → TaleValue → OracleState
state_with inner nodes tale = record {
  model = inner.model;
  budgets = record { pivots = inner.budgets.pivots; nodes = nodes };
  serves = λ set. inner.serves (without_marks set);
  tale = tale;
}
