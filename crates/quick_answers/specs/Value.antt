-- What contracts see of a quick oracle.
use Rattle.std.specs.Prelude.{ℕ, ◌+◌, ◌*◌, ◌≤◌, cond, List}
use Rattle.lp_model.specs.declared.members.Member.{Member}
use Rattle.certs.specs.Answers.{is_linear}
use Rattle.certs.specs.Tales.{OracleState, TaleValue}

-- The inner oracle, how many pivots the quick runs of an ask without marks or of a node may make, how many nodes a quick tree may take, how many pivots were allowed so far, and what it tells of its calls
pub record QuickValue (O : Type 0) : Type 0 where
  pub inner : O
  pub pivots : ℕ
  pub nodes : ℕ
  pub allowed : ℕ
  pub tale : TaleValue

-- what callers see: the inner oracle's program, budgets and sets, with its own tale
abbrev pub state_with : OracleState → TaleValue → OracleState
state_with inner tale = record inner { tale = tale }

-- how many pivots the quick runs of an ask for a set may make: so many, or where it has a mark so many for each node
abbrev pub most_pivots : List Member → ℕ → ℕ → ℕ
most_pivots set pivots nodes = cond (is_linear set) pivots (pivots * nodes)

-- of the numbers allowed in all before and now: no more than so many for each node that was taken off those left
abbrev pub AllowsEach : ℕ → ℕ → ℕ → ℕ → ℕ → Type 0
AllowsEach before now pivots left rest = (before ≤ now) × (now + pivots * rest ≤ before + pivots * left)
