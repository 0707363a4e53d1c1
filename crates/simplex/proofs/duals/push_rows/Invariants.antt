use Rattle.std.proofs.Common.{◌≡◌, ◌≤◌, ◌-◌, ◌++◌}
use Rattle.simplex.specs.Duals.{objective_multiple}
use Rattle.dictionary.specs.Value.{tableau_of}
use Rattle.simplex.specs.Combined.{row_shares}
use Rattle.simplex.proofs.duals.push_rows.Given as goal

-- the shares of the rows passed are there
abbrev pub invariant-loop-variable : goal.invariant-loop-variable
invariant-loop-variable l = record {
  past : l.columns ≤ l.variable;
  items : l.shares.items ≡ l.initial.shares.items ++ row_shares l.columns (l.variable - l.columns) (objective_multiple (tableau_of l.dictionary));
}
