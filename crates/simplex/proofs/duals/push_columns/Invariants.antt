use Rattle.std.proofs.Common.{◌≡◌, ◌++◌}
use Rattle.simplex.specs.Duals.{objective_multiple}
use Rattle.dictionary.specs.Value.{tableau_of}
use Rattle.simplex.specs.Combined.{column_shares}
use Rattle.simplex.proofs.duals.push_columns.Given as goal

-- the shares of the columns passed are there
abbrev pub invariant-loop-variable : goal.invariant-loop-variable
invariant-loop-variable l = record {
  items : l.shares.items ≡ l.initial.shares.items ++ column_shares l.columns l.upper l.variable (objective_multiple (tableau_of l.dictionary));
}
