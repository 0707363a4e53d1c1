use Rattle.std.proofs.Common.{◌≡◌, ◌≤◌, ◌-◌, ◌++◌}
use Rattle.certs.specs.Ended.{blocked_multiple}
use Rattle.dictionary.specs.Layouts.{side_of}
use Rattle.dictionary.specs.Value.{tableau_of}
use Rattle.simplex.specs.Combined.{row_shares}
use Rattle.simplex.proofs.combinations.push_rows.Given as goal

-- the shares of the rows passed are there
abbrev pub invariant-loop-variable : goal.invariant-loop-variable
invariant-loop-variable l = record {
  past : l.columns ≤ l.variable;
  items : l.shares.items ≡ l.initial.shares.items ++ row_shares l.columns (l.variable - l.columns) (blocked_multiple (tableau_of l.dictionary) l.missed.variable (side_of l.missed.upper));
}
