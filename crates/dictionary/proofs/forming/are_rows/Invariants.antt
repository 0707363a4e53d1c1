use Rattle.std.proofs.Common.{◌≡◌, drop, take}
use Rattle.std.specs.Prelude.{All}
use Rattle.frac128.specs.Limit.{limit}
use Rattle.lp_model.specs.declared.parts.Row.{Row}
use Rattle.certs.specs.Checks.{every}
use Rattle.certs.specs.Rows.{row_of}
use Rattle.dictionary.specs.Starts.{FitForm, FitLimits}
use Rattle.dictionary.specs.Forming.{passes}
use Rattle.dictionary.proofs.forming.are_rows.Given as goal

-- the rows left decide, and those before them fit
abbrev pub invariant-loop-row : goal.invariant-loop-row
invariant-loop-row l = record {
  left : every (λ (r : Row). passes l.columns (row_of r)) (drop l.row-index l.rows) ≡ every (λ (r : Row). passes l.columns (row_of r)) l.rows;
  fits : All (λ (r : Row). FitLimits limit (row_of r).limits) (take l.row-index l.rows);
  forms_fit : All (λ (r : Row). FitForm limit r.terms) (take l.row-index l.rows);
}
