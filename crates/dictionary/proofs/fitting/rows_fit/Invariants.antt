use Rattle.std.proofs.Common.{take}
use Rattle.std.specs.Prelude.{All}
use Rattle.frac128.specs.Limit.{narrow_limit}
use Rattle.certs.specs.Rows.{row_of}
use Rattle.dictionary.specs.Starts.{FitForm, FitLimits}
use Rattle.dictionary.proofs.fitting.rows_fit.Given as goal

-- those passed fit
abbrev pub invariant-loop-row : goal.invariant-loop-row
invariant-loop-row l = record {
  limits : All (λ r. FitLimits narrow_limit (row_of r).limits) (take l.row-index l.rows);
  forms : All (λ r. FitForm narrow_limit r.terms) (take l.row-index l.rows);
}
