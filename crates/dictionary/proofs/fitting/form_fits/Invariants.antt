use Rattle.std.proofs.Common.{take}
use Rattle.frac128.specs.Limit.{narrow_limit}
use Rattle.dictionary.specs.Starts.{FitForm}
use Rattle.dictionary.proofs.fitting.form_fits.Given as goal

-- those passed fit
abbrev pub invariant-loop-term : goal.invariant-loop-term
invariant-loop-term l = FitForm narrow_limit (take l.term-index l.terms)
