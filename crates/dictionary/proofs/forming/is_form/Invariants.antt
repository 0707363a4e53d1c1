use Rattle.std.proofs.Common.{◌≡◌, drop, take}
use Rattle.frac128.specs.Limit.{limit}
use Rattle.dictionary.specs.Starts.{FitForm}
use Rattle.dictionary.specs.Forming.{ascends}
use Rattle.dictionary.proofs.forming.is_form.Given as goal

-- the terms left decide, and those before them fit
abbrev pub invariant-loop-term : goal.invariant-loop-term
invariant-loop-term l = record {
  left : ascends l.columns l.least (drop l.term-index l.terms) ≡ ascends l.columns 0 l.terms;
  fits : FitForm limit (take l.term-index l.terms);
}
