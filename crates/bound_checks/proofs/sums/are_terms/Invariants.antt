use Rattle.std.proofs.Common.{◌≡◌, drop, length}
use Rattle.certs.specs.Checks.{every_below}
use Rattle.bound_checks.proofs.Factors.{matches}
use Rattle.bound_checks.proofs.sums.are_terms.Given as goal

-- the sums as they are, beside the terms left, decide
abbrev pub invariant-loop-term : goal.invariant-loop-term
invariant-loop-term l =
    every_below (matches l.model (drop l.term-index l.terms) l.sums) (length l.fn.sums) ≡ every_below (matches l.model l.terms l.fn.sums) (length l.fn.sums)
