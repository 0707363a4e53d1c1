use Rattle.std.proofs.Common.{◌≡◌, take}
use Rattle.dictionary.specs.Rows.{bounds_of}
use Rattle.dictionary.proofs.widening.widened_bounds.Given as goal

-- the limits passed stand there
abbrev pub invariant-loop-one : goal.invariant-loop-one
invariant-loop-one g l = bounds_of (λ f. f) l.wide.items ≡ bounds_of g.N.Exact.value (take l.one-index l.bounds)
