use Rattle.std.proofs.Common.{◌≡◌, drop}
use Rattle.lp_model.specs.Satisfaction.{values_at}
use Rattle.certs.specs.Combination.{source_form}
use Rattle.certs.specs.Checks.{every, is_zero_on}
use Rattle.certs.proofs.sums.are_zero.Given as goal

-- the shares left decide
abbrev pub invariant-loop-share : goal.invariant-loop-share
invariant-loop-share l =
    every (λ s. is_zero_on (values_at l.sums) (source_form l.model s.source)) (drop l.share-index l.shares)
    ≡ every (λ s. is_zero_on (values_at l.sums) (source_form l.model s.source)) l.shares
