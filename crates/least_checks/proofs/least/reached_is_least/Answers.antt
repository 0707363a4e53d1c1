use Rattle.std.proofs.Common.{[]}
use Rattle.std.proofs.lemmas.List.Elements.{All-nil}
use Rattle.certs.specs.Combination.{KeepsBranch}
use Rattle.certs.specs.Violation.{weighted_violation}
use Rattle.least_checks.proofs.least.reached_is_least.Goals as goal

pub returns : goal.returns
returns c = λ model set shares x satisfies dual. record {
  satisfies = satisfies;
  least = λ y k. c.least_is_bounded.ensures model set [] shares (weighted_violation model set x) dual y k (All-nil (KeepsBranch y));
}
