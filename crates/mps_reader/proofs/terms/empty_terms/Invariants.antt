use Rattle.std.proofs.Common.{◌≡◌, length, []}
use Rattle.std.specs.List.{All}
use Rattle.mps_reader.specs.Gathered.{terms_shown}
use Rattle.mps_reader.proofs.terms.empty_terms.Given as goal

abbrev pub invariant-loop : goal.invariant-loop
invariant-loop l = record {
  len : length l.lists.items ≡ l.counter;
  each : All (λ xs. xs ≡ []) (terms_shown l.lists.items);
}
