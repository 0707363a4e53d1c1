use Rattle.std.proofs.Common.{◌≡◌, length, []}
use Rattle.std.specs.List.{All}
use Rattle.mps_reader.specs.Gathered.{cells_shown}
use Rattle.mps_reader.proofs.terms.empty_cells.Given as goal

abbrev pub invariant-loop : goal.invariant-loop
invariant-loop l = record {
  len : length l.lists.items ≡ l.counter;
  each : All (λ xs. xs ≡ []) (cells_shown l.lists.items);
}
