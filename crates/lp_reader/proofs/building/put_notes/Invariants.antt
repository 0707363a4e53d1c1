use Rattle.std.proofs.Common.{◌≡◌}
use Rattle.lp_reader.specs.Building.{notes_listed}
use Rattle.lp_reader.proofs.building.put_notes.Given as goal

abbrev pub invariant-loop-index : goal.invariant-loop-index
invariant-loop-index l = l.model ≡ record l.fn.model { notes = notes_listed l.columns.bounds.items l.index }
