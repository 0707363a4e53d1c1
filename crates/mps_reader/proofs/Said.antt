-- A result of one step as a result of the steps of a line.
use Rattle.std.proofs.Common.{ℕ, [], ◌∷◌, Result, Ok, Err}
use Rattle.text_fields.specs.declared.faults.ReadFault.{ReadFault}
use Rattle.mps_lines.specs.Steps.{Step}
use Rattle.mps_reader.specs.declared.tables.Reader.{Reader}
use Rattle.mps_reader.specs.Held.{Takes}
use Rattle.mps_reader.specs.Lines.{TakesAll}
use Rattle.mps_reader.proofs.Firsts.{first_is, one_taken}

pub takes_one : (old new : Reader) (line : ℕ) (s : Step) (result : Result (Unit {0}) ReadFault) → Takes old new line s result → TakesAll old new line (s ∷ []) result
takes_one old new line s (Ok u) h = λ steps holds. one_taken line new steps s (h steps holds)
takes_one old new line s (Err found) h = λ steps holds. first_is steps line s [] found (h steps holds)
