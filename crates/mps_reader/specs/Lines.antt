-- What the reading of the lines so far has told.
use Rattle.std.specs.Prelude.{◌≡◌, ⊤, ℕ, List, ◌++◌, map, None, Result, MatchResult}
use Rattle.text_fields.specs.declared.faults.ReadFault.{ReadFault}
use Rattle.text_fields.specs.Faults.{IsFaultOf}
use Rattle.mps_lines.specs.Steps.{Step, placed}
use Rattle.mps_reader.specs.declared.tables.Reader.{Reader}
use Rattle.mps_reader.specs.Faults.{first_fault}
use Rattle.mps_reader.specs.Held.{Holds}

-- the steps of a line are taken, and are kept with those before them, exactly where they have no fault after these
abbrev pub TakesAll : Reader → Reader → ℕ → List Step → Result ⊤ ReadFault → Type 0
TakesAll old new line more result = (steps : List Step) → Holds old steps → MatchResult result
    (λ _. (first_fault steps (map (placed line) more) ≡ None) × Holds new (steps ++ more))
    (IsFaultOf (first_fault steps (map (placed line) more)))
