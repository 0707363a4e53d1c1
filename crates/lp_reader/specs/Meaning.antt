-- What the bytes of an LP text stand for: a program, or the first fault.
use Rattle.std.specs.Prelude.{◌≡◌, ℕ, List, [], Option, None}
use Rattle.std.specs.Option.{option_or}
use Rattle.text_fields.specs.declared.faults.ReadStop.{ReadStop}
use Rattle.text_fields.specs.declared.faults.ReadFault.{ReadFault}
use Rattle.text_fields.specs.Faults.{IsFaultOf}
use Rattle.lp_model.specs.Program.{Program}
use Rattle.lp_statements.specs.Script.{script_of}
use Rattle.lp_reader.specs.Faults.{first_fault}
use Rattle.lp_reader.specs.Program.{program_of}

-- the first fault: of what the statements mean, or else of the form of the one after them
unfoldable pub lp_fault : List ℕ → Option ReadStop
lp_fault bytes = option_or (first_fault [] (script_of bytes).found) (script_of bytes).fault

-- the program that the statements declare
unfoldable pub lp_program : List ℕ → Program
lp_program bytes = program_of (script_of bytes).found

-- the bytes declare this program
pub record DeclaresLp (bytes : List ℕ) (program : Program) : Type 0 where
  pub no_fault : lp_fault bytes ≡ None
  pub same : program ≡ lp_program bytes

-- this is the first fault; want of memory may come at any time
abbrev pub IsLpStop : List ℕ → ReadFault → Type 0
IsLpStop bytes fault = IsFaultOf (lp_fault bytes) fault
