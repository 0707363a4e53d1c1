-- The model that a file declares, by the format of its name.
use Rattle.std.specs.Prelude.{◌≡◌, ℕ, ◌-◌, cond, List, length, drop, codes, Option, Some, None}
use Rattle.std.specs.Str.{str_eq_ignore_ascii_case}
use Rattle.text_fields.specs.declared.faults.ReadStop.{ReadStop}
use Rattle.text_fields.specs.declared.faults.ReadFault.{ReadFault}
use Rattle.text_fields.specs.Faults.{IsFaultOf}
use Rattle.lp_model.specs.Program.{Program, IsWellFormed}
use Rattle.mps_reader.specs.Faults.{mps_fault}
use Rattle.mps_reader.specs.Meaning.{mps_program}
use Rattle.lp_reader.specs.Meaning.{lp_fault, lp_program}
pub use Rattle.model_files.specs.declared.formats.Format.{Format}
pub use Rattle.model_files.specs.declared.formats.Format.TheVariants.{Mps, Lp}

-- a name that ends with `.lp`, in any case of letters, is that of an LP file; every other is that of an MPS file
unfoldable pub format_of : List ℕ → Format
format_of name = cond (str_eq_ignore_ascii_case (drop (length name - 3) name) (codes ".lp")) Lp Mps

-- why the bytes declare no program in a format: their first fault
abbrev pub model_fault : Format → List ℕ → Option ReadStop
model_fault Mps bytes = mps_fault bytes
model_fault Lp bytes = lp_fault bytes

-- the program that they declare
abbrev pub format_program : Format → List ℕ → Program
format_program Mps bytes = mps_program bytes
format_program Lp bytes = lp_program bytes

-- the bytes of a file of this name declare the program
pub record Declares (name bytes : List ℕ) (program : Program) : Type 0 where
  pub no_fault : model_fault (format_of name) bytes ≡ None
  pub same : program ≡ format_program (format_of name) bytes

-- why they are refused; want of memory may come at any time
abbrev pub IsRefusal : List ℕ → List ℕ → ReadFault → Type 0
IsRefusal name bytes fault = IsFaultOf (model_fault (format_of name) bytes) fault

-- a file declares at most one program; then it has no fault, and the program is well formed
pub record OneMeaningLaw : Type 0 where
  pub one : (name bytes : List ℕ) (p q : Program) → Declares name bytes p → Declares name bytes q → p ≡ q
  pub no_fault : (name bytes : List ℕ) (p : Program) (stop : ReadStop) → Declares name bytes p → ¬ (model_fault (format_of name) bytes ≡ Some stop)
  pub well_formed : (name bytes : List ℕ) (p : Program) → Declares name bytes p → IsWellFormed p
