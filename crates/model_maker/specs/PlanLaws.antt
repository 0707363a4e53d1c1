-- What holds of the texts of production plans for their reader.
use Rattle.std.specs.Prelude.{◌≡◌, ℕ, ◌^◌, ◌<◌, List, length}
use Rattle.text_fields.specs.declared.faults.ReadFault.{ReadFault}
use Rattle.text_fields.specs.declared.faults.ReadFault.TheVariants.{Memory}
use Rattle.lp_model.specs.Program.{Program}
use Rattle.lp_reader.specs.Meaning.{DeclaresLp, IsLpStop}
use Rattle.model_maker.specs.PlanText.{IsPlanSize, plan_text}
use Rattle.model_maker.specs.PlanProgram.{plan_program}
use Rattle.model_maker.specs.Making.{IsPlanText}

-- the text of a plan declares its program
abbrev pub DeclaredLaw : Type 0
DeclaredLaw = (n : ℕ) → IsPlanSize n → DeclaresLp (plan_text n) (plan_program n)

-- the bytes are read as the program, and as nothing else
pub record IsReadAs (program : Program) (bytes : List ℕ) : Type 0 where
  -- they may be read
  pub few : length bytes < 2 ^ 31
  -- they declare the program
  pub declares : DeclaresLp bytes program
  -- and no other one
  pub alone : (declared : Program) → DeclaresLp bytes declared → declared ≡ program
  -- the reading stops for want of memory alone
  pub never_refused : (fault : ReadFault) → IsLpStop bytes fault → fault ≡ Memory

-- the text of a plan is read as its program
abbrev pub ReadLaw : Type 0
ReadLaw = (n : ℕ) (bytes : List ℕ) → IsPlanText n bytes → IsReadAs (plan_program n) bytes
