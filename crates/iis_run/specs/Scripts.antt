-- What the told files of an analysis call for.
use Rattle.std.specs.Prelude.{◌≡◌, ℕ, ◌<◌, ◌≤◌, List, length, Option, Some, None, IfSome}
use Rattle.text_fields.specs.Lines.{lines_of}
use Rattle.report_text.specs.declared.report.Command.{Command}
use Rattle.iis_session.specs.declared.scripts.ScriptStop.{ScriptStop}
use Rattle.iis_session.specs.declared.scripts.ScriptStop.TheVariants.{BadLine, Memory as NoMemory}
use Rattle.iis_session.specs.Scripts.{commands_of, first_bad}
use Rattle.iis_run.specs.Limits.{limit_of}
use Rattle.iis_run.specs.Causes.{IsModel, IsNoModel, CallsFor, IsToldFor}
use Rattle.iis_run.specs.declared.endings.Which.TheVariants.{Model, Script}
use Rattle.iis_run.specs.declared.endings.Ending.{Ending}
use Rattle.iis_run.specs.declared.endings.Ending.TheVariants.{TooLong, Memory, ModelRefused, BadScript}

-- the bytes of a script are within the limit, and are these commands
pub record IsCommands (bytes : List ℕ) (commands : List Command) : Type 0 where
  pub short : length bytes ≤ limit_of Script
  pub right : first_bad (lines_of bytes) ≡ None
  pub said : commands ≡ commands_of (lines_of bytes)

-- within the limit, and the line with this number is the first bad one
pub record IsBadScript (bytes : List ℕ) (n : ℕ) : Type 0 where
  pub short : length bytes ≤ limit_of Script
  pub bad : first_bad (lines_of bytes) ≡ Some n

-- the model of this name and the script, as far as they are told, call for this ending
abbrev pub CallsForScript : List ℕ → Option (List ℕ) → Option (List ℕ) → Ending → Type 0
CallsForScript name model script (TooLong Model) = IfSome model (λ m. limit_of Model < length m)
CallsForScript name model script (TooLong Script) = IfSome model (IsModel name) × IfSome script (λ s. limit_of Script < length s)
CallsForScript name model script (ModelRefused stop) = IfSome model (λ m. IsNoModel name m stop)
CallsForScript name model script (BadScript n) = IfSome model (IsModel name) × IfSome script (λ s. IsBadScript s n)
CallsForScript name model script _ = ⊥

-- a script that was not read
abbrev pub script_ending : ScriptStop → Ending
script_ending (BadLine n) = BadScript n
script_ending NoMemory = Memory

-- Told files call for one ending only; and a model and a script that reads call for none.
pub record OneEndingLaw : Type 0 where
  pub checked : (name : List ℕ) (model report : Option (List ℕ)) (e f : Ending) → IsToldFor model report e → CallsFor name model report e → CallsFor name model report f → e ≡ f
  pub analysed : (name : List ℕ) (model script : Option (List ℕ)) (e f : Ending) → IsToldFor model script e → CallsForScript name model script e → CallsForScript name model script f → e ≡ f
  pub readable : (name model script : List ℕ) (commands : List Command) (e : Ending) → IsModel name model → IsCommands script commands → ¬ (CallsForScript name (Some model) (Some script) e)
