-- Why a pivot stops a run.
use Rattle.std.proofs.Common.{◌≡◌, ℕ, false, Some, Err}
use Rattle.frac128.specs.declared.Wide.{Wide as Operation}
use Rattle.frac128.specs.Calculation.{first_wide}
use Rattle.certs.specs.Turns.{pivot_operations}
use Rattle.dictionary.specs.declared.dictionaries.PivotStop.{PivotStop}
use Rattle.dictionary.specs.declared.dictionaries.PivotStop.TheVariants.{Wide, Memory}
use Rattle.dictionary.specs.Stops.{IsPivotStop}
use Rattle.dictionary.specs.Value.{DictionaryValue, tableau_of}
use Rattle.simplex.specs.declared.settling.RunStop.{RunStop}
use Rattle.simplex.specs.declared.settling.RunStop.TheVariants.{Wide as TooWide, Memory as NoMemory}
use Rattle.simplex.specs.Ends.{told_as, IsSpent}
use Rattle.simplex.specs.ImproveEnds.{IsSpent as IsImproveSpent}

-- what holds where it is too wide, and where memory is refused, holds where it stops
pub by_stop : (m : ℕ) (old new : DictionaryValue) (i j turn : ℕ) (P : RunStop → Type 0) (stop : PivotStop) → IsPivotStop m old new i j stop
    → ((o : Operation) → first_wide m (pivot_operations (tableau_of old) i j) ≡ Some o → new.usable ≡ false → P (TooWide turn o)) → (new ≡ old → P NoMemory) → P (told_as turn stop)
by_stop m old new i j turn P (Wide o) h wide memory = wide o h.0 h.1
by_stop m old new i j turn P Memory h wide memory = memory h

-- it is never that no pivot is left
pub not_spent : (turn : ℕ) (stop : PivotStop) → ¬ (IsSpent (Err (told_as turn stop)))
not_spent turn (Wide o) h = h
not_spent turn Memory h = h

pub improve_not_spent : (turn : ℕ) (stop : PivotStop) → ¬ (IsImproveSpent (Err (told_as turn stop)))
improve_not_spent turn (Wide o) h = h
improve_not_spent turn Memory h = h
