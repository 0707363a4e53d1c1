-- Why a pivot stops.
use Rattle.std.specs.Prelude.{◌≡◌, ℕ, false, Some}
use Rattle.frac128.specs.Calculation.{first_wide}
use Rattle.certs.specs.Turns.{pivot_operations}
use Rattle.dictionary.specs.declared.dictionaries.PivotStop.{PivotStop}
use Rattle.dictionary.specs.declared.dictionaries.PivotStop.TheVariants.{Wide, Memory}
use Rattle.dictionary.specs.Value.{DictionaryValue, tableau_of}

-- this operation is the first of the pivot's that is too wide, and the dictionary must not be used; or memory was refused, and the dictionary is as it was
abbrev pub IsPivotStop : ℕ → DictionaryValue → DictionaryValue → ℕ → ℕ → PivotStop → Type 0
IsPivotStop most old new leaving entering (Wide o) = (first_wide most (pivot_operations (tableau_of old) leaving entering) ≡ Some o) × (new.usable ≡ false)
IsPivotStop most old new leaving entering Memory = new ≡ old
