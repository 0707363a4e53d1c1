-- Why a file was not fetched.
use Rattle.std.specs.Prelude.{◌≡◌, ◌<◌, ⊤, ℕ, List, length, Option, IfSome}
use Rattle.iis_edge.specs.Causes.{Rose}
use Rattle.iis_run.specs.Limits.{limit_of}
use Rattle.iis_run.specs.declared.endings.Which.{Which}
use Rattle.iis_run.specs.declared.endings.Ending.{Ending}
use Rattle.iis_run.specs.declared.endings.Ending.TheVariants.{ReadFault, TooLong, Memory}

-- the count of faults of its name has risen; or it is longer than its limit, where it is told; or there is want of memory
abbrev pub IsFetchStop : Option (List ℕ) → ℕ → ℕ → Which → Ending → Type 0
IsFetchStop file before now which (ReadFault named) = (named ≡ which) × Rose before now
IsFetchStop file before now which (TooLong named) = (named ≡ which) × IfSome file (λ b. limit_of which < length b)
IsFetchStop file before now which Memory = ⊤
IsFetchStop file before now which _ = ⊥
