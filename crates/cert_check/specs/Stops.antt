-- Where the trials of a part of a report stop the check.
use Rattle.std.specs.Prelude.{◌≡◌, ⊤, ℕ, List, [], ◌∷◌, Option, Some, None, Result, Ok, Err}
use Rattle.certs.specs.declared.evidence.Checked.{Checked}
use Rattle.certs.specs.declared.evidence.Checked.TheVariants.{Yes, No, Wide}
use Rattle.cert_check.specs.declared.outcome.Stop.{Stop}
use Rattle.cert_check.specs.declared.outcome.Stop.TheVariants.{Rejected, Wide as TooWide, Memory}
use Rattle.cert_check.specs.declared.outcome.Outcome.{Outcome}
use Rattle.cert_check.specs.declared.outcome.Outcome.TheVariants.{Rejected as EndsRejected, Wide as EndsWide, Memory as EndsMemory}
use Rattle.cert_check.specs.Trials.{Trial}

-- what a line makes of the stop: a yes leaves it to what follows
abbrev pub stop_or : ℕ → Checked → Option Stop → Option Stop
stop_or n Yes rest = rest
stop_or n No rest = Some (Rejected n)
stop_or n (Wide o) rest = Some (TooWide n o)

-- the first line that does not pass stops the check
abbrev pub first_stop : List Trial → Option Stop
first_stop [] = None
first_stop (t ∷ rest) = stop_or t.line t.found (first_stop rest)

-- the check stops as it is to, or memory was refused
abbrev pub IsStop : Option Stop → Stop → Type 0
IsStop first (Rejected n) = first ≡ Some (Rejected n)
IsStop first (TooWide n o) = first ≡ Some (TooWide n o)
IsStop first Memory = ⊤

-- nothing stops the check, or this does
abbrev pub Says : Option Stop → Result (Unit {0}) Stop → Type 0
Says first (Ok done) = first ≡ None
Says first (Err stop) = IsStop first stop

-- what a stop is answered as
abbrev pub ending : Stop → Outcome
ending (Rejected n) = EndsRejected n
ending (TooWide n o) = EndsWide n o
ending Memory = EndsMemory
