-- What the check of a report makes of right answers.
use Rattle.std.specs.Prelude.{◌≡◌, ⊤, List}
use Rattle.lp_model.specs.Program.{Program}
use Rattle.report_text.specs.declared.report.Command.{Command}
use Rattle.report_text.specs.declared.report.Entry.{Entry}
use Rattle.cert_check.specs.declared.outcome.Outcome.{Outcome}
use Rattle.cert_check.specs.declared.outcome.Outcome.TheVariants.{Accepted, Rejected, Wide as TooWide, Memory}
use Rattle.cert_check.specs.Trials.{outcome_of, settled_count, trials, unsettled_count}
use Rattle.analysis.specs.Right.{AreRight}
use Rattle.analysis.specs.Written.{report_of}

-- All entries are accepted, so many of them settled and so many not; or an operation on some line is too wide.
abbrev pub IsAcceptedOrWide : List Entry → Outcome → Type 0
IsAcceptedOrWide entries (Accepted settled unsettled) = (settled ≡ settled_count entries) × (unsettled ≡ unsettled_count entries)
IsAcceptedOrWide entries (Rejected n) = ⊥
IsAcceptedOrWide entries (TooWide n o) = ⊤
IsAcceptedOrWide entries Memory = ⊥

-- A report whose answers are right is not rejected by its own check, whatever program made it.
abbrev pub AcceptedAgainLaw : Type 0
AcceptedAgainLaw = (model : Program) (commands : List Command) (entries : List Entry) → AreRight model commands entries
    → IsAcceptedOrWide entries (outcome_of entries (trials model (report_of model entries)))
