-- What is answered where nothing, or something, stops the check.
use Rattle.std.proofs.Common.{◌≡◌, ◌⊎◌, refl, sym, ◌∙◌, ap, ℕ, List, [], ◌∷◌, Option, Some, None, inl, inr}
use Rattle.certs.specs.declared.evidence.Checked.{Checked}
use Rattle.certs.specs.declared.evidence.Checked.TheVariants.{Yes, No, Wide}
use Rattle.report_text.specs.declared.report.Entry.{Entry}
use Rattle.cert_check.specs.declared.outcome.Stop.{Stop}
use Rattle.cert_check.specs.declared.outcome.Stop.TheVariants.{Rejected, Wide as TooWide, Memory}
use Rattle.cert_check.specs.declared.outcome.Outcome.{Outcome}
use Rattle.cert_check.specs.declared.outcome.Outcome.TheVariants.{Accepted, Memory as EndsMemory}
use Rattle.cert_check.specs.Trials.{Trial, settled_count, unsettled_count, outcome_of, unless_failed}
use Rattle.cert_check.specs.Stops.{first_stop, stop_or, IsStop, ending}

-- what a stop, or none, is answered as
abbrev pub ends_as : List Entry → Option Stop → Outcome
ends_as entries None = Accepted (settled_count entries) (unsettled_count entries)
ends_as entries (Some s) = ending s

by_found : (entries : List Entry) (n : ℕ) (found : Checked) (first : Option Stop) (rest : Outcome) → rest ≡ ends_as entries first → unless_failed n found rest ≡ ends_as entries (stop_or n found first)
by_found entries n Yes first rest e = e
by_found entries n No first rest e = refl
by_found entries n (Wide o) first rest e = refl

pub outcome_is : (entries : List Entry) (trials : List Trial) → outcome_of entries trials ≡ ends_as entries (first_stop trials)
outcome_is entries [] = refl
outcome_is entries (t ∷ trials) = by_found entries t.line t.found (first_stop trials) (outcome_of entries trials) (outcome_is entries trials)

pub stop_is : (entries : List Entry) (trials : List Trial) (s : Stop) → IsStop (first_stop trials) s → (ending s ≡ EndsMemory) ⊎ (ending s ≡ outcome_of entries trials)
stop_is entries trials (Rejected n) h = inr (sym (outcome_is entries trials ∙ ap (ends_as entries) h))
stop_is entries trials (TooWide n o) h = inr (sym (outcome_is entries trials ∙ ap (ends_as entries) h))
stop_is entries trials Memory h = inl refl
