-- A report on no line of which something fails is accepted, or an operation is too wide.
use Rattle.std.proofs.Common.{◌≡◌, refl, List, [], ◌∷◌}
use Rattle.std.proofs.lemmas.List.Elements.{All-head, All-tail}
use Rattle.certs.specs.declared.evidence.Checked.{Checked}
use Rattle.certs.specs.declared.evidence.Checked.TheVariants.{Yes, No, Wide}
use Rattle.report_text.specs.declared.report.Entry.{Entry}
use Rattle.cert_check.specs.Trials.{Trial, outcome_of, unless_failed}
use Rattle.iis_run.specs.Again.{IsAcceptedOrWide}
use Rattle.iis_run.proofs.Unfailed.{IsUnfailed, AreUnfailed}

pub accepted_or_wide : (entries : List Entry) (list : List Trial) → AreUnfailed list → IsAcceptedOrWide entries (outcome_of entries list)
accepted_or_wide entries [] h = (refl, refl)
accepted_or_wide entries (t ∷ list) h = by t.found (All-head IsUnfailed t list h) (accepted_or_wide entries list (All-tail IsUnfailed t list h))
  where
    by : (found : Checked) → (found ≡ No → ⊥) → IsAcceptedOrWide entries (outcome_of entries list) → IsAcceptedOrWide entries (unless_failed t.line found (outcome_of entries list))
    by Yes h rest = rest
    by No h rest = absurd (h refl)
    by (Wide o) h rest = tt
