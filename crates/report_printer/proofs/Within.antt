-- Witnesses one after another, each with values within the limit.
use Rattle.std.proofs.Common.{◌≡◌, ◌<◌, ◌≤◌, ◌+◌, sym, ◌∙◌, ap, subst, ℕ, List, ◌∷◌, drop, get_or, length, [], zip}
use Rattle.std.proofs.lemmas.List.{at_drop_more}
use Rattle.std.proofs.lemmas.List.Elements.{All-cons, All-nil}
use Rattle.std.proofs.Math.ListN.{drop_of_length-le}
use Rattle.std.specs.Prelude.{All}
use Rattle.lp_model.specs.declared.members.Member.{Member}
use Rattle.certs.specs.declared.evidence.Point.{Point}
use Rattle.report_printer.specs.EvidenceNumbers.{HasValuesWithin, HasWitnessesWithin}
use Rattle.report_printer.proofs.EvidencePrinted.{zip_none}

-- the witness of a member
abbrev IsWithin : Member × Point → Type 0
IsWithin w = HasValuesWithin w.1

-- the next one, and those behind it
pub next_within : (members others : List Member) (witnesses : List Point) (i : ℕ) (m : Member) (w : Point) → members ≡ m ∷ others → i < length witnesses → w ≡ get_or witnesses i w
    → HasValuesWithin w → HasWitnessesWithin others (drop (i + 1) witnesses) → HasWitnessesWithin members (drop i witnesses)
next_within members others witnesses i m w first l is one rest =
    subst (HasWitnessesWithin members) (sym (at_drop_more (λ (ws : List Point). ws) witnesses i w l ∙ ap (λ (p : Point). p ∷ drop (i + 1) witnesses) (sym is)))
    (subst (λ (ms : List Member). HasWitnessesWithin ms (w ∷ drop (i + 1) witnesses)) (sym first) (All-cons IsWithin (m, w) (zip others (drop (i + 1) witnesses)) one rest))

-- none where no member is left
pub none_within : (members : List Member) (witnesses : List Point) → members ≡ [] → HasWitnessesWithin members witnesses
none_within members witnesses e = subst (λ (ms : List Member). HasWitnessesWithin ms witnesses) (sym e) (All-nil IsWithin)

-- nor where no witness is left
pub ended_within : (members : List Member) (witnesses : List Point) (i : ℕ) → length witnesses ≤ i → HasWitnessesWithin members (drop i witnesses)
ended_within members witnesses i e = subst (All IsWithin) (sym (zip_none members (drop i witnesses) (drop_of_length-le witnesses e))) (All-nil IsWithin)
