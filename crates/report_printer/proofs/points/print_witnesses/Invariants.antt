use Rattle.std.proofs.Common.{◌≡◌, ◌++◌, flat_map, zip, drop}
use Rattle.std.specs.Prelude.{All}
use Rattle.report_text.specs.Grammar.{witness_phrases, phrases_text}
use Rattle.report_printer.specs.EvidenceNumbers.{HasWitnessesWithin}
use Rattle.report_printer.specs.Evidence.{IsKnownMember}
use Rattle.report_printer.proofs.points.print_witnesses.Given as goal

-- the lines of the members that are still to come, with the witnesses that are left, complete the text; and where their values are within the limit, all are
abbrev pub invariant-loop-witness : goal.invariant-loop-witness
invariant-loop-witness l = record {
  known : All (IsKnownMember l.model) l.members;
  left : l.into.items ++ phrases_text l.model (flat_map witness_phrases (zip l.members (drop l.witness-index l.witnesses))) ≡ l.initial.into.items ++ phrases_text l.model (flat_map witness_phrases (zip l.set.members l.witnesses));
  within : HasWitnessesWithin l.members (drop l.witness-index l.witnesses) → HasWitnessesWithin l.set.members l.witnesses;
}
