use Rattle.std.proofs.Common.{◌≡◌, ◌+◌, length, drop, zip, flat_map, true}
use Rattle.std.specs.Prelude.{All}
use Rattle.lp_model.specs.Members.{has}
use Rattle.lp_model.specs.MemberSets.{IsPossibleIn}
use Rattle.report_text.specs.Grammar.{witness_phrases}
use Rattle.cert_check.specs.Trials.{witness_trials}
use Rattle.cert_check.specs.Stops.{first_stop}
use Rattle.cert_check.specs.Sparse.{IsRoom}
use Rattle.cert_check.proofs.witnesses.check_witnesses.Given as goal

-- the members that are still to come, each with a witness that is left, stop the check as all do
abbrev pub invariant-loop-witness : goal.invariant-loop-witness
invariant-loop-witness l = record {
  possible : All (IsPossibleIn l.members) l.left;
  there : All (λ m. has l.members.members m ≡ true) l.left;
  others : l.others ≡ l.members;
  room : IsRoom (length l.model.columns) l.room.items;
  each : length (drop l.witness-index l.witnesses) ≡ length l.left;
  line : l.line + length (flat_map witness_phrases (zip l.left (drop l.witness-index l.witnesses))) ≡ l.start + length (flat_map witness_phrases (zip l.members.members l.witnesses));
  left :
      first_stop (witness_trials l.model l.members.members l.line (zip l.left (drop l.witness-index l.witnesses)))
      ≡ first_stop (witness_trials l.model l.members.members l.start (zip l.members.members l.witnesses));
}
