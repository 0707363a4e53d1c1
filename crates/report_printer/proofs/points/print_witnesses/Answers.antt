use Rattle.std.proofs.Common.{◌++◌, sym, subst, ap, zip, drop, flat_map, List}
use Rattle.std.specs.Prelude.{All}
use Rattle.std.proofs.lemmas.List.Elements.{All-head, All-tail}
use Rattle.lp_model.specs.declared.members.Member.{Member}
use Rattle.certs.proofs.Possible.{members_for_model}
use Rattle.report_text.specs.Grammar.{witness_phrases, phrases_text}
use Rattle.report_printer.specs.EvidenceNumbers.{HasWitnessesWithin}
use Rattle.report_printer.specs.Evidence.{IsKnownMember}
use Rattle.report_printer.proofs.EvidencePrinted.{goes_on, nothing_left, witnesses_left, no_witness}
use Rattle.report_printer.proofs.Within.{next_within, none_within, ended_within}
use Rattle.report_printer.proofs.points.print_witnesses.Goals as goal

pub loop-witness-init : goal.loop-witness-init
loop-witness-init c = record {
  known = subst (All (IsKnownMember c.args.model.now)) (sym c.iter-members.ensures) (members_for_model c.args.model.now c.args.set.now c.requires.set c.stands_in_order.ensures.possible);
  left = ap (λ (l : List Member). c.args.into.now.items ++ phrases_text c.args.model.now (flat_map witness_phrases (zip l c.args.witnesses.now))) c.iter-members.ensures;
  within = subst (λ (l : List Member). HasWitnessesWithin l c.args.witnesses.now) c.iter-members.ensures;
}

pub returns-in_default-clause-text : goal.returns-in_default-clause-text
returns-in_default-clause-text c =
    nothing_left _ _ _ (ap (λ (l : List Member). phrases_text c.args.model.now (flat_map witness_phrases (zip l (drop c.loop-witness.witness-index c.args.witnesses.now)))) c.in_default.ensures.steps.0) c.loop-witness.invariant.left

pub print_witness-requires-clause-member : goal.print_witness-requires-clause-member
print_witness-requires-clause-member c = All-head (IsKnownMember c.args.model.now) c.in-Some.member c.next.new.self (subst (All (IsKnownMember c.args.model.now)) c.in-Some.ensures.steps c.loop-witness.invariant.known)

pub loop-witness-preserved : goal.loop-witness-preserved
loop-witness-preserved c =
    let model = c.args.model.now in
    let members = c.loop-witness.members in
    let witnesses = c.args.witnesses.now in
    let i = c.loop-witness.witness-index in
    let first = c.in-Some.ensures.steps in
    record {
      known = All-tail (IsKnownMember model) c.in-Some.member c.next.new.self (subst (All (IsKnownMember model)) first c.loop-witness.invariant.known);
      left =
          goes_on _ _ _ _ _ _ c.in_ok-print_witness.ensures.text
          (witnesses_left model members c.next.new.self witnesses i c.in-Some.member c.witness-item.result first c.loop-witness-test.true c.witness-item.is)
          c.loop-witness.invariant.left;
      within = λ rest.
          c.loop-witness.invariant.within
          (next_within members c.next.new.self witnesses i c.in-Some.member c.witness-item.result first c.loop-witness-test.true c.witness-item.is c.in_ok-print_witness.ensures.within rest);
    }

pub returns-clause-text : goal.returns-clause-text
returns-clause-text c =
    nothing_left _ _ _ (no_witness c.args.model.now c.loop-witness.members c.args.witnesses.now c.loop-witness.witness-index c.loop-witness-test.false) c.loop-witness.invariant.left

pub returns-in_default-clause-within : goal.returns-in_default-clause-within
returns-in_default-clause-within c = c.loop-witness.invariant.within (none_within c.loop-witness.members _ c.in_default.ensures.steps.0)

pub returns-clause-within : goal.returns-clause-within
returns-clause-within c = c.loop-witness.invariant.within (ended_within c.loop-witness.members c.args.witnesses.now c.loop-witness.witness-index c.loop-witness-test.false)
