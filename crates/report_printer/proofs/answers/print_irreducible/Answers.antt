use Rattle.std.proofs.Common.{◌++◌, ◌∙◌, ap, subst, zip, flat_map}
use Rattle.report_text.specs.declared.phrases.Phrase.{Phrase}
use Rattle.report_text.specs.Grammar.{witness_phrases, proof_phrases, rounds_phrases, price_phrases, phrases_text}
use Rattle.report_printer.specs.Numbers.{HasWitnessesWithin}
use Rattle.report_printer.proofs.EvidencePrinted.{in_parts, lines_more}
use Rattle.report_printer.proofs.answers.print_irreducible.Goals as goal

pub returns-clause-text : goal.returns-clause-text
returns-clause-text c =
    let model = c.args.model.now in
    let core = c.args.core.now in
    in_parts model Phrase.Irreducible (flat_map witness_phrases (zip core.members.members core.witnesses)) (proof_phrases core.proof ++ (rounds_phrases core.rounds ++ price_phrases core.price)) _ _ _ _
    c.in_ok-push_line.ensures
    (c.in_ok-print_witnesses.ensures.text ∙ ap (λ ws. c.push_line.new.into.items ++ phrases_text model (flat_map witness_phrases (zip core.members.members ws))) c.as_slice.ensures)
    (lines_more model c.print_witnesses.new.into.items c.print_proof.new.into.items _ (proof_phrases core.proof) (rounds_phrases core.rounds ++ price_phrases core.price) c.in_ok-print_proof.ensures.text
    (lines_more model c.print_proof.new.into.items c.print_rounds.new.into.items _ (rounds_phrases core.rounds) (price_phrases core.price) c.in_ok-print_rounds.ensures.text c.in_ok-print_price.ensures.text))

pub returns-clause-within : goal.returns-clause-within
returns-clause-within c = record {
  witnesses = subst (HasWitnessesWithin c.args.core.now.members.members) c.as_slice.ensures c.in_ok-print_witnesses.ensures.within;
  proof = c.in_ok-print_proof.ensures.within;
  rounds = c.in_ok-print_rounds.ensures.within;
  price = c.in_ok-print_price.ensures.within;
}
