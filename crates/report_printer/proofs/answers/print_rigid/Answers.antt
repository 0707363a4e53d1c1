use Rattle.std.proofs.Common.{map}
use Rattle.report_text.specs.declared.phrases.Phrase.{Phrase}
use Rattle.report_text.specs.Grammar.{proof_phrases}
use Rattle.report_printer.proofs.EvidencePrinted.{in_parts}
use Rattle.report_printer.proofs.answers.print_rigid.Goals as goal

pub returns-clause-text : goal.returns-clause-text
returns-clause-text c =
    let model = c.args.model.now in
    in_parts model Phrase.RigidInfeasible (map Phrase.Member c.args.set.now.members) (proof_phrases c.args.proof.now) _ _ _ _
    c.in_ok-push_line.ensures
    c.in_ok-print_members.ensures
    c.in_ok-print_proof.ensures.text
