use Rattle.std.proofs.Common.{◌≡◌, false, sym, ◌∙◌, arith}
use Rattle.std.proofs.lemmas.Bool.Decides.{nat_tests}
use Rattle.text_fields.specs.Fields.{is_long}
use Rattle.phrase_reader.specs.Commands.{command_of}
use Rattle.iis_session.specs.Scripts.{said_by, saying_of}
use Rattle.iis_session.proofs.Fronts.{line_said, said_same}
use Rattle.iis_session.proofs.scripts.read_line.Goals as goal

pub returns-in-Err : goal.returns-in-Err
returns-in-Err c =
    let text = c.args.text.now in
    let short = c.if-text-gt-LONGEST_LINE.false in
    let long : is_long text ≡ false = grind (arith, nat_tests) in
    said_same c.refused.result (said_by (command_of text)) (saying_of text)
    (line_said text long (sym c.begins_a_remark.ensures ∙ c.if-begins_a_remark.false) (sym c.has_only_blanks.ensures ∙ c.if-has_only_blanks.false)) (c.refused.ensures text c.in-Err.ensures.stop)
