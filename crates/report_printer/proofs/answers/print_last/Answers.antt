use Rattle.std.proofs.Common.{◌≡◌, refl, sym, ◌∙◌, ap, subst, ◌++◌}
use Rattle.lp_model.specs.Program.{Program}
use Rattle.report_text.specs.declared.report.Answer.{Answer}
use Rattle.report_text.specs.declared.report.Answer.TheVariants.{Done, Refused, NotLinear}
use Rattle.report_text.specs.declared.report.Refusal.{Refusal}
use Rattle.report_text.specs.declared.phrases.Phrase.{Phrase}
use Rattle.report_text.specs.Grammar.{phrase_line, answer_end}
use Rattle.report_printer.specs.Evidence.{ended}
use Rattle.report_printer.specs.Printing.{IsKnownAnswer}
use Rattle.report_printer.specs.Rows.{IsKnownPhrase, row_line}
use Rattle.report_printer.proofs.answers.print_last.Goals as goal

known : (model : Program) (a : Answer) → IsKnownAnswer model a → IsKnownPhrase model (answer_end a)
known model (NotLinear j) h = (tt, (h, tt))
known model (Refused Refusal.UnknownName) h = (tt, tt)
known model (Refused Refusal.NoChange) h = (tt, tt)
known model (Refused Refusal.NothingToUndo) h = (tt, (tt, tt))
known model a h = tt

same : (model : Program) (a : Answer) → row_line model (answer_end a) ≡ phrase_line model (answer_end a)
same model Done = refl
same model a = refl

pub print_phrase-requires : goal.print_phrase-requires
print_phrase-requires c = subst (IsKnownPhrase c.args.model.now) (sym c.last_phrase.ensures) (known c.args.model.now c.args.answer.now c.requires)

pub returns : goal.returns
returns c =
    c.in_ok-print_phrase.ensures.text
    ∙ ap (λ (p : Phrase). c.args.into.now.items ++ ended (row_line c.args.model.now p)) c.last_phrase.ensures
    ∙ ap (λ t. c.args.into.now.items ++ ended t) (same c.args.model.now c.args.answer.now)
