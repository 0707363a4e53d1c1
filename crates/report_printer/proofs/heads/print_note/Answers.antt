use Rattle.std.proofs.Common.{◌<◌, length}
use Rattle.lp_model.specs.Program.{Program, noted_column}
use Rattle.lp_model.specs.declared.parts.Note.{Note}
use Rattle.lp_model.specs.declared.parts.Note.TheVariants.{LowerRemoved, LowerKept}
use Rattle.report_text.specs.declared.phrases.Phrase.{Phrase}
use Rattle.report_printer.specs.Rows.{IsKnownPhrase}
use Rattle.report_printer.proofs.heads.print_note.Goals as goal

known : (model : Program) (note : Note) → noted_column note < length model.columns → IsKnownPhrase model (Phrase.Note note)
known model (LowerRemoved j) h = (h, (tt, (tt, tt)))
known model (LowerKept j) h = (h, (tt, (tt, tt)))

pub print_phrase-requires : goal.print_phrase-requires
print_phrase-requires c = known c.args.model.now c.args.note c.requires
