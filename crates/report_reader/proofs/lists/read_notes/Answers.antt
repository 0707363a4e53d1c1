use Rattle.std.proofs.Common.{sym, ap, ◌∙◌, subst}
use Rattle.std.specs.Prelude.{map, All}
use Rattle.lp_model.specs.declared.parts.Note.{Note}
use Rattle.lp_model.specs.Program.{noted_column}
use Rattle.report_text.specs.declared.phrases.Phrase.{Phrase}
use Rattle.report_text.specs.Form.{IsNamedColumn}
use Rattle.std.proofs.lemmas.List.Elements.{All-nil, All-push}
use Rattle.report_reader.specs.Things.{found, notes, note_of, may_any}
use Rattle.report_reader.proofs.Found.{note_finds}
use Rattle.report_reader.specs.Kinds.{IsRead}
use Rattle.report_reader.proofs.Passing.{loop_start, loop_more, loop_smaller, loop_end, any_next}
use Rattle.report_reader.proofs.lists.read_notes.Goals as goal

pub loop-note-init : goal.loop-note-init
loop-note-init c = loop_start c.args.model.now c.requires.names (notes c.args.model.now) c.args.cursor.now _ c.requires (subst (All (λ note. IsNamedColumn c.args.model.now (noted_column note))) (sym c.new-notes.ensures.items) (All-nil (λ note. IsNamedColumn c.args.model.now (noted_column note)))) (ap (map (Phrase.Note)) c.new-notes.ensures.items)

pub pass-requires : goal.pass-requires
pass-requires c = c.loop-note.invariant.stands

pub loop-note-smaller : goal.loop-note-smaller
loop-note-smaller c = loop_smaller c.args.model.now c.requires.names Note (Phrase.Note) (note_of) (may_any) (All (λ note. IsNamedColumn c.args.model.now (noted_column note))) (note_finds) c.loop-note.cursor c.pass.new.self c.push.new.self _ _ c.in-Some.note (any_next c.loop-note.notes.items (found (note_of) c.loop-note.cursor.ahead) ∙ sym c.note_in.ensures ∙ c.in-Some.is) c.loop-note.invariant.stands c.pass.ensures.passes c.push.ensures

pub loop-note-preserved : goal.loop-note-preserved
loop-note-preserved c = loop_more c.args.model.now c.requires.names Note (Phrase.Note) (note_of) (may_any) (All (λ note. IsNamedColumn c.args.model.now (noted_column note))) (note_finds) c.args.cursor.now c.loop-note.cursor c.pass.new.self c.push.new.self _ _ c.in-Some.note c.loop-note.invariant (any_next c.loop-note.notes.items (found (note_of) c.loop-note.cursor.ahead) ∙ sym c.note_in.ensures ∙ c.in-Some.is) c.pass.ensures.passes c.pass.ensures.stands c.push.ensures (λ m h. All-push (λ note. IsNamedColumn c.args.model.now (noted_column note)) _ c.in-Some.note c.loop-note.invariant.form h)

pub returns-clause-read : goal.returns-clause-read
returns-clause-read c = subst (IsRead c.args.model.now (notes c.args.model.now) c.args.cursor.now c.loop-note.cursor) (sym c.new.ensures) (loop_end c.args.model.now c.requires.names Note (Phrase.Note) (note_of) (may_any) (All (λ note. IsNamedColumn c.args.model.now (noted_column note))) (note_finds) c.args.cursor.now c.loop-note.cursor _ c.loop-note.invariant (any_next c.loop-note.notes.items (found (note_of) c.loop-note.cursor.ahead) ∙ sym c.note_in.ensures ∙ c.in_default.is))

pub returns-clause-stands : goal.returns-clause-stands
returns-clause-stands c = c.loop-note.invariant.stands
