use Rattle.std.proofs.Common.{ℕ, List, sym, ap, subst, length, cond, [], ◌∷◌, ◌++◌, ◌∙◌}
use Rattle.lp_model.specs.declared.parts.Note.TheVariants.{LowerRemoved}
use Rattle.lp_model.specs.Program.{Program, IsWellFormedColumn}
use Rattle.lp_model.specs.Shown.{named_column}
use Rattle.mps_reader.specs.Held.{column_names_held}
use Rattle.mps_reader.specs.Built.{column_held}
use Rattle.lp_model.specs.Shown.{column_names, most_columns}
use Rattle.lp_model.proofs.Refused.{memory_alone}
use Rattle.mps_reader.proofs.Fits.{column_fits}
use Rattle.mps_reader.proofs.Made.{column_held_formed, column_more, length_listed, name_is}
use Rattle.mps_reader.proofs.program.put_column.Goals as goal

pub add_column-requires : goal.add_column-requires
add_column-requires c =
    let reader = c.args.reader.now in
    subst IsWellFormedColumn (sym (ap (λ (n : List ℕ). named_column n c.make_column-column.result) (name_is (column_names_held reader) c.args.index c.name.result.now c.name.ensures) ∙ c.make_column-column.ensures)) (column_held_formed reader c.args.index)

pub returns : goal.returns
returns c =
    let reader = c.args.reader.now in
    let mid = c.add_column.new.self in
    column_more reader c.args.index c.args.model.now mid c.put_note.new.model (named_column c.name.result.now c.make_column-column.result) c.in-Ok.place c.requires.before c.in-Ok.ensures.answer.2
    (ap (λ (n : List ℕ). named_column n c.make_column-column.result) (name_is (column_names_held reader) c.args.index c.name.result.now c.name.ensures) ∙ c.make_column-column.ensures)
    (c.in-Ok.ensures.answer.1 ∙ ap (λ (p : Program). length p.columns) c.requires.before ∙ length_listed (column_held reader) c.args.index)
    (c.in_ok-put_note.ensures ∙ ap (λ b. let p : Program = record mid { notes = mid.notes ++ cond b (LowerRemoved c.in-Ok.place ∷ []) [] } in p) c.is_removed_at.ensures)

pub want-requires : goal.want-requires
want-requires c =
    let name = c.name.result.now in
    memory_alone (column_names c.args.model.now) most_columns name
    (column_fits c.args.reader.now c.requires.sound c.args.index c.requires.within c.args.model.now c.requires.before name (name_is (column_names_held c.args.reader.now) c.args.index name c.name.ensures))
    c.in-Err.stop c.in-Err.ensures.answer
