use Rattle.std.proofs.Common.{sym, ap, not, length, ◌∙◌}
use Rattle.mps_reader.specs.Tables.{is_free}
use Rattle.mps_reader.specs.Held.{row_names_held}
use Rattle.lp_model.specs.Shown.{row_names, most_rows, named_row, new_row}
use Rattle.lp_model.proofs.New.{as_new_row_formed}
use Rattle.lp_model.proofs.Refused.{memory_alone}
use Rattle.mps_reader.proofs.Fits.{row_fits}
use Rattle.mps_reader.proofs.Made.{row_form, row_more, name_is}
use Rattle.mps_reader.proofs.program.put_row.Goals as goal

pub add_row-requires : goal.add_row-requires
add_row-requires c =
    as_new_row_formed (length c.args.model.now.columns) c.name.result.now _ _ _ _ c.new-row.ensures
    (row_form c.args.reader.now c.args.index c.args.model.now c.new.result c.requires.before (c.new.ensures ∙ c.requires.terms))

pub returns-in-Ok : goal.returns-in-Ok
returns-in-Ok c =
    let reader = c.args.reader.now in
    let named = name_is (row_names_held reader) c.args.index c.name.result.now c.name.ensures in
    let terms = c.new.ensures ∙ c.requires.terms in
    row_more reader c.args.index c.args.model.now c.add_row.new.self _ c.requires.before (ap not (ap is_free (sym c.kind_at.ensures) ∙ sym c.is_free_kind.ensures ∙ c.if-is_free_kind.false))
    (λ k. named_row (named k) ((c.new-row.ensures ∙ (λ j. new_row (terms j) (c.sides_at-sides.ensures j).0 (c.sides_at-sides.ensures j).1)) k))
    c.in-Ok.ensures.answer.2

pub want-requires : goal.want-requires
want-requires c =
    let reader = c.args.reader.now in
    let name = c.name.result.now in
    let kept = ap not (ap is_free (sym c.kind_at.ensures) ∙ sym c.is_free_kind.ensures ∙ c.if-is_free_kind.false) in
    memory_alone (row_names c.args.model.now) most_rows name
    (row_fits reader c.requires.sound c.args.index c.requires.within kept c.args.model.now c.requires.before name (name_is (row_names_held reader) c.args.index name c.name.ensures))
    c.in-Err.stop c.in-Err.ensures.answer

pub sides_at-sides-requires-clause-kept : goal.sides_at-sides-requires-clause-kept
sides_at-sides-requires-clause-kept c = ap is_free (sym c.kind_at.ensures) ∙ sym c.is_free_kind.ensures ∙ c.if-is_free_kind.false

pub sides_at-sides-requires-clause-fits : goal.sides_at-sides-requires-clause-fits
sides_at-sides-requires-clause-fits c = c.requires.sound.sides c.args.index c.requires.within
