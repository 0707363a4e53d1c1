use Rattle.std.proofs.Common.{◌∙◌, sym, ap, subst, length}
use Rattle.lp_model.specs.Edits.{lower_part, upper_part, with_row}
use Rattle.lp_model.specs.Program.{row_at, NamedRow, IsWellFormedRow}
use Rattle.lp_model.proofs.Edited.{row_formed}
use Rattle.lp_model.proofs.Changed.{same_row, another_row, row_fits, sides_after, sides_same, lower_same, upper_same, part_decides, told_apart}
use Rattle.lp_model.proofs.models.Model.change_sides.Goals as goal
use Rattle.lp_model.proofs.models.Model.change_sides.Goals.{else-eq-via-then-eq+else-eq-2, else-eq-via-else-eq}

pub returns-then-eq-2-clause-made : goal.returns-then-eq-2-clause-made
returns-then-eq-2-clause-made c =
    let row = row_at c.args.self.now c.args.row in
    let lower = c.lower_side-lower_before.ensures row.name ∙ ap lower_part (sym c.row-former.ensures) in
    let upper = c.upper_side-upper_before.ensures row.name ∙ ap upper_part (sym c.row-former.ensures) in
    let low = (part_decides c.after-lower_after.result c.lower_side-lower_before.result).0 (sym c.eq.ensures ∙ c.if-eq.true) in
    let high = (part_decides c.after-upper_after.result c.upper_side-upper_before.result).0 (sym c.eq-then-eq.ensures ∙ c.if-eq-2.true) in
    same_row c.args.self.now c.args.row _ (sides_same row c.args.lower c.args.upper _ _ _ _ lower upper c.after-lower_after.ensures c.after-upper_after.ensures low high)

pub put_sides-requires-clause-fitting : goal.put_sides-requires-clause-fitting
put_sides-requires-clause-fitting c =
    let row = row_at c.args.self.now c.args.row in
    let lower = c.lower_side-lower_before.ensures row.name ∙ ap lower_part (sym c.row-former.ensures) in
    let upper = c.upper_side-upper_before.ensures row.name ∙ ap upper_part (sym c.row-former.ensures) in
    subst (λ (r : NamedRow). IsWellFormedRow (length c.args.self.now.columns) r) (sym (sides_after row c.args.lower c.args.upper _ _ _ _ lower upper c.after-lower_after.ensures c.after-upper_after.ensures))
    (row_fits (length c.args.self.now.columns) row c.args.lower c.args.upper c.requires.lower c.requires.upper
    (row_formed (length c.args.self.now.columns) c.args.self.now.rows c.args.row c.row_count-rows.ensures.well_formed.rows))

pub returns-clause-made : goal.returns-clause-made
returns-clause-made c =
    let row = row_at c.args.self.now c.args.row in
    let lower = c.lower_side-lower_before.ensures row.name ∙ ap lower_part (sym c.row-former.ensures) in
    let upper = c.upper_side-upper_before.ensures row.name ∙ ap upper_part (sym c.row-former.ensures) in
    c.put_sides.ensures ∙ ap (with_row c.args.self.now c.args.row) (sides_after row c.args.lower c.args.upper _ _ _ _ lower upper c.after-lower_after.ensures c.after-upper_after.ensures)

pub returns-clause-changed : goal.returns-clause-changed
returns-clause-changed c told same =
    let row = row_at c.args.self.now c.args.row in
    let lower = c.lower_side-lower_before.ensures row.name ∙ ap lower_part (sym c.row-former.ensures) in
    let upper = c.upper_side-upper_before.ensures row.name ∙ ap upper_part (sym c.row-former.ensures) in
    let sides = another_row c.args.self.now c.args.row _ c.requires.within (sym c.put_sides.ensures ∙ same) in
    let low = lower_same row c.args.lower c.args.upper _ _ _ _ lower upper c.after-lower_after.ensures c.after-upper_after.ensures sides in
    let high = upper_same row c.args.lower c.args.upper _ _ _ _ lower upper c.after-lower_after.ensures c.after-upper_after.ensures sides in
    elim c.else-eq.branch [
      | else-eq-via-then-eq+else-eq-2 w ↦ told_apart _ _ (part_decides c.after-upper_after.result c.upper_side-upper_before.result) w.eq-then-eq.ensures w.if-eq-2.false high
      | else-eq-via-else-eq w ↦ told_apart _ _ (part_decides c.after-lower_after.result c.lower_side-lower_before.result) c.eq.ensures w.if-eq.false low
    ]
