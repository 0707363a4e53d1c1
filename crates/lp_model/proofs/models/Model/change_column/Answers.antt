use Rattle.std.proofs.Common.{◌∙◌, sym, ap, true≢false}
use Rattle.lp_model.specs.Program.{column_at}
use Rattle.lp_model.specs.Shown.{named_column}
use Rattle.lp_model.proofs.Changed.{same_column, another_column, one_column, column_decides}
use Rattle.lp_model.proofs.models.Model.change_column.Goals as goal

pub returns-then-eq-clause-made : goal.returns-then-eq-clause-made
returns-then-eq-clause-made c =
    let same = (column_decides c.args.column c.column.result.now).0 (sym c.eq.ensures ∙ c.if-eq.true) in
    same_column c.args.self.now c.args.index _ (ap (named_column (column_at c.args.self.now c.args.index).name) same ∙ sym c.column.ensures)

pub returns-clause-changed : goal.returns-clause-changed
returns-clause-changed c told same =
    let named = another_column c.args.self.now c.args.index _ c.requires.within (sym c.put_column.ensures ∙ same) in
    let one = one_column _ _ c.args.column c.column.result.now (named ∙ c.column.ensures) in
    true≢false (sym ((column_decides c.args.column c.column.result.now).1 one) ∙ sym (sym c.if-eq.false ∙ c.eq.ensures))
