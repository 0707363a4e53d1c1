use Rattle.std.proofs.Common.{sym, ◌∙◌}
use Rattle.table_oracle.specs.Value.{leaf}
use Rattle.table_oracle.proofs.Judged.{leaf_judged}
use Rattle.table_oracle.proofs.oracle.refuted.Goals as goal

pub returns-clause-answered : goal.returns-clause-answered
returns-clause-answered c =
    leaf_judged c.args.model.now c.args.set.now.members c.args.combo c.in-Ok-leaf_proof.proof c.row_count-rows.ensures.well_formed (sym c.in-Ok.ensures ∙ c.if-not-right.false) c.in-Ok-leaf_proof.ensures

pub returns-clause-next : goal.returns-clause-next
returns-clause-next c = λ answers. (sym c.in-Ok.ensures ∙ c.if-not-right.false, leaf c.in-Ok-leaf_proof.ensures)
