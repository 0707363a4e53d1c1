use Rattle.std.proofs.Common.{◌<◌, sym, subst, length}
use Rattle.std.specs.Prelude.{All}
use Rattle.rational.specs.Linear.{Term}
use Rattle.reductions.proofs.Formed.{row_form}
use Rattle.presolve.proofs.sum_rules.row_sum.Goals as goal

pub extreme-requires : goal.extreme-requires
extreme-requires c =
    subst (All (λ (t : Term). t.column < length c.args.system.now.columns)) (sym c.row_terms.ensures) (row_form c.args.system.now c.args.index c.requires.formed).known
