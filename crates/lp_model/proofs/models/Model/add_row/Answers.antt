use Rattle.std.proofs.Common.{length, sym, subst}
use Rattle.lp_model.specs.Program.{Program, IsWellFormedRow}
use Rattle.lp_model.specs.Shown.{named_row}
use Rattle.lp_model.specs.contracts.models.Model.{the_view}
use Rattle.lp_model.proofs.Added.{kept_new_row, answer_new_row}
use Rattle.lp_model.proofs.models.Model.add_row.Goals as goal

pub invariant_of-self : goal.invariant_of-self
invariant_of-self c =
    kept_new_row (the_view c.self.inside) c.self.inside.rows c.add_named.new.map c.args.name.now c.args.row c.add_named.result c.self.invariant
    (subst (λ (p : Program). IsWellFormedRow (length p.columns) (named_row c.args.name.now c.args.row)) (sym c.self.view_is) c.requires)
    c.add_named.ensures.answer c.add_named.ensures.unchanged

pub returns-clause-answer : goal.returns-clause-answer
returns-clause-answer c =
    rw (← c.self.view_is)
    (answer_new_row (the_view c.self.inside) c.self.inside.rows c.add_named.new.map c.args.name.now c.args.row c.add_named.result c.add_named.ensures.answer)
