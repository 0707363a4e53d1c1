use Rattle.lp_model.specs.contracts.models.Model.{the_view}
use Rattle.lp_model.proofs.Added.{kept_new_column, answer_new_column}
use Rattle.lp_model.proofs.models.Model.add_column.Goals as goal

pub invariant_of-self : goal.invariant_of-self
invariant_of-self c =
    kept_new_column (the_view c.self.inside) c.self.inside.columns c.add_named.new.map c.args.name.now c.args.column c.add_named.result c.self.invariant
    c.requires
    c.add_named.ensures.answer c.add_named.ensures.unchanged

pub returns-clause-answer : goal.returns-clause-answer
returns-clause-answer c =
    rw (← c.self.view_is)
    (answer_new_column (the_view c.self.inside) c.self.inside.columns c.add_named.new.map c.args.name.now c.args.column c.add_named.result c.add_named.ensures.answer)
