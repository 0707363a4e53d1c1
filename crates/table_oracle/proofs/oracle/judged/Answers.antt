use Rattle.std.proofs.Common.{sym, ◌∙◌, ap, subst, List, ◌∷◌}
use Rattle.table_oracle.specs.declared.answers.TableAnswer.{TableAnswer}
use Rattle.table_oracle.specs.Value.{IsNext}
use Rattle.table_oracle.proofs.oracle.judged.Goals as goal

pub returns-in-Point-clause-next : goal.returns-in-Point-clause-next
returns-in-Point-clause-next c =
    let rest = c.take_first.new.answers.items in
    let answers = c.in-Some.ensures.first ∙ ap (λ (a : TableAnswer). a ∷ rest) c.in-Point.is in
    subst (λ (l : List TableAnswer). IsNext c.args.model.now c.args.set.now l c.found.result) (sym answers) (c.found.ensures.next rest)

pub returns-in-Leaf-clause-next : goal.returns-in-Leaf-clause-next
returns-in-Leaf-clause-next c =
    let rest = c.take_first.new.answers.items in
    let answers = c.in-Some.ensures.first ∙ ap (λ (a : TableAnswer). a ∷ rest) c.in-Leaf.is in
    subst (λ (l : List TableAnswer). IsNext c.args.model.now c.args.set.now l c.refuted.result) (sym answers) (c.refuted.ensures.next rest)
