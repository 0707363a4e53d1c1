use Rattle.std.proofs.Common.{sym, ◌∙◌, ap, subst, length, List}
use Rattle.lp_model.specs.declared.members.Member.{Member}
use Rattle.lp_model.specs.Satisfaction.{values_at}
use Rattle.certs.specs.Bound.{IsImproving}
use Rattle.branch_oracle.proofs.Answering.{no_marks}
use Rattle.quick_answers.proofs.best.unbounded.Goals as goal

pub returns : goal.returns
returns c =
    let model = c.args.model.now in
    let set = c.args.set.now.members in
    let x = values_at c.args.ray.values in
    record {
      point_of = c.is_point.ensures c.if-not-is_point.false;
      each_column = sym (ap length c.as_slice.ensures) ∙ c.if-as_slice-column_count.false ∙ c.column_count.ensures.count;
      improving = subst (λ (l : List Member). IsImproving model l x) (sym (no_marks set c.requires.linear)) (c.check_ray.ensures.improving (c.is_yes.ensures c.if-not-is_yes.false));
    }
