use Rattle.std.proofs.Common.{◌≡◌, ◌++◌, ◌∙◌, ap, [], map, take, length, arith}
use Rattle.std.proofs.lemmas.List.{take_all}
use Rattle.certs.specs.Ended.{numbers_from}
use Rattle.certs.specs.Plain.{column_limits}
use Rattle.relaxation.specs.Origins.{from_zero}
use Rattle.lp_model.specs.declared.members.Member.TheVariants.{Whole}
use Rattle.relaxation.proofs.Listed.{variable_more}
use Rattle.relaxation.proofs.Rows.{column_more}
use Rattle.relaxation.proofs.systems.elastic_columns.Goals as goal

pub loop-column-preserved : goal.loop-column-preserved
loop-column-preserved c =
    column_more c.args.model.now c.args.enforced.now.members c.loop-column.column _ _ _ _ c.number_in.ensures c.number_in-in-loop-column.ensures c.loop-column.invariant c.in_ok-push.ensures.items

pub loop-soft-preserved : goal.loop-soft-preserved
loop-soft-preserved c = variable_more c.args.soft.now c.loop-soft._soft-index (0, Whole 0) _ _ _ c.whole.result c.loop-soft-test.true c.whole.ensures c.loop-soft.invariant c.in_ok-push-2.ensures.items

pub returns : goal.returns
returns c =
    let model = c.args.model.now in
    let limits = column_limits model c.args.enforced.now.members [] in
    let soft = c.args.soft.now in
    let last : c.loop-column.column ≡ length model.columns = omega (arith, c.loop-column-test.false, c.loop-column.auto.column-end, c.column_count-column-end.ensures.count) in
    c.loop-soft.invariant
    ∙ ap (λ z. z ++ map (λ e. from_zero) (take c.loop-soft._soft-index soft)) (c.loop-column.invariant ∙ ap (λ k. map limits (numbers_from 0 k)) last)
    ∙ ap (λ l. map limits (numbers_from 0 (length model.columns)) ++ map (λ e. from_zero) l) (take_all c.loop-soft._soft-index soft c.loop-soft-test.false)
