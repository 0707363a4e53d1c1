use Rattle.std.proofs.Common.{◌∙◌, ap, take, arith}
use Rattle.relaxation.specs.declared.systems.Costs.TheVariants.{Weights}
use Rattle.relaxation.specs.Costs.{objective_by, system_by}
use Rattle.relaxation.proofs.Reaching.{best_count, least_by}
use Rattle.relaxation.proofs.Shares.{dual_of_system}
use Rattle.relaxation.proofs.relaxing.least_at.Goals as goal

pub named_shares-requires-clause-of_system : goal.named_shares-requires-clause-of_system
named_shares-requires-clause-of_system c =
    let model = c.args.model.now in
    let set = c.args.set.now.members in
    let rigid = c.args.rigid.now.members in
    let dual = c.args.dual.now in
    dual_of_system (system_by model set rigid Weights) (objective_by model set rigid Weights) dual.combo.shares dual.bound c.requires.best.dual_of

pub first_values-requires : goal.first_values-requires
first_values-requires c =
    let e = best_count c.args.model.now c.args.set.now.members c.args.rigid.now.members Weights c.args.values.now.values c.args.dual.now c.requires.best in
    let n = c.column_count.ensures.count in
    omega (arith, e, n)

pub returns-clause-found : goal.returns-clause-found
returns-clause-found c =
    let model = c.args.model.now in
    let dual = c.args.dual.now in
    least_by model c.args.set.now.members c.args.rigid.now.members c.args.values.now.values dual (record { combo = c.in-Ok.combo; bound = c.negate.result }) c.in-Ok-first_values.point
    c.row_count-rows.ensures.well_formed c.requires.elastic c.requires.rigid c.requires.best
    (c.in-Ok-first_values.ensures ∙ ap (λ n. take n c.args.values.now.values) c.column_count.ensures.count)
    c.negate.ensures
    (c.in-Ok.ensures.least dual.bound c.requires.rigid c.requires.best.dual_of)
