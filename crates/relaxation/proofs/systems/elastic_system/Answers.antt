use Rattle.std.proofs.Common.{◌∙◌, ap, map, length, [], ◌++◌}
use Rattle.certs.specs.Ended.{numbers_from}
use Rattle.certs.specs.Plain.{column_limits}
use Rattle.certs.specs.Rows.{row_of}
use Rattle.relaxation.specs.Costs.{cost_by}
use Rattle.relaxation.specs.Origins.{cost_term, from_zero, origin_row, origins_of}
use Rattle.relaxation.proofs.Rows.{system_made}
use Rattle.relaxation.proofs.systems.elastic_system.Goals as goal

pub returns : goal.returns
returns c =
    let model = c.args.model.now in
    let enforced = c.args.enforced.now.members in
    let cost = cost_by model c.args.costs in
    system_made model c.args.set.now.members enforced cost c.in_ok-soft.soft.items c.in_ok-columns.columns.items (map row_of c.in_ok-rows.rows.items) c.in_ok-objective.objective
    c.in_ok-soft.ensures.soft
    (c.in_ok-columns.ensures ∙ ap (λ z. map (column_limits model enforced []) (numbers_from 0 (length model.columns)) ++ map (λ e. from_zero) z) c.as_slice-2.ensures.value)
    (c.in_ok-rows.ensures ∙ ap (map (origin_row model enforced)) (c.as_slice-3.ensures.value ∙ c.in_ok-origins.ensures.rows ∙ ap (origins_of model enforced) c.as_slice.ensures.value))
    (c.in_ok-objective.ensures ∙ ap (map (cost_term cost)) c.as_slice-4.ensures.value)
