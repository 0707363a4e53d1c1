use Rattle.std.proofs.Common.{◌∙◌, sym}
use Rattle.lp_model.specs.Satisfaction.{values_at}
use Rattle.reductions.specs.Back.{point_work}
use Rattle.presolve_oracle.specs.Easing.{IsEasing}
use Rattle.presolve_oracle.proofs.Returning.{eases_at, none_given, settles_at, values_wide}
use Rattle.presolve_oracle.proofs.backs.values_back.Goals as goal

pub returns-in-Ok : goal.returns-in-Ok
returns-in-Ok c = λ model set pivots last leads reduced ended.
    (let values = c.in_ok-point.point.values in
    let made = c.in_ok-point.ensures.values in
    let settles = settles_at last.system pivots c.args.dictionary.now values ended made.0 made.1 in
    eases_at model set c.args.trace.now last leads pivots values c.in-Ok.back.values reduced settles (made.0 ∙ sym c.requires.trace.columns_are) c.in-Ok.ensures)

pub returns : goal.returns
returns c = λ model set pivots last leads reduced ended.
    (let values = c.in_ok-point.point.values in
    let made = c.in_ok-point.ensures.values in
    let settles = settles_at last.system pivots c.args.dictionary.now values ended made.0 made.1 in
    none_given (IsEasing model set pivots) c.in-Err.stop c.none_where_wide.result c.none_where_wide.ensures
    (λ wide. values_wide model set c.args.trace.now last leads pivots values reduced settles (wide (point_work c.args.trace.now.steps (values_at values)) c.in-Err.ensures)))
