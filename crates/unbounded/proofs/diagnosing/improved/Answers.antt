use Rattle.std.proofs.Common.{◌<◌, ◌^◌, sym, ◌∙◌, ap, subst, arith, length}
use Rattle.lp_model.specs.MemberSets.{SetValue}
use Rattle.lp_model.specs.Satisfaction.{values_at}
use Rattle.certs.specs.System.{LinearSystem}
use Rattle.certs.specs.Tableau.{IsTableauOf, IsWellFormedSystem, variables}
use Rattle.certs.proofs.Possible.{members_for_model}
use Rattle.dictionary.specs.Value.{tableau_of}
use Rattle.simplex.specs.ImproveEnds.{KeepsLimits, end_of}
use Rattle.two_widths.specs.Ends.{EndsSo, StopsSo}
use Rattle.unbounded.specs.Runs.{HasNoCombination}
use Rattle.unbounded.proofs.Running.{few_variables, formed_system, no_combination}
use Rattle.unbounded.proofs.Systems.{columns_are}
use Rattle.unbounded.proofs.diagnosing.improved.Goals as goal

pub run-requires-clause-formed : goal.run-requires-clause-formed
run-requires-clause-formed c =
    subst IsWellFormedSystem (sym c.in-Ok.ensures)
    (formed_system c.args.model.now c.args.set.now.members (values_at c.args.asked.values) c.row_count-rows.ensures.well_formed c.requires.asked.satisfies)

pub run-requires-clause-few : goal.run-requires-clause-few
run-requires-clause-few c =
    subst (λ (s : LinearSystem). variables s < 2 ^ 31) (sym c.in-Ok.ensures)
    (few_variables c.args.model.now c.args.set.now.members (let e = c.row_count-rows.ensures.count in let l = c.row_count-rows.ensures.few in omega (arith, e, l)) (let e = c.column_count-columns.ensures.count in let l = c.column_count-columns.ensures.few in omega (arith, e, l)))

pub run-requires-clause-satisfied : goal.run-requires-clause-satisfied
run-requires-clause-satisfied c =
    subst HasNoCombination (sym c.in-Ok.ensures)
    (no_combination c.args.model.now c.args.set.now.members (values_at c.args.asked.values) c.row_count-rows.ensures.well_formed c.requires.asked.satisfies)

pub returns-in-Err-clause-stop : goal.returns-in-Err-clause-stop
returns-in-Err-clause-stop c =
    c.stop_at.ensures c.args.model.now c.args.pivots (record { rows = ap (λ (s : SetValue). s.rows) c.requires.active; columns = ap (λ (s : SetValue). s.columns) c.requires.active })
    (subst (λ (s : LinearSystem). StopsSo s c.args.pivots c.in-Err.stop) c.in-Ok.ensures c.in-Err.ensures.stop)

pub diagnosis_at-requires-clause-stands : goal.diagnosis_at-requires-clause-stands
diagnosis_at-requires-clause-stands c =
    let model = c.args.model.now in
    let set = c.args.set.now in
    record {
      formed = c.row_count-rows.ensures.well_formed;
      known = members_for_model model set (record { rows = ap (λ (s : SetValue). s.rows) c.requires.active; columns = ap (λ (s : SetValue). s.columns) c.requires.active }) c.stands_in_order.ensures.possible;
      system_formed = formed_system model set.members (values_at c.args.asked.values) c.row_count-rows.ensures.well_formed c.requires.asked.satisfies;
      is_of = subst (λ (s : LinearSystem). IsTableauOf s (tableau_of c.in-Ok-run.ran.dictionary)) c.in-Ok.ensures c.in-Ok-run.ensures.is_of;
      columns = c.in-Ok-run.ensures.columns ∙ ap (λ (s : LinearSystem). length s.columns) c.in-Ok.ensures ∙ columns_are model set.members;
      within = subst (λ (s : LinearSystem). KeepsLimits s (tableau_of c.in-Ok-run.ran.dictionary)) c.in-Ok.ensures c.in-Ok-run.ensures.within;
    }

pub returns-clause-last : goal.returns-clause-last
returns-clause-last c =
    c.in-Ok-diagnosis_at.ensures.last c.args.pivots (subst (λ (s : LinearSystem). EndsSo s c.args.pivots (end_of c.in-Ok-run.ran.end) c.in-Ok-run.ran.dictionary.basis) c.in-Ok.ensures c.in-Ok-run.ensures.run)
