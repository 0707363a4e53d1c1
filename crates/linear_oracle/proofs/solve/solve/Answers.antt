use Rattle.std.proofs.Common.{◌∙◌, ◌+◌, ◌<◌, ◌^◌, sym, ap, subst, List, Err, false, length, arith}
use Rattle.certs.specs.declared.evidence.Branch.{Branch}
use Rattle.certs.specs.Plain.{first_crossing, plain_system}
use Rattle.certs.specs.System.{LinearSystem}
use Rattle.certs.specs.Tableau.{IsWellFormedSystem, variables}
use Rattle.certs.specs.Tales.{IsNodeEnd}
use Rattle.certs.proofs.PlainForms.{plain_formed}
use Rattle.two_widths.specs.Ends.{IsStopOf}
use Rattle.linear_oracle.proofs.Shares.{columns_are, few_variables}
use Rattle.linear_oracle.proofs.solve.solve.Goals as goal

pub first_crossing-requires : goal.first_crossing-requires
first_crossing-requires c = record {
  few = subst (λ (s : LinearSystem). length s.columns + length s.rows < 2 ^ 31) (sym c.in-Ok.ensures)
      (few_variables c.args.model.now c.args.set.now.members c.args.path.now (let e = c.row_count-rows.ensures.count in let l = c.row_count-rows.ensures.few in omega (arith, e, l)) (let e = c.column_count-columns.ensures.count in let l = c.column_count-columns.ensures.few in omega (arith, e, l)));
}

pub returns-in-Some-clause-end : goal.returns-in-Some-clause-end
returns-in-Some-clause-end c = c.crossing_end.ensures c.args.pivots

pub solve-requires-clause-formed : goal.solve-requires-clause-formed
solve-requires-clause-formed c =
    let apart = sym c.first_crossing.ensures ∙ c.in_default-first_crossing.is in
    subst IsWellFormedSystem (sym c.in-Ok.ensures)
    (plain_formed c.args.model.now c.args.set.now.members c.args.path.now false c.row_count-rows.ensures.well_formed (ap first_crossing (sym c.in-Ok.ensures) ∙ apart))

pub solve-requires-clause-few : goal.solve-requires-clause-few
solve-requires-clause-few c =
    let l = few_variables c.args.model.now c.args.set.now.members c.args.path.now (let e = c.row_count-rows.ensures.count in let l = c.row_count-rows.ensures.few in omega (arith, e, l)) (let e = c.column_count-columns.ensures.count in let l = c.column_count-columns.ensures.few in omega (arith, e, l)) in
    subst (λ (s : LinearSystem). variables s < 2 ^ 31) (sym c.in-Ok.ensures) (omega (arith, l))

pub returns-in-Err-clause-end : goal.returns-in-Err-clause-end
returns-in-Err-clause-end c =
    let model = c.args.model.now in
    let set = c.args.set.now.members in
    let path = c.as_slice.ensures in
    subst (λ (p : List Branch). IsNodeEnd model set p c.args.pivots (Err c.stop_end.result)) path
    (c.stop_end.ensures model c.args.pivots c.requires.same
    (subst (λ (s : LinearSystem). IsStopOf s c.args.pivots c.in-Err.stop) (c.in-Ok.ensures ∙ ap (λ (p : List Branch). plain_system model set p false) (sym path))
    (c.in-Err.ensures.plain (ap (λ (s : LinearSystem). s.objective) c.in-Ok.ensures))))

pub cut_end-requires-clause-formed : goal.cut_end-requires-clause-formed
cut_end-requires-clause-formed c =
    let apart = sym c.first_crossing.ensures ∙ c.in_default-first_crossing.is in
    plain_formed c.args.model.now c.args.set.now.members c.args.path.now false c.row_count-rows.ensures.well_formed (ap first_crossing (sym c.in-Ok.ensures) ∙ apart)

pub cut_end-requires-clause-count : goal.cut_end-requires-clause-count
cut_end-requires-clause-count c =
    c.in-Ok-solve.ensures.stands.columns ∙ ap (λ (s : LinearSystem). length s.columns) c.in-Ok.ensures ∙ columns_are c.args.model.now c.args.set.now.members c.args.path.now
