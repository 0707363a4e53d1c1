use Rattle.std.proofs.Common.{◌≡◌, ◌+◌, ◌*◌, ◌≤◌, length, ap, ◌∙◌, arith, mul-le-mul}
use Rattle.lp_model.specs.Shown.{most_columns, most_rows}
use Rattle.certs.specs.Plain.{rows_in}
use Rattle.analysis.proofs.Objectives.{few_rows}
use Rattle.analysis.proofs.sizing.size_of.Goals as goal

pub overflow_add-result : goal.overflow_add-result
overflow_add-result c =
    let all = ap length (c.as_slice.ensures.value ∙ c.in_ok-rows.ensures) in
    let few = few_rows c.args.model.now c.args.set.now.members in
    let same = c.row_count-rows.ensures.count in
    let most = c.row_count-rows.ensures.few in
    let more = c.requires.few in
    omega (arith, all, few, same, most, more)

pub overflow_mul-result : goal.overflow_mul-result
overflow_mul-result c =
    let rows = length c.as_slice.result.now in
    let columns = c.column_count-columns.result in
    let all : rows ≡ length (rows_in c.args.model.now c.args.set.now.members) = ap length (c.as_slice.ensures.value ∙ c.in_ok-rows.ensures) in
    let few : rows + c.args.more ≤ most_rows + 1 = (let a = few_rows c.args.model.now c.args.set.now.members in let b = c.row_count-rows.ensures.count in let d = c.row_count-rows.ensures.few in let m = c.requires.few in omega (arith, all, a, b, d, m)) in
    let narrow : columns ≤ most_columns = c.column_count-columns.ensures.few in
    let most : (rows + c.args.more) * columns ≤ (most_rows + 1) * most_columns = mul-le-mul few narrow in
    omega (arith, most)
