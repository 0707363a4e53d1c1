use Rattle.std.proofs.Common.{◌≤◌, sym, ◌∙◌, ap, subst, length, arith}
use Rattle.lp_model.specs.Shown.{most_columns, most_members, most_rows}
use Rattle.analysis.proofs.Sizes.{members_few, rows_and_soft, size_few}
use Rattle.analysis.proofs.linear.size_of.Goals as goal

pub soft_count-soft-requires-clause-few : goal.soft_count-soft-requires-clause-few
soft_count-soft-requires-clause-few c =
    let set = c.args.set.now in
    let short = subst (λ n. n ≤ most_rows) (c.row_count-rows.ensures.count ∙ sym c.requires.same.rows) c.row_count-rows.ensures.few in
    let narrow = subst (λ n. n ≤ most_columns) (c.column_count-columns.ensures.count ∙ sym c.requires.same.columns) c.column_count-columns.ensures.few in
    let few : length set.members ≤ most_members = members_few set c.stands_in_order.ensures.possible short narrow in
    omega (arith, few)

pub overflow_add-result : goal.overflow_add-result
overflow_add-result c =
    let model = c.args.model.now in
    let set = c.args.set.now in
    let enforced = c.args.enforced.now.members in
    let short : length model.rows ≤ most_rows = subst (λ n. n ≤ most_rows) c.row_count-rows.ensures.count c.row_count-rows.ensures.few in
    let narrow : length model.columns ≤ most_columns = subst (λ n. n ≤ most_columns) c.column_count-columns.ensures.count c.column_count-columns.ensures.few in
    let few = rows_and_soft model set enforced c.requires.same c.stands_in_order.ensures.possible short narrow in
    let rows : length c.as_slice.result.now ≤ most_rows = subst (λ n. n ≤ most_rows) (sym (ap length (c.as_slice.ensures.value ∙ c.in_ok-rows.ensures))) few.0 in
    let soft : c.soft_count-soft.result ≤ most_members = subst (λ n. n ≤ most_members) (sym c.soft_count-soft.ensures) few.1 in
    let columns : c.column_count-columns.result ≤ most_columns = c.column_count-columns.ensures.few in
    omega (arith, rows, soft, columns)

pub overflow_add-result-2 : goal.overflow_add-result-2
overflow_add-result-2 c =
    let model = c.args.model.now in
    let set = c.args.set.now in
    let enforced = c.args.enforced.now.members in
    let short : length model.rows ≤ most_rows = subst (λ n. n ≤ most_rows) c.row_count-rows.ensures.count c.row_count-rows.ensures.few in
    let narrow : length model.columns ≤ most_columns = subst (λ n. n ≤ most_columns) c.column_count-columns.ensures.count c.column_count-columns.ensures.few in
    let few = rows_and_soft model set enforced c.requires.same c.stands_in_order.ensures.possible short narrow in
    let rows : length c.as_slice.result.now ≤ most_rows = subst (λ n. n ≤ most_rows) (sym (ap length (c.as_slice.ensures.value ∙ c.in_ok-rows.ensures))) few.0 in
    let soft : c.soft_count-soft.result ≤ most_members = subst (λ n. n ≤ most_members) (sym c.soft_count-soft.ensures) few.1 in
    let columns : c.column_count-columns.result ≤ most_columns = c.column_count-columns.ensures.few in
    omega (arith, rows, soft, columns)

pub overflow_add-result-3 : goal.overflow_add-result-3
overflow_add-result-3 c =
    let model = c.args.model.now in
    let set = c.args.set.now in
    let enforced = c.args.enforced.now.members in
    let short : length model.rows ≤ most_rows = subst (λ n. n ≤ most_rows) c.row_count-rows.ensures.count c.row_count-rows.ensures.few in
    let narrow : length model.columns ≤ most_columns = subst (λ n. n ≤ most_columns) c.column_count-columns.ensures.count c.column_count-columns.ensures.few in
    let few = rows_and_soft model set enforced c.requires.same c.stands_in_order.ensures.possible short narrow in
    let rows : length c.as_slice.result.now ≤ most_rows = subst (λ n. n ≤ most_rows) (sym (ap length (c.as_slice.ensures.value ∙ c.in_ok-rows.ensures))) few.0 in
    let soft : c.soft_count-soft.result ≤ most_members = subst (λ n. n ≤ most_members) (sym c.soft_count-soft.ensures) few.1 in
    let columns : c.column_count-columns.result ≤ most_columns = c.column_count-columns.ensures.few in
    omega (arith, rows, soft, columns)

pub overflow_mul-result : goal.overflow_mul-result
overflow_mul-result c =
    let model = c.args.model.now in
    let set = c.args.set.now in
    let enforced = c.args.enforced.now.members in
    let short : length model.rows ≤ most_rows = subst (λ n. n ≤ most_rows) c.row_count-rows.ensures.count c.row_count-rows.ensures.few in
    let narrow : length model.columns ≤ most_columns = subst (λ n. n ≤ most_columns) c.column_count-columns.ensures.count c.column_count-columns.ensures.few in
    let few = rows_and_soft model set enforced c.requires.same c.stands_in_order.ensures.possible short narrow in
    let rows : length c.as_slice.result.now ≤ most_rows = subst (λ n. n ≤ most_rows) (sym (ap length (c.as_slice.ensures.value ∙ c.in_ok-rows.ensures))) few.0 in
    let soft : c.soft_count-soft.result ≤ most_members = subst (λ n. n ≤ most_members) (sym c.soft_count-soft.ensures) few.1 in
    let columns : c.column_count-columns.result ≤ most_columns = c.column_count-columns.ensures.few in
    let most = size_few (length c.as_slice.result.now) c.soft_count-soft.result c.column_count-columns.result rows soft columns in
    omega (arith, most)
