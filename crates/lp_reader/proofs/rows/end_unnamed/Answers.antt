use Rattle.std.proofs.Common.{◌≡◌, ℕ, ◌+◌, ◌<◌, ◌≤◌, List, length, None, sym, ap, ◌∙◌, subst, arith}
use Rattle.std.proofs.lemmas.Result.{err_from_is_err_and}
use Rattle.name_map.specs.Names.{names_of}
use Rattle.name_map.proofs.NameLists.{length_map}
use Rattle.lp_model.specs.Shown.{most_rows, longest_name}
use Rattle.lp_model.specs.declared.parts.Row.{Row}
use Rattle.lp_statements.specs.Statements.{shown_constant}
use Rattle.std.specs.List.{list_any}
use Rattle.std.specs.Str.{bytes_eq}
use Rattle.lp_reader.specs.Numbers.{side_of}
use Rattle.lp_reader.specs.Names.{row_name}
use Rattle.lp_reader.specs.Faults.{row_end_fault}
use Rattle.lp_reader.specs.Sides.{PutsRow, ended_row}
use Rattle.text_fields.specs.Faults.{IsFaultOf}
use Rattle.lp_reader.proofs.EndRows.{generated_short, unnamed_known, unnamed_constant, unnamed_full, unnamed_none}
use Rattle.lp_reader.proofs.rows.end_unnamed.Goals as goal

pub overflow_add-len : goal.overflow_add-len
overflow_add-len c =
    let long : length (names_of c.args.rows.now.names) ≡ length c.args.rows.now.names = length_map (λ e. e.0) c.args.rows.now.names in
    let is = c.len.ensures.len in let few = c.requires in record { fits = omega arith }

pub returns-then-contains : goal.returns-then-contains
returns-then-contains c =
    let n = names_of c.args.rows.now.names in
    let long : length n ≡ length c.args.rows.now.names = length_map (λ e. e.0) c.args.rows.now.names in
    let is : c.as_bytes.result.now ≡ row_name (length n + 1) None = c.as_bytes.ensures.value ∙ c.in_ok-name.ensures ∙ ap (λ (k : ℕ). row_name (k + 1) None) (c.len.ensures.len ∙ sym long) in
    subst (IsFaultOf (row_end_fault n None (shown_constant c.args.right))) (sym c.stop_at.ensures) (unnamed_known n (shown_constant c.args.right) c.as_bytes.result.now is (sym c.if-contains.ensures))

pub returns-in_err-side : goal.returns-in_err-side
returns-in_err-side c =
    let n = names_of c.args.rows.now.names in
    let long : length n ≡ length c.args.rows.now.names = length_map (λ e. e.0) c.args.rows.now.names in
    let is : c.as_bytes.result.now ≡ row_name (length n + 1) None = c.as_bytes.ensures.value ∙ c.in_ok-name.ensures ∙ ap (λ (k : ℕ). row_name (k + 1) None) (c.len.ensures.len ∙ sym long) in
    let p = err_from_is_err_and c.from_residual-in_err-side.result c.from_residual-in_err-side.ensures.1 in
    rw (p.1, p.2) (unnamed_constant n (shown_constant c.args.right) c.as_bytes.result.now is c.in_err-side.field-0.0 (sym c.if-contains.ensures) c.in_err-side.ensures)

pub returns-then-len-ge-MOST_ROWS : goal.returns-then-len-ge-MOST_ROWS
returns-then-len-ge-MOST_ROWS c =
    let n = names_of c.args.rows.now.names in
    let long : length n ≡ length c.args.rows.now.names = length_map (λ e. e.0) c.args.rows.now.names in
    let is : c.as_bytes.result.now ≡ row_name (length n + 1) None = c.as_bytes.ensures.value ∙ c.in_ok-name.ensures ∙ ap (λ (k : ℕ). row_name (k + 1) None) (c.len.ensures.len ∙ sym long) in
    let full : most_rows ≤ length n = omega (arith, c.len-2.ensures.len) in
    subst (IsFaultOf (row_end_fault n None (shown_constant c.args.right))) (sym c.stop_at-then-len-ge-MOST_ROWS.ensures) (unnamed_full n (shown_constant c.args.right) c.as_bytes.result.now is (sym c.if-contains.ensures) c.in_ok-side.ensures.0 full)

pub put_row-requires-clause-fresh : goal.put_row-requires-clause-fresh
put_row-requires-clause-fresh c =
    ap (λ (name : List ℕ). list_any (bytes_eq name) (names_of c.args.rows.now.names)) (c.as_bytes-2.ensures.value ∙ sym c.as_bytes.ensures.value) ∙ sym c.if-contains.ensures

pub put_row-requires-clause-room : goal.put_row-requires-clause-room
put_row-requires-clause-room c =
    let long : length (names_of c.args.rows.now.names) ≡ length c.args.rows.now.names = length_map (λ e. e.0) c.args.rows.now.names in
    omega (arith, c.len-2.ensures.len)

pub put_row-requires-clause-short : goal.put_row-requires-clause-short
put_row-requires-clause-short c =
    let n = names_of c.args.rows.now.names in
    let long : length n ≡ length c.args.rows.now.names = length_map (λ e. e.0) c.args.rows.now.names in
    let is : c.as_bytes.result.now ≡ row_name (length n + 1) None = c.as_bytes.ensures.value ∙ c.in_ok-name.ensures ∙ ap (λ (k : ℕ). row_name (k + 1) None) (c.len.ensures.len ∙ sym long) in
    let room : length n < most_rows = omega (arith, c.len-2.ensures.len) in
    subst (λ (name : List ℕ). length name ≤ longest_name) (sym (c.as_bytes-2.ensures.value ∙ sym c.as_bytes.ensures.value ∙ is)) (generated_short (length n + 1) (omega arith))

pub returns : goal.returns
returns c =
    let n = names_of c.args.rows.now.names in
    let long : length n ≡ length c.args.rows.now.names = length_map (λ e. e.0) c.args.rows.now.names in
    let is : c.as_bytes.result.now ≡ row_name (length n + 1) None = c.as_bytes.ensures.value ∙ c.in_ok-name.ensures ∙ ap (λ (k : ℕ). row_name (k + 1) None) (c.len.ensures.len ∙ sym long) in
    let room : length n < most_rows = omega (arith, c.len-2.ensures.len) in (
      unnamed_none n (shown_constant c.args.right) c.as_bytes.result.now is (sym c.if-contains.ensures) c.in_ok-side.ensures.0 room,
      subst (λ (name : List ℕ). PutsRow c.args.rows.now c.put_row.new.rows name (ended_row c.args.form c.args.relation c.args.left.now (side_of (shown_constant c.args.right)))) (c.as_bytes-2.ensures.value ∙ sym c.as_bytes.ensures.value ∙ is)
          (subst (λ (row : Row). PutsRow c.args.rows.now c.put_row.new.rows c.as_bytes-2.result.now row) (c.make_row.ensures ∙ ap (ended_row c.args.form c.args.relation c.args.left.now) c.in_ok-side.ensures.1) c.in_ok-put_row.ensures),
    )
