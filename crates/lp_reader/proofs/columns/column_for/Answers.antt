use Rattle.std.proofs.Common.{◌≡◌, ◌≤◌, length, refl, sym, subst, arith}
use Rattle.name_map.specs.Names.{names_of}
use Rattle.name_map.proofs.NameLists.{length_map}
use Rattle.lp_model.specs.Shown.{most_columns}
use Rattle.lp_statements.specs.Statements.{shown_text}
use Rattle.lp_reader.specs.Faults.{limit_fault}
use Rattle.text_fields.specs.Faults.{IsFaultOf}
use Rattle.lp_reader.proofs.NewColumns.{limit_many, limit_full, limit_long, limit_known, limit_new, takes_known, takes_new}
use Rattle.lp_reader.proofs.columns.column_for.Goals as goal

pub returns-then-columns-ge-MOST_ENTRIES : goal.returns-then-columns-ge-MOST_ENTRIES
returns-then-columns-ge-MOST_ENTRIES c =
    let n = names_of c.args.columns.now.names in let e = c.args.columns.now.entries in let name = shown_text c.args.name in
    subst (IsFaultOf (limit_fault n e name)) (sym c.stop_at.ensures) (limit_many n e name (omega arith))

pub returns-in-Some : goal.returns-in-Some
returns-in-Some c =
    let n = names_of c.args.columns.now.names in let e = c.args.columns.now.entries in let name = shown_text c.args.name in
    (limit_known n e name (λ h. omega arith) c.in-Some.ensures.among, takes_known c.args.columns.now _ c.args.name.bytes.now c.in-Some.column refl refl refl c.in-Some.ensures)

pub returns-then-len-ge-MOST_COLUMNS : goal.returns-then-len-ge-MOST_COLUMNS
returns-then-len-ge-MOST_COLUMNS c =
    let n = names_of c.args.columns.now.names in let e = c.args.columns.now.entries in let name = shown_text c.args.name in
    let long : length n ≡ length c.args.columns.now.names = length_map (λ e. e.0) c.args.columns.now.names in
    let is = c.len.ensures.len in
    let full : most_columns ≤ length n = omega arith in
    subst (IsFaultOf (limit_fault n e name)) (sym c.stop_at-then-len-ge-MOST_COLUMNS.ensures) (limit_full n e name c.in_default.ensures full)

pub returns-then-is_too_long : goal.returns-then-is_too_long
returns-then-is_too_long c =
    let n = names_of c.args.columns.now.names in let e = c.args.columns.now.entries in let name = shown_text c.args.name in
    subst (IsFaultOf (limit_fault n e name)) (sym c.stop_at-then-is_too_long.ensures) (limit_long n e name c.in_default.ensures (sym c.if-is_too_long.ensures))

pub returns : goal.returns
returns c =
    let n = names_of c.args.columns.now.names in let e = c.args.columns.now.entries in let name = shown_text c.args.name in
    let long : length n ≡ length c.args.columns.now.names = length_map (λ e. e.0) c.args.columns.now.names in
    let is = c.len.ensures.len in let place = c.len-column.ensures.len in (
      limit_new n e name (λ h. omega arith) c.in_default.ensures (λ h. omega arith) (sym c.if-is_too_long.ensures),
      takes_new c.args.columns.now c.put_column.new.columns _ c.args.name.bytes.now c.len-column.result c.in_ok-put_column.ensures refl refl refl c.in_default.ensures (omega arith) (λ h. omega arith) (sym c.if-is_too_long.ensures),
    )
