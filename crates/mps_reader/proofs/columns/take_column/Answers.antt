use Rattle.std.proofs.Common.{sym, subst, ap, ◌∙◌, ◌≡◌, ◌++◌, ◌∷◌, [], ◌<◌, List, ℕ, length, arith}
use Rattle.text_fields.specs.declared.faults.ReadKind.TheVariants.{Limit}
use Rattle.lp_model.specs.Shown.{most_columns}
use Rattle.name_map.specs.Names.{StandsAt, names_of}
use Rattle.name_map.proofs.NameLists.{length_map, map_push}
use Rattle.mps_reader.proofs.Taken.{stops, column_old, column_same, column_long, column_full, column_fits, column_taken, last_stands}
use Rattle.mps_reader.proofs.columns.take_column.Goals as goal

pub returns-in-Some-clause-takes : goal.returns-in-Some-clause-takes
returns-in-Some-clause-takes c = λ steps h.
    let there = c.in-Some.ensures.among in
    (column_old c.args.reader.now steps c.args.name.now c.args.whole h there, column_same c.args.reader.now steps c.args.name.now c.args.whole h there)

pub returns-then-is_long-clause-takes : goal.returns-then-is_long-clause-takes
returns-then-is_long-clause-takes c = λ steps h.
    stops c.args.line _ Limit c.refusal.result c.refusal.ensures
    (column_long c.args.reader.now steps c.args.name.now c.args.whole h c.in_default.ensures (sym c.is_long.ensures ∙ c.if-is_long.true))

pub returns-then-column-ge-MOST_COLUMNS-clause-takes : goal.returns-then-column-ge-MOST_COLUMNS-clause-takes
returns-then-column-ge-MOST_COLUMNS-clause-takes c = λ steps h.
    stops c.args.line _ Limit c.refusal-then-column-ge-MOST_COLUMNS.result c.refusal-then-column-ge-MOST_COLUMNS.ensures
    (column_full c.args.reader.now steps c.args.name.now c.args.whole h c.in_default.ensures (sym c.is_long.ensures ∙ c.if-is_long.false) (omega (arith, c.len-column.ensures.len, c.if-column-ge-MOST_COLUMNS.true)))

pub returns-clause-stands : goal.returns-clause-stands
returns-clause-stands c =
    let names = names_of c.args.reader.now.columns in
    let grown : names_of c.push.new.self ≡ names ++ c.args.name.now ∷ [] = ap names_of c.in_ok-push.ensures.ok ∙ map_push (λ e. e.0) c.args.reader.now.columns (c.args.name.now, c.args.whole) in
    subst (λ (ns : List (List ℕ)). StandsAt ns c.args.name.now c.len-column.result) (sym grown)
    (subst (StandsAt (names ++ c.args.name.now ∷ []) c.args.name.now) (length_map (λ e. e.0) c.args.reader.now.columns ∙ sym c.len-column.ensures.len) (last_stands names c.args.name.now c.in_default.ensures))

pub returns-clause-takes : goal.returns-clause-takes
returns-clause-takes c = λ steps h.
    let short = sym c.is_long.ensures ∙ c.if-is_long.false in
    let room : length c.args.reader.now.columns < most_columns = omega (arith, c.len-column.ensures.len, c.if-column-ge-MOST_COLUMNS.false) in (
      column_fits c.args.reader.now steps c.args.name.now c.args.whole h c.in_default.ensures short room,
      column_taken c.args.reader.now steps c.args.name.now c.args.whole h c.push.new.self c.in_ok-push.ensures.ok c.in_default.ensures short room,
    )
