use Rattle.std.proofs.Common.{sym, ◌∙◌}
use Rattle.name_map.specs.Names.{name_at}
use Rattle.mps_lines.specs.Said.{figure_shown}
use Rattle.text_fields.specs.declared.faults.TextKind.TheVariants.{BadNumber, NumberWide}
use Rattle.text_fields.specs.declared.faults.ReadKind.TheVariants.{Text, UnknownName, DuplicateEntry, Limit}
use Rattle.mps_reader.specs.Held.{column_names_held}
use Rattle.mps_reader.proofs.Taken.{stops}
use Rattle.mps_reader.proofs.Entered.{entry_unknown, entry_bad, entry_dropped_full, entry_dropped_fits, entry_counts, entry_wide, entry_twice, entry_full, entry_fits, entry_taken}
use Rattle.mps_reader.proofs.columns.take_entry.Goals as goal

pub returns-in_default-clause-takes : goal.returns-in_default-clause-takes
returns-in_default-clause-takes c = λ steps h.
    stops c.args.line _ UnknownName c.refusal.result c.refusal.ensures (entry_unknown c.args.reader.now steps (name_at (column_names_held c.args.reader.now) c.args.column) (figure_shown c.args.figure) h c.in_default.ensures)

pub returns-in_default-literal_of-clause-takes : goal.returns-in_default-literal_of-clause-takes
returns-in_default-literal_of-clause-takes c = λ steps h.
    stops c.args.line _ (Text BadNumber) c.refusal-in_default-literal_of.result c.refusal-in_default-literal_of.ensures
    (entry_bad c.args.reader.now steps (name_at (column_names_held c.args.reader.now) c.args.column) (figure_shown c.args.figure) h c.in-Some.row c.in-Some.ensures (sym c.in_default-literal_of.ensures))

pub returns-then-reader-ge-MOST_ENTRIES-clause-takes : goal.returns-then-reader-ge-MOST_ENTRIES-clause-takes
returns-then-reader-ge-MOST_ENTRIES-clause-takes c = λ steps h.
    stops c.args.line _ Limit c.refusal-then-reader-ge-MOST_ENTRIES.result c.refusal-then-reader-ge-MOST_ENTRIES.ensures
    (entry_dropped_full c.args.reader.now steps (name_at (column_names_held c.args.reader.now) c.args.column) (figure_shown c.args.figure) h c.in-Some.row c.in-Some.ensures
    c.in-Some-literal_of.literal (sym c.in-Some-literal_of.ensures) (sym c.is_dropped_at.ensures ∙ c.if-is_dropped_at.true) c.if-reader-ge-MOST_ENTRIES.true)

pub returns-then-is_dropped_at-clause-takes : goal.returns-then-is_dropped_at-clause-takes
returns-then-is_dropped_at-clause-takes c = λ steps h.
    let column = name_at (column_names_held c.args.reader.now) c.args.column in
    let drops = sym c.is_dropped_at.ensures ∙ c.if-is_dropped_at.true in (
      entry_dropped_fits c.args.reader.now steps column (figure_shown c.args.figure) h c.in-Some.row c.in-Some.ensures c.in-Some-literal_of.literal (sym c.in-Some-literal_of.ensures) drops c.if-reader-ge-MOST_ENTRIES.false,
      entry_counts c.args.reader.now steps column (figure_shown c.args.figure) h c.in-Some.row c.in-Some.ensures c.in-Some-literal_of.literal (sym c.in-Some-literal_of.ensures) drops,
    )

pub returns-in_default-fitting-clause-takes : goal.returns-in_default-fitting-clause-takes
returns-in_default-fitting-clause-takes c = λ steps h.
    stops c.args.line _ (Text NumberWide) c.refusal-in_default-fitting.result c.refusal-in_default-fitting.ensures
    (entry_wide c.args.reader.now steps (name_at (column_names_held c.args.reader.now) c.args.column) (figure_shown c.args.figure) h c.in-Some.row c.in-Some.ensures
    c.in-Some-literal_of.literal (sym c.in-Some-literal_of.ensures) (sym c.is_dropped_at.ensures ∙ c.if-is_dropped_at.false) (sym c.in_default-fitting.ensures))

pub returns-then-contains_key-clause-takes : goal.returns-then-contains_key-clause-takes
returns-then-contains_key-clause-takes c = λ steps h.
    stops c.args.line _ DuplicateEntry c.refusal-then-contains_key.result c.refusal-then-contains_key.ensures
    (entry_twice c.args.reader.now steps (name_at (column_names_held c.args.reader.now) c.args.column) (figure_shown c.args.figure) h c.in-Some.row c.in-Some.ensures
    c.in-Some-literal_of.literal (sym c.in-Some-literal_of.ensures) c.in-Some-fitting.value (sym c.in-Some-fitting.ensures) c.args.column c.requires (sym c.is_dropped_at.ensures ∙ c.if-is_dropped_at.false) (sym c.contains_key.ensures ∙ c.if-contains_key.true))

pub returns-then-reader-ge-MOST_ENTRIES-2-clause-takes : goal.returns-then-reader-ge-MOST_ENTRIES-2-clause-takes
returns-then-reader-ge-MOST_ENTRIES-2-clause-takes c = λ steps h.
    stops c.args.line _ Limit c.refusal-then-reader-ge-MOST_ENTRIES-2.result c.refusal-then-reader-ge-MOST_ENTRIES-2.ensures
    (entry_full c.args.reader.now steps (name_at (column_names_held c.args.reader.now) c.args.column) (figure_shown c.args.figure) h c.in-Some.row c.in-Some.ensures
    c.in-Some-literal_of.literal (sym c.in-Some-literal_of.ensures) c.in-Some-fitting.value (sym c.in-Some-fitting.ensures) c.args.column c.requires (sym c.is_dropped_at.ensures ∙ c.if-is_dropped_at.false) (sym c.contains_key.ensures ∙ c.if-contains_key.false) c.if-reader-ge-MOST_ENTRIES-2.true)

pub returns-clause-takes : goal.returns-clause-takes
returns-clause-takes c = λ steps h.
    let column = name_at (column_names_held c.args.reader.now) c.args.column in
    let drops = sym c.is_dropped_at.ensures ∙ c.if-is_dropped_at.false in
    let absent = sym c.contains_key.ensures ∙ c.if-contains_key.false in (
      entry_fits c.args.reader.now steps column (figure_shown c.args.figure) h c.in-Some.row c.in-Some.ensures c.in-Some-literal_of.literal (sym c.in-Some-literal_of.ensures) c.in-Some-fitting.value (sym c.in-Some-fitting.ensures) c.args.column c.requires drops absent c.if-reader-ge-MOST_ENTRIES-2.false,
      entry_taken c.args.reader.now steps column (figure_shown c.args.figure) h c.in-Some.row c.in-Some.ensures c.in-Some-literal_of.literal (sym c.in-Some-literal_of.ensures) c.in-Some-fitting.value (sym c.in-Some-fitting.ensures) c.args.column c.requires
          (record c.args.reader.now { entries = c.insert.new.self }) c.in_ok-insert.ensures.entries absent,
    )
