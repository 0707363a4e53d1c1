use Rattle.std.proofs.Common.{sym, ap, ◌∙◌, nat_eq, []}
use Rattle.indexmap.specs.IndexMap.{insert_entry}
use Rattle.mps_lines.specs.Said.{figure_shown}
use Rattle.text_fields.specs.declared.faults.TextKind.TheVariants.{BadNumber, NumberWide}
use Rattle.text_fields.specs.declared.faults.ReadKind.TheVariants.{Text, UnknownName, DuplicateEntry}
use Rattle.mps_reader.specs.Tables.{sides_of, bound_in, is_free}
use Rattle.mps_reader.proofs.Taken.{stops}
use Rattle.mps_reader.proofs.Tested.{ends}
use Rattle.mps_reader.proofs.Sided.{fault_side, figure_unknown, figure_bad, figure_free, figure_wide, figure_twice, figure_once, side_passed, side_taken}
use Rattle.mps_reader.proofs.sides.take_side.Goals as goal

pub returns-in_default : goal.returns-in_default
returns-in_default c = λ steps h.
    let figure = figure_shown c.args.figure in
    stops c.args.line _ UnknownName c.refusal.result c.refusal.ensures (fault_side steps figure ∙ figure_unknown c.args.reader.now steps (sides_of steps) figure [] h c.in_default.ensures)

pub returns-in_default-literal_of : goal.returns-in_default-literal_of
returns-in_default-literal_of c = λ steps h.
    let figure = figure_shown c.args.figure in
    stops c.args.line _ (Text BadNumber) c.refusal-in_default-literal_of.result c.refusal-in_default-literal_of.ensures
    (fault_side steps figure ∙ figure_bad c.args.reader.now steps (sides_of steps) figure [] h c.in-Some.row c.in-Some.ensures (sym c.in_default-literal_of.ensures))

pub returns-then-is_free_kind : goal.returns-then-is_free_kind
returns-then-is_free_kind c = λ steps h.
    let figure = figure_shown c.args.figure in
    let free = ap is_free (sym c.kind_at.ensures) ∙ sym c.is_free_kind.ensures ∙ c.if-is_free_kind.true in (
      fault_side steps figure ∙ figure_free c.args.reader.now steps (sides_of steps) figure [] h c.in-Some.row c.in-Some.ensures c.in-Some-literal_of.literal (sym c.in-Some-literal_of.ensures) free ends,
      side_passed c.args.reader.now steps figure h c.in-Some.row c.in-Some.ensures c.in-Some-literal_of.literal (sym c.in-Some-literal_of.ensures) free,
    )

pub returns-then-is_wide_limit : goal.returns-then-is_wide_limit
returns-then-is_wide_limit c = λ steps h.
    let figure = figure_shown c.args.figure in
    let free = ap is_free (sym c.kind_at.ensures) ∙ sym c.is_free_kind.ensures ∙ c.if-is_free_kind.false in
    stops c.args.line _ (Text NumberWide) c.refusal-then-is_wide_limit.result c.refusal-then-is_wide_limit.ensures
    (fault_side steps figure ∙ figure_wide c.args.reader.now steps (sides_of steps) figure [] h c.in-Some.row c.in-Some.ensures c.in-Some-literal_of.literal (sym c.in-Some-literal_of.ensures) free (sym c.is_wide_limit.ensures ∙ c.if-is_wide_limit.true))

pub returns-then-contains_key : goal.returns-then-contains_key
returns-then-contains_key c = λ steps h.
    let figure = figure_shown c.args.figure in
    let free = ap is_free (sym c.kind_at.ensures) ∙ sym c.is_free_kind.ensures ∙ c.if-is_free_kind.false in
    stops c.args.line _ DuplicateEntry c.refusal-then-contains_key.result c.refusal-then-contains_key.ensures
    (fault_side steps figure ∙ figure_twice c.args.reader.now steps (sides_of steps) figure [] h c.in-Some.row c.in-Some.ensures c.in-Some-literal_of.literal (sym c.in-Some-literal_of.ensures)
    bound_in (λ v. v) c.args.reader.now.rights.entries h.rights free (sym c.is_wide_limit.ensures ∙ c.if-is_wide_limit.false) (sym c.contains_key.ensures ∙ c.if-contains_key.true))

pub returns : goal.returns
returns c = λ steps h.
    let figure = figure_shown c.args.figure in
    let free = ap is_free (sym c.kind_at.ensures) ∙ sym c.is_free_kind.ensures ∙ c.if-is_free_kind.false in
    let absent = sym c.contains_key.ensures ∙ c.if-contains_key.false in (
      fault_side steps figure ∙ figure_once c.args.reader.now steps (sides_of steps) figure [] h c.in-Some.row c.in-Some.ensures c.in-Some-literal_of.literal (sym c.in-Some-literal_of.ensures)
          bound_in (λ v. v) c.args.reader.now.rights.entries h.rights free (sym c.is_wide_limit.ensures ∙ c.if-is_wide_limit.false) absent ends,
      side_taken c.args.reader.now steps figure h c.in-Some.row c.in-Some.ensures c.in-Some-literal_of.literal (sym c.in-Some-literal_of.ensures) (record c.args.reader.now { rights = c.insert.new.self })
          (c.in_ok-insert.ensures.entries ∙ ap (insert_entry nat_eq c.args.reader.now.rights.entries c.in-Some.row) c.bound.ensures) absent,
    )
