use Rattle.std.proofs.Common.{sym, ap, ◌∙◌, [], ◌∷◌, not, ◌&&◌, Some}
use Rattle.mps_lines.specs.Said.{figure_shown}
use Rattle.text_fields.specs.declared.faults.TextKind.TheVariants.{BadNumber, NumberWide}
use Rattle.text_fields.specs.declared.faults.ReadKind.TheVariants.{Text, UnknownName, DuplicateEntry, SumWide}
use Rattle.text_fields.specs.Numbers.{literal_in}
use Rattle.mps_reader.specs.Tables.{ranges_of, is_free, is_free_row}
use Rattle.mps_reader.specs.Faults.{is_sum_wide}
use Rattle.mps_reader.specs.Sides.{is_range_wide}
use Rattle.mps_reader.proofs.Taken.{stops}
use Rattle.mps_reader.proofs.Sided.{fault_range, figure_unknown, figure_bad, figure_free, figure_wide, figure_twice, figure_once, range_passed, range_taken, sum_wide, sum_fits, sum_free}
use Rattle.mps_reader.proofs.sides.take_range.Goals as goal

pub returns-in_default : goal.returns-in_default
returns-in_default c = λ steps h.
    let figure = figure_shown c.args.figure in
    stops c.args.line _ UnknownName c.refusal.result c.refusal.ensures (fault_range steps figure ∙ figure_unknown c.args.reader.now steps (ranges_of steps) figure ((not (is_free_row steps figure.row) && is_sum_wide steps figure, SumWide) ∷ []) h c.in_default.ensures)

pub returns-in_default-literal_of : goal.returns-in_default-literal_of
returns-in_default-literal_of c = λ steps h.
    let figure = figure_shown c.args.figure in
    stops c.args.line _ (Text BadNumber) c.refusal-in_default-literal_of.result c.refusal-in_default-literal_of.ensures
    (fault_range steps figure ∙ figure_bad c.args.reader.now steps (ranges_of steps) figure ((not (is_free_row steps figure.row) && is_sum_wide steps figure, SumWide) ∷ []) h c.in-Some.row c.in-Some.ensures (sym c.in_default-literal_of.ensures))

pub returns-then-is_free_kind : goal.returns-then-is_free_kind
returns-then-is_free_kind c = λ steps h.
    let figure = figure_shown c.args.figure in
    let free = ap is_free (sym c.kind_at-kind.ensures) ∙ sym c.is_free_kind.ensures ∙ c.if-is_free_kind.true in (
      fault_range steps figure ∙ figure_free c.args.reader.now steps (ranges_of steps) figure ((not (is_free_row steps figure.row) && is_sum_wide steps figure, SumWide) ∷ []) h c.in-Some.row c.in-Some.ensures c.in-Some-literal_of.literal (sym c.in-Some-literal_of.ensures) free (sum_free c.args.reader.now steps figure h c.in-Some.row c.in-Some.ensures c.in-Some-literal_of.literal (sym c.in-Some-literal_of.ensures) free),
      range_passed c.args.reader.now steps figure h c.in-Some.row c.in-Some.ensures c.in-Some-literal_of.literal (sym c.in-Some-literal_of.ensures) free,
    )

pub returns-then-is_wide_limit : goal.returns-then-is_wide_limit
returns-then-is_wide_limit c = λ steps h.
    let figure = figure_shown c.args.figure in
    let free = ap is_free (sym c.kind_at-kind.ensures) ∙ sym c.is_free_kind.ensures ∙ c.if-is_free_kind.false in
    stops c.args.line _ (Text NumberWide) c.refusal-then-is_wide_limit.result c.refusal-then-is_wide_limit.ensures
    (fault_range steps figure ∙ figure_wide c.args.reader.now steps (ranges_of steps) figure ((not (is_free_row steps figure.row) && is_sum_wide steps figure, SumWide) ∷ []) h c.in-Some.row c.in-Some.ensures c.in-Some-literal_of.literal (sym c.in-Some-literal_of.ensures) free (sym c.is_wide_limit.ensures ∙ c.if-is_wide_limit.true))

pub returns-then-contains_key : goal.returns-then-contains_key
returns-then-contains_key c = λ steps h.
    let figure = figure_shown c.args.figure in
    let free = ap is_free (sym c.kind_at-kind.ensures) ∙ sym c.is_free_kind.ensures ∙ c.if-is_free_kind.false in
    stops c.args.line _ DuplicateEntry c.refusal-then-contains_key.result c.refusal-then-contains_key.ensures
    (fault_range steps figure ∙ figure_twice c.args.reader.now steps (ranges_of steps) figure ((not (is_free_row steps figure.row) && is_sum_wide steps figure, SumWide) ∷ []) h c.in-Some.row c.in-Some.ensures c.in-Some-literal_of.literal (sym c.in-Some-literal_of.ensures)
    literal_in Some c.args.reader.now.ranges.entries h.ranges free (sym c.is_wide_limit.ensures ∙ c.if-is_wide_limit.false) (sym c.contains_key.ensures ∙ c.if-contains_key.true))

pub returns-then-is_sum_wide : goal.returns-then-is_sum_wide
returns-then-is_sum_wide c = λ steps h.
    let figure = figure_shown c.args.figure in
    let free = ap is_free (sym c.kind_at-kind.ensures) ∙ sym c.is_free_kind.ensures ∙ c.if-is_free_kind.false in
    let wide = (λ i. is_range_wide (sym c.kind_at-kind.ensures i) (sym c.right_at.ensures i) c.in-Some-literal_of.literal) ∙ sym c.is_sum_wide.ensures ∙ c.if-is_sum_wide.true in
    stops c.args.line _ SumWide c.refusal-then-is_sum_wide.result c.refusal-then-is_sum_wide.ensures
    (fault_range steps figure ∙ figure_once c.args.reader.now steps (ranges_of steps) figure ((not (is_free_row steps figure.row) && is_sum_wide steps figure, SumWide) ∷ []) h c.in-Some.row c.in-Some.ensures c.in-Some-literal_of.literal (sym c.in-Some-literal_of.ensures)
    literal_in Some c.args.reader.now.ranges.entries h.ranges free (sym c.is_wide_limit.ensures ∙ c.if-is_wide_limit.false) (sym c.contains_key.ensures ∙ c.if-contains_key.false)
    (sum_wide c.args.reader.now steps figure h c.in-Some.row c.in-Some.ensures c.in-Some-literal_of.literal (sym c.in-Some-literal_of.ensures) free wide))

pub returns : goal.returns
returns c = λ steps h.
    let figure = figure_shown c.args.figure in
    let free = ap is_free (sym c.kind_at-kind.ensures) ∙ sym c.is_free_kind.ensures ∙ c.if-is_free_kind.false in
    let absent = sym c.contains_key.ensures ∙ c.if-contains_key.false in
    let fits = (λ i. is_range_wide (sym c.kind_at-kind.ensures i) (sym c.right_at.ensures i) c.in-Some-literal_of.literal) ∙ sym c.is_sum_wide.ensures ∙ c.if-is_sum_wide.false in (
      fault_range steps figure ∙ figure_once c.args.reader.now steps (ranges_of steps) figure ((not (is_free_row steps figure.row) && is_sum_wide steps figure, SumWide) ∷ []) h c.in-Some.row c.in-Some.ensures c.in-Some-literal_of.literal (sym c.in-Some-literal_of.ensures)
          literal_in Some c.args.reader.now.ranges.entries h.ranges free (sym c.is_wide_limit.ensures ∙ c.if-is_wide_limit.false) absent
          (sum_fits c.args.reader.now steps figure h c.in-Some.row c.in-Some.ensures c.in-Some-literal_of.literal (sym c.in-Some-literal_of.ensures) free fits),
      range_taken c.args.reader.now steps figure h c.in-Some.row c.in-Some.ensures c.in-Some-literal_of.literal (sym c.in-Some-literal_of.ensures) (record c.args.reader.now { ranges = c.put_range.new.ranges }) c.in_ok-put_range.ensures absent,
    )
