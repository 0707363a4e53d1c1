use Rattle.std.proofs.Common.{sym, ◌∙◌}
use Rattle.text_fields.specs.declared.faults.ReadKind.TheVariants.{DuplicateName, Limit}
use Rattle.mps_reader.proofs.Taken.{stops, row_known, row_long, row_full, row_fits}
use Rattle.mps_reader.proofs.rows.take_row.Goals as goal

pub returns-then-contains : goal.returns-then-contains
returns-then-contains c = λ steps h.
    stops c.args.line _ DuplicateName c.refusal.result c.refusal.ensures (row_known c.args.reader.now steps c.args.kind c.args.name.now h (sym c.contains.ensures ∙ c.if-contains.true))

pub returns-then-is_long : goal.returns-then-is_long
returns-then-is_long c = λ steps h.
    stops c.args.line _ Limit c.refusal-then-is_long.result c.refusal-then-is_long.ensures
    (row_long c.args.reader.now steps c.args.kind c.args.name.now h (sym c.contains.ensures ∙ c.if-contains.false) (sym c.is_long.ensures ∙ c.if-is_long.true))

pub returns-then-is_full : goal.returns-then-is_full
returns-then-is_full c = λ steps h.
    stops c.args.line _ Limit c.refusal-then-is_full.result c.refusal-then-is_full.ensures
    (row_full c.args.reader.now steps c.args.kind c.args.name.now h (sym c.contains.ensures ∙ c.if-contains.false) (sym c.is_long.ensures ∙ c.if-is_long.false) (sym c.is_full.ensures ∙ c.if-is_full.true))

pub returns : goal.returns
returns c = λ steps h.
    (row_fits c.args.reader.now steps c.args.kind c.args.name.now h (sym c.contains.ensures ∙ c.if-contains.false) (sym c.is_long.ensures ∙ c.if-is_long.false) (sym c.is_full.ensures ∙ c.if-is_full.false), c.in_ok-put_row.ensures steps h)
