use Rattle.std.proofs.Common.{sym, ◌∙◌}
use Rattle.text_fields.specs.declared.faults.ReadKind.TheVariants.{BadField}
use Rattle.mps_reader.proofs.Taken.{stops, sense_again, sense_first, sense_taken}
use Rattle.mps_reader.proofs.rows.take_sense.Goals as goal

pub returns-then-is_some : goal.returns-then-is_some
returns-then-is_some c = λ steps h.
    stops c.args.line _ BadField c.refusal.result c.refusal.ensures (sense_again c.args.reader.now steps c.args.greatest h (sym c.is_some.ensures ∙ c.if-is_some.true))

pub returns : goal.returns
returns c = λ steps h.
    let new = sym c.is_some.ensures ∙ c.if-is_some.false in
    (sense_first c.args.reader.now steps c.args.greatest h new, sense_taken c.args.reader.now steps c.args.greatest h new)
