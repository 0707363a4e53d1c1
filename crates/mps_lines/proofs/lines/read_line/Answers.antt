use Rattle.std.proofs.Common.{[], List, map, refl, subst}
use Rattle.std.proofs.lemmas.Result.{err_from_is_err_and}
use Rattle.text_fields.specs.declared.spans.Span.{Span}
use Rattle.text_fields.specs.Fields.{AddsFields}
use Rattle.text_fields.specs.Lines.{text_of}
use Rattle.mps_lines.specs.Said.{AreFields, record_at}
use Rattle.mps_lines.proofs.Reading.{refused-fields, fields-are, says-line, refused-line}
use Rattle.mps_lines.proofs.lines.read_line.Goals as goal

pub returns-in_err-fields : goal.returns-in_err-fields
returns-in_err-fields c = λ front shown.
    let p = err_from_is_err_and c.from_residual.result c.from_residual.ensures.1 in
    rw (p.1, p.2) (refused-fields c.args.bytes.now c.args.line.now c.args.context.now front _ _ c.in_err-fields.field-0.0 c.in_err-fields.ensures)

pub returns-in-Ok : goal.returns-in-Ok
returns-in-Ok c = λ front shown.
    let h : AddsFields c.args.bytes.now c.args.line.now [] c.fields.new.into.items = subst (λ (xs : List Span). AddsFields c.args.bytes.now c.args.line.now xs c.fields.new.into.items) c.clear.ensures.items c.in_ok-fields.ensures in
    let f = subst (AreFields c.counted.result) (fields-are c.args.bytes.now c.args.line.now c.args.context.now front c.fields.new.into.items h) (subst (λ (xs : List Span). AreFields c.counted.result (map (text_of c.args.bytes.now) xs)) c.deref.ensures.value c.counted.ensures) in
    says-line c.args.bytes.now c.args.line.now c.args.context.now front shown h.no_fault c.in-Ok.said c.in-Ok.next
    (c.in-Ok.ensures (record_at c.args.bytes.now c.args.line.now c.args.context.now) f c.shape_of-shape.ensures refl)

pub returns-in-Err : goal.returns-in-Err
returns-in-Err c = λ front shown.
    let h : AddsFields c.args.bytes.now c.args.line.now [] c.fields.new.into.items = subst (λ (xs : List Span). AddsFields c.args.bytes.now c.args.line.now xs c.fields.new.into.items) c.clear.ensures.items c.in_ok-fields.ensures in
    let f = subst (AreFields c.counted.result) (fields-are c.args.bytes.now c.args.line.now c.args.context.now front c.fields.new.into.items h) (subst (λ (xs : List Span). AreFields c.counted.result (map (text_of c.args.bytes.now) xs)) c.deref.ensures.value c.counted.ensures) in (
      refused-line c.args.bytes.now c.args.line.now c.args.context.now front shown h.no_fault c.in-Err.kind
          (c.in-Err.ensures (record_at c.args.bytes.now c.args.line.now c.args.context.now) f c.shape_of-shape.ensures refl),
      refl,
    )
