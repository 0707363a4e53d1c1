use Rattle.std.proofs.Common.{sym, refl, ◌∙◌}
use Rattle.mps_lines.specs.Said.{bound_shown}
use Rattle.text_fields.specs.declared.faults.ReadKind.TheVariants.{Text, UnknownName, DuplicateEntry}
use Rattle.mps_reader.proofs.Taken.{stops}
use Rattle.mps_reader.proofs.Limited.{bound_unknown, bound_stop, bound_twice, bound_fits}
use Rattle.mps_reader.proofs.bounds.take_bound.Goals as goal

pub returns-in_default : goal.returns-in_default
returns-in_default c = λ steps h.
    stops c.args.line _ UnknownName c.refusal.result c.refusal.ensures (bound_unknown c.args.reader.now steps (bound_shown c.args.given) h c.in_default.ensures)

pub returns-in-Err : goal.returns-in-Err
returns-in-Err c = λ steps h.
    stops c.args.line _ (Text c.in-Err.kind) c.refusal-in-Err.result c.refusal-in-Err.ensures (bound_stop c.args.reader.now steps (bound_shown c.args.given) h c.in-Some.column c.in-Some.ensures c.in-Err.kind c.in-Err.ensures)

pub returns-then-is_set : goal.returns-then-is_set
returns-then-is_set c = λ steps h.
    stops c.args.line _ DuplicateEntry c.refusal-then-is_set.result c.refusal-then-is_set.ensures
    (bound_twice c.args.reader.now steps (bound_shown c.args.given) h c.in-Some.column c.in-Some.ensures c.in-Ok.ensures.0 c.in-Ok.ensures.1 (sym c.is_set.ensures ∙ c.if-is_set.true))

pub returns : goal.returns
returns c = λ steps h.
    let absent = sym c.is_set.ensures ∙ c.if-is_set.false in (
      bound_fits c.args.reader.now steps (bound_shown c.args.given) h c.in-Some.column c.in-Some.ensures c.in-Ok.ensures.0 c.in-Ok.ensures.1 absent,
      c.in_ok-put_bound.ensures steps (bound_shown c.args.given) h c.in-Some.ensures refl (sym c.in-Ok.ensures.2) absent,
    )
