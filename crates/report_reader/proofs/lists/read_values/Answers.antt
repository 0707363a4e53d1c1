use Rattle.std.proofs.Common.{sym, ap, ◌∙◌, subst, ◌++◌, ◌∷◌, [], ◌-◌, length}
use Rattle.std.specs.Prelude.{replicate}
use Rattle.rational.specs.Rational.{zero_ℚ}
use Rattle.report_reader.specs.Things.{found, value_of, next_value}
use Rattle.report_reader.proofs.Points.{ReadsValues, values_start, values_more, values_smaller, values_few, values_end, done_ok}
use Rattle.report_reader.proofs.lists.read_values.Goals as goal

pub loop-entry-init : goal.loop-entry-init
loop-entry-init c = subst (λ vs. ReadsValues c.args.model.now c.args.cursor.now c.args.cursor.now vs) (sym c.new-values.ensures) (values_start c.args.model.now c.requires.names c.args.cursor.now c.requires)

pub loop-entry-preserved : goal.loop-entry-preserved
loop-entry-preserved c =
    values_more c.args.model.now c.requires.names c.args.cursor.now c.loop-entry.cursor c.pass.new.self c.loop-entry.values c.push.new.self c.in-Some.entry.0 c.in-Some.entry.1 c.loop-entry.invariant
    (ap (λ n. next_value n (found value_of c.loop-entry.cursor.ahead)) (sym c.len.ensures) ∙ sym c.next_value.ensures ∙ c.in-Some.is)
    c.pass.ensures.passes c.pass.ensures.stands
    (done_ok c.push.result (sym c.is_err.ensures.value ∙ c.if-is_err.false) c.push.ensures ∙ ap (λ l. l ++ c.in-Some.entry.1 ∷ []) c.fill.ensures)

pub loop-entry-smaller : goal.loop-entry-smaller
loop-entry-smaller c = values_smaller c.args.model.now c.requires.names c.loop-entry.cursor c.pass.new.self (length c.loop-entry.values) c.in-Some.entry.0 c.in-Some.entry.1 c.loop-entry.invariant.read.stands
    (ap (λ n. next_value n (found value_of c.loop-entry.cursor.ahead)) (sym c.len.ensures) ∙ sym c.next_value.ensures ∙ c.in-Some.is)
    c.pass.ensures.passes

pub fill-requires : goal.fill-requires
fill-requires c = values_few c.args.model.now c.requires.names (length c.loop-entry.values) c.loop-entry.cursor.ahead c.in-Some.entry
    (ap (λ n. next_value n (found value_of c.loop-entry.cursor.ahead)) (sym c.len.ensures) ∙ sym c.next_value.ensures ∙ c.in-Some.is)

pub returns-clause-read : goal.returns-clause-read
returns-clause-read c =
    values_end c.args.model.now c.requires.names c.args.cursor.now c.loop-entry.cursor c.loop-entry.values _ c.loop-entry.invariant
    (ap (λ n. next_value n (found value_of c.loop-entry.cursor.ahead)) (sym c.len.ensures) ∙ sym c.next_value.ensures ∙ c.in_default.is)
    (ap (λ vs. record { values = vs }) (c.fill-2.ensures ∙ ap (λ n. c.loop-entry.values ++ replicate (n - length c.loop-entry.values) zero_ℚ) c.column_count.ensures.count))
