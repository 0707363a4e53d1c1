use Rattle.std.proofs.Common.{Some, subst, arith}
use Rattle.std.proofs.lemmas.Result.{err_from_is_err_and}
use Rattle.lp_statements.specs.Statements.{shown}
use Rattle.lp_reader.proofs.Scripted.{Reading, reading-init, form_fails, kept_fails, kept_on, all_read}
use Rattle.lp_reader.proofs.Taking.{holds_room, holds_even}
use Rattle.lp_reader.proofs.reader.read_statements.Goals as goal

pub loop-section-init : goal.loop-section-init
loop-section-init c = reading-init c.args.bytes.now _ _ c.requires.new c.new-cursor.ensures

pub returns-in_err-statement : goal.returns-in_err-statement
returns-in_err-statement c =
    let so_far : Reading c.args.bytes.now c.loop-section.reader c.loop-section.cursor (Some c.in-Some.here) = subst (Reading c.args.bytes.now c.loop-section.reader c.loop-section.cursor) c.in-Some.is c.loop-section.invariant in
    let p = err_from_is_err_and c.from_residual.result c.from_residual.ensures.1 in
    rw (p.1, p.2) (form_fails c.args.bytes.now c.loop-section.reader c.loop-section.cursor c.in-Some.here so_far c.in_err-statement.field-0.0 c.in_err-statement.ensures)

pub take_statement-requires-clause-room : goal.take_statement-requires-clause-room
take_statement-requires-clause-room c = holds_room c.loop-section.reader c.loop-section.invariant.front c.loop-section.invariant.holds

pub take_statement-requires-clause-even : goal.take_statement-requires-clause-even
take_statement-requires-clause-even c = holds_even c.loop-section.reader c.loop-section.invariant.front c.loop-section.invariant.holds

pub returns-in_err-take_statement : goal.returns-in_err-take_statement
returns-in_err-take_statement c =
    let so_far : Reading c.args.bytes.now c.loop-section.reader c.loop-section.cursor (Some c.in-Some.here) = subst (Reading c.args.bytes.now c.loop-section.reader c.loop-section.cursor) c.in-Some.is c.loop-section.invariant in
    let p = err_from_is_err_and c.from_residual-in_err-take_statement.result c.from_residual-in_err-take_statement.ensures.1 in
    rw (p.1, p.2) (kept_fails c.args.bytes.now c.loop-section.reader c.loop-section.cursor c.in-Some.here so_far _ (omega arith) (shown c.in_ok-statement.statement) c.next_statement.new.cursor c.in_ok-statement.ensures c.in_err-take_statement.field-0.0 (c.in_err-take_statement.ensures so_far.front so_far.holds))

pub loop-section-preserved : goal.loop-section-preserved
loop-section-preserved c =
    let so_far : Reading c.args.bytes.now c.loop-section.reader c.loop-section.cursor (Some c.in-Some.here) = subst (Reading c.args.bytes.now c.loop-section.reader c.loop-section.cursor) c.in-Some.is c.loop-section.invariant in
    kept_on c.args.bytes.now c.loop-section.reader c.loop-section.cursor c.in-Some.here so_far _ (omega arith) (shown c.in_ok-statement.statement) c.next_statement.new.cursor c.in_ok-statement.ensures c.take_statement.new.reader c.section_after-section.result c.section_after-section.ensures (c.in_ok-take_statement.ensures so_far.front so_far.holds)

pub loop-section-preserved-in_ok-take_statement : goal.loop-section-preserved-in_ok-take_statement
loop-section-preserved-in_ok-take_statement c =
    let so_far : Reading c.args.bytes.now c.loop-section.reader c.loop-section.cursor (Some c.in-Some.here) = subst (Reading c.args.bytes.now c.loop-section.reader c.loop-section.cursor) c.in-Some.is c.loop-section.invariant in
    kept_on c.args.bytes.now c.loop-section.reader c.loop-section.cursor c.in-Some.here so_far _ (omega arith) (shown c.in_ok-statement.statement) c.next_statement.new.cursor c.in_ok-statement.ensures c.take_statement.new.reader c.section_after-section.result c.section_after-section.ensures (c.in_ok-take_statement.ensures so_far.front so_far.holds)

pub loop-section-preserved-in_ok-take_statement-2 : goal.loop-section-preserved-in_ok-take_statement-2
loop-section-preserved-in_ok-take_statement-2 c =
    let so_far : Reading c.args.bytes.now c.loop-section.reader c.loop-section.cursor (Some c.in-Some.here) = subst (Reading c.args.bytes.now c.loop-section.reader c.loop-section.cursor) c.in-Some.is c.loop-section.invariant in
    kept_on c.args.bytes.now c.loop-section.reader c.loop-section.cursor c.in-Some.here so_far _ (omega arith) (shown c.in_ok-statement.statement) c.next_statement.new.cursor c.in_ok-statement.ensures c.take_statement.new.reader c.section_after-section.result c.section_after-section.ensures (c.in_ok-take_statement.ensures so_far.front so_far.holds)

pub returns : goal.returns
returns c = all_read c.args.bytes.now c.loop-section.reader c.loop-section.cursor (subst (Reading c.args.bytes.now c.loop-section.reader c.loop-section.cursor) c.in_default.is c.loop-section.invariant)
