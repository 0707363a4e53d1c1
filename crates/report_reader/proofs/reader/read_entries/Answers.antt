use Rattle.std.proofs.Common.{◌<◌, sym, ◌∙◌, subst, true, []}
use Rattle.report_text.specs.Form.{AreNumbered}
use Rattle.report_reader.specs.declared.cursor.Cursor.{Cursor}
use Rattle.report_reader.specs.Kinds.{IsCursor, IsRead, Passes}
use Rattle.report_reader.specs.Things.{answer}
use Rattle.report_reader.specs.Entries.{entries as entries_of, StaysOn}
use Rattle.report_reader.proofs.Gathered.{ReadsEntries, entries_start, entries_stand, entries_end, command_known, entries_refused, entries_pushed}
use Rattle.report_reader.proofs.Passing.{room}
use Rattle.report_reader.proofs.Points.{done_ok, done_err}
use Rattle.report_reader.proofs.reader.read_entries.Goals as goal

pub loop-command-init : goal.loop-command-init
loop-command-init c = subst (ReadsEntries c.args.session.now c.args.session.now c.args.cursor.now c.args.cursor.now) (sym c.new-entries.ensures.items) (entries_start c.args.session.now c.requires.fresh c.args.cursor.now c.requires.stands)

pub take_command-requires : goal.take_command-requires
take_command-requires c = subst (λ m. IsCursor m c.loop-command.cursor) (sym c.model.ensures) (entries_stand c.args.session.now c.requires.fresh c.loop-command.session c.args.cursor.now c.loop-command.cursor c.loop-command.entries.items c.loop-command.invariant)

pub returns-in_default-clause-read : goal.returns-in_default-clause-read
returns-in_default-clause-read c =
    let start = c.args.session.now in
    let old = c.args.cursor.now in
    let took = c.in_default.ensures.took in
    subst (IsRead start.model (entries_of start.model) old c.take_command.new.self) (sym c.new.ensures)
    (subst (λ (z : Cursor). IsRead start.model (entries_of start.model) old z c.loop-command.entries.items) (sym took.1)
    (entries_end start c.requires.fresh c.loop-command.session old c.loop-command.cursor c.loop-command.entries.items c.loop-command.invariant took.0))

pub returns-in_default-clause-numbered : goal.returns-in_default-clause-numbered
returns-in_default-clause-numbered c = subst (AreNumbered c.args.session.now.model [] c.args.cursor.now.number) (sym c.new.ensures) c.loop-command.invariant.numbered

pub returns-in_default-clause-looked : goal.returns-in_default-clause-looked
returns-in_default-clause-looked c = subst (IsCursor c.args.session.now.model) (sym c.in_default.ensures.took.1) c.loop-command.invariant.stands

pub returns-in_default-clause-stays : goal.returns-in_default-clause-stays
returns-in_default-clause-stays c = c.loop-command.invariant.stays

pub replay-requires : goal.replay-requires
replay-requires c = command_known c.args.session.now c.requires.fresh c.loop-command.session c.args.cursor.now c.loop-command.cursor c.loop-command.entries.items c.loop-command.invariant c.in-Some.command c.in-Some.ensures.took.0

pub returns-then-is_err-clause-read : goal.returns-then-is_err-clause-read
returns-then-is_err-clause-read c =
    let start = c.args.session.now in
    let old = c.args.cursor.now in
    subst (IsRead start.model (entries_of start.model) old c.give_up.new.self) (sym c.new-then-is_err.ensures)
    (subst (λ (z : Cursor). IsRead start.model (entries_of start.model) old z c.loop-command.entries.items) (sym c.give_up.ensures)
    (entries_refused start c.requires.fresh c.loop-command.session old c.loop-command.cursor c.loop-command.entries.items c.loop-command.invariant c.in-Some.command c.in-Some.ensures.took.0 c.read_answer-answer.new.cursor))

pub returns-then-is_err-clause-numbered : goal.returns-then-is_err-clause-numbered
returns-then-is_err-clause-numbered c = subst (AreNumbered c.args.session.now.model [] c.args.cursor.now.number) (sym c.new-then-is_err.ensures) c.loop-command.invariant.numbered

pub returns-then-is_err-clause-stays : goal.returns-then-is_err-clause-stays
returns-then-is_err-clause-stays c = subst (StaysOn c.args.session.now) (sym (done_err c.replay.result (sym c.is_err.ensures.value ∙ c.if-is_err.true) c.replay.ensures.unchanged)) c.loop-command.invariant.stays

-- one entry more
one_more : (c : goal.After-push) → ReadsEntries c.args.session.now c.replay.new.session c.args.cursor.now c.push.new.self c.push.new.items.items × (room c.push.new.self.ahead c.push.new.self.number < room c.loop-command.cursor.ahead c.loop-command.cursor.number)
one_more c =
    let model = c.model.ensures in
    let again = c.model-in-loop-command.ensures in
    let command = c.in-Some.command in
    let behind = c.take_command.new.self in
    let next = c.read_answer-answer.new.cursor in
    entries_pushed c.args.session.now c.requires.fresh c.loop-command.session c.args.cursor.now c.loop-command.cursor c.loop-command.entries.items c.loop-command.invariant command c.in-Some.ensures.took.0 c.read_answer-answer.result behind next
    (subst (λ m. Passes m true c.loop-command.cursor behind) model c.in-Some.ensures.took.1) (subst (λ m. IsCursor m behind) model c.take_command.ensures.stands)
    (subst (λ m. IsRead m (answer m command) behind next c.read_answer-answer.result) again c.read_answer-answer.ensures.read) (subst (λ m. IsCursor m next) again c.read_answer-answer.ensures.stands)
    c.replay.new.session c.push.new.self c.push.new.items.items (done_ok c.replay.result (sym c.is_err.ensures.value ∙ c.if-is_err.false) c.replay.ensures.taken) c.push.ensures

pub loop-command-smaller : goal.loop-command-smaller
loop-command-smaller c = (one_more c).1

pub loop-command-preserved : goal.loop-command-preserved
loop-command-preserved c = (one_more c).0
