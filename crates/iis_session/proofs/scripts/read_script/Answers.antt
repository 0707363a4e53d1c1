use Rattle.text_fields.specs.Lines.{lines_of}
use Rattle.iis_session.proofs.Fronts.{so_far-read, so_far-right, lines_built}
use Rattle.iis_session.proofs.scripts.read_script.Goals as goal

pub returns-clause-read : goal.returns-clause-read
returns-clause-read c = so_far-read c.args.bytes.now c.loop-line.at c.loop-line.number c.loop-line.commands.items c.loop-line.invariant c.in_default.ensures

pub returns-clause-right : goal.returns-clause-right
returns-clause-right c = so_far-right c.args.bytes.now c.loop-line.at c.loop-line.number c.loop-line.commands.items c.loop-line.invariant c.in_default.ensures

pub returns-clause-built : goal.returns-clause-built
returns-clause-built c =
    let e = so_far-read c.args.bytes.now c.loop-line.at c.loop-line.number c.loop-line.commands.items c.loop-line.invariant c.in_default.ensures in
    let h = lines_built (lines_of c.args.bytes.now) in
    rw (← e) at h
