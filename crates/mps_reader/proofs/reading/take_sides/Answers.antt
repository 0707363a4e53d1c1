use Rattle.std.proofs.lemmas.Result.{err_from_is_err_and}
use Rattle.mps_lines.specs.Steps.{ToSide}
use Rattle.mps_reader.proofs.Firsts.{first_stops, only_one, second_is}
use Rattle.mps_reader.proofs.reading.take_sides.Goals as goal

pub returns-in_err-take_side : goal.returns-in_err-take_side
returns-in_err-take_side c = λ steps h.
    let p = err_from_is_err_and c.from_residual.result c.from_residual.ensures.1 in
    rw (p.1, p.2) (first_stops ToSide c.args.line steps c.args.first c.args.second c.in_err-take_side.field-0.0 (c.in_err-take_side.ensures steps h))

pub returns-in_default : goal.returns-in_default
returns-in_default c = λ steps h. only_one ToSide c.args.line steps c.args.first c.args.second c.take_side.new.reader c.in_default.is (c.in_ok-take_side.ensures steps h)

pub returns : goal.returns
returns c = λ steps h.
    let one = c.in_ok-take_side.ensures steps h in
    second_is ToSide c.args.line steps c.args.first c.in-Some.figure c.args.second c.in-Some.is one.0 c.take_side-2.new.reader c.take_side-2.result (c.take_side-2.ensures _ one.1)
