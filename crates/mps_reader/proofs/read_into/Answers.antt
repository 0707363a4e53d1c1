use Rattle.std.proofs.lemmas.Result.{err_from_is_err_and}
use Rattle.mps_reader.proofs.Summed.{sides_make}
use Rattle.mps_reader.proofs.read_into.Goals as goal

pub returns-in_err-read_lines : goal.returns-in_err-read_lines
returns-in_err-read_lines c =
    let p = err_from_is_err_and c.from_residual.result c.from_residual.ensures.1 in
    rw (p.1, p.2) c.in_err-read_lines.ensures

pub returns-in_err-model : goal.returns-in_err-model
returns-in_err-model c =
    let p = err_from_is_err_and c.from_residual-in_err-model.result c.from_residual-in_err-model.ensures.1 in
    rw (p.1, p.2) tt

pub make_program-requires : goal.make_program-requires
make_program-requires c = record { steps = _; holds = c.in_ok-read_lines.ensures.1; sides = sides_make c.args.bytes.now c.in_ok-read_lines.ensures.0 }
