use Rattle.std.proofs.lemmas.Result.{err_from_is_err_and}
use Rattle.lp_statements.specs.Script.{script_of}
use Rattle.lp_reader.specs.Meaning.{lp_program}
use Rattle.lp_reader.proofs.read_into.Goals as goal

pub returns-in_err-read_statements : goal.returns-in_err-read_statements
returns-in_err-read_statements c =
    let p = err_from_is_err_and c.from_residual.result c.from_residual.ensures.1 in
    rw (p.1, p.2) c.in_err-read_statements.ensures

pub make_model-requires : goal.make_model-requires
make_model-requires c = ((script_of c.args.bytes.now).found, c.in_ok-read_statements.ensures.holds)

pub returns : goal.returns
unfolding lp_program
returns c = record { no_fault = c.in_ok-read_statements.ensures.no_fault; same = c.in_ok-model.ensures (script_of c.args.bytes.now).found c.in_ok-read_statements.ensures.holds }
