use Rattle.std.proofs.Common.{List, sym, subst}
use Rattle.std.proofs.lemmas.Result.{err_from_is_err_and}
use Rattle.mps_lines.specs.Said.{record_at}
use Rattle.mps_lines.specs.Steps.{Step}
use Rattle.mps_reader.specs.Lines.{TakesAll}
use Rattle.mps_reader.proofs.Runs.{refused_first}
use Rattle.mps_reader.proofs.reading.take_line.Goals as goal

pub returns-in_err-said-clause-takes : goal.returns-in_err-said-clause-takes
returns-in_err-said-clause-takes c = λ front context_is steps h.
    let p = err_from_is_err_and c.from_residual.result c.from_residual.ensures.1 in
    rw (p.1, p.2) (refused_first front (record_at c.args.bytes.now c.args.line.now c.args.context.now) steps c.in_err-said.field-0.0 (c.in_err-said.ensures front context_is))

pub returns-clause-takes : goal.returns-clause-takes
returns-clause-takes c = λ front context_is.
    subst (λ (ss : List Step). TakesAll c.args.reader.now c.take_said.new.reader c.args.line.now.number ss c.take_said.result) (sym (c.in_ok-said.ensures front context_is).steps_are) c.take_said.ensures
