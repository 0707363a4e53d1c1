use Rattle.std.proofs.Common.{sym, ◌∙◌}
use Rattle.report_reader.proofs.Tails.{objective_some}
use Rattle.report_reader.proofs.numbers.read_objective.Goals as goal

pub returns-clause-read : goal.returns-clause-read
returns-clause-read c = objective_some c.args.model.now c.requires.names c.args.cursor.now c.pass.new.self c.in_ok-value.value c.requires (sym c.number_in.ensures ∙ c.in_ok-value.was) c.pass.ensures.passes
