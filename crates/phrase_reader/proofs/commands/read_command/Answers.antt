use Rattle.std.proofs.Common.{map, sym, ◌∙◌}
use Rattle.text_fields.specs.Lines.{text_of}
use Rattle.phrase_reader.proofs.Asked.{said_built}
use Rattle.phrase_reader.proofs.commands.read_command.Goals as goal

pub returns-clause-built : goal.returns-clause-built
returns-clause-built c = said_built (map (text_of c.args.text.now) c.as_slice.result.now) c.in-Some.command (sym c.in-Ok.ensures ∙ c.in-Some.is)
