use Rattle.phrase_reader.proofs.Asked.{own_words}
use Rattle.phrase_reader.proofs.Scripted.{own_text, line_built, long_none, foreign_none}
use Rattle.phrase_reader.proofs.commands.command_law.Goals as goal

pub returns : goal.returns
returns c = record { said = own_words; own = own_text; built = line_built; long = long_none; clean = foreign_none }
