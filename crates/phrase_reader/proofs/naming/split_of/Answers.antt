use Rattle.phrase_reader.proofs.Numbered.{split_found}
use Rattle.phrase_reader.proofs.naming.split_of.Goals as goal

pub returns : goal.returns
returns c = split_found c.args.word.now c.read_split.result c.read_split.ensures
