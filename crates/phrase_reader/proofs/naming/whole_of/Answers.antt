use Rattle.phrase_reader.proofs.Numbered.{whole_found}
use Rattle.phrase_reader.proofs.naming.whole_of.Goals as goal

pub returns : goal.returns
returns c = whole_found c.args.word.now c.read_whole.result c.read_whole.ensures
