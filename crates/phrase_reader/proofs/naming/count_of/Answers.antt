use Rattle.phrase_reader.proofs.Numbered.{count_found}
use Rattle.phrase_reader.proofs.naming.count_of.Goals as goal

pub returns : goal.returns
returns c = count_found c.args.word.now c.read_count.result c.read_count.ensures
