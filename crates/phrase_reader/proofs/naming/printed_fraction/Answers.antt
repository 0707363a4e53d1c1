use Rattle.phrase_reader.proofs.Quotients.{fraction_found}
use Rattle.phrase_reader.proofs.naming.printed_fraction.Goals as goal

pub returns : goal.returns
returns c = fraction_found c.args.word.now c.fraction_of.result c.fraction_of.ensures
