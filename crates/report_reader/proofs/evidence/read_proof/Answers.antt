use Rattle.report_text.specs.declared.phrases.Phrase.{Phrase}
use Rattle.report_reader.specs.Kinds.{word}
use Rattle.report_reader.specs.Things.{tree}
use Rattle.report_reader.proofs.Both.{both_read}
use Rattle.report_reader.proofs.Parts as parts
use Rattle.report_reader.proofs.evidence.read_proof.Goals as goal

pub returns-clause-read : goal.returns-clause-read
returns-clause-read c = (both_read c.args.model.now c.requires.names (word Phrase.Proof) (tree c.args.model.now c.args.splits) (parts.tree_behind c.args.model.now c.requires.names c.args.splits) c.args.cursor.now c.pass_word.new.self c.read_tree-nodes.new.cursor tt c.read_tree-nodes.result c.pass_word.ensures.read c.pass_word.ensures.stands c.read_tree-nodes.ensures.read c.read_tree-nodes.ensures.stands)
