use Rattle.iis_run.proofs.Named.{declared_names_are_words}
use Rattle.iis_run.proofs.reading.fetch_model.Goals as goal

pub returns-in-Ok-read_model-clause-words : goal.returns-in-Ok-read_model-clause-words
returns-in-Ok-read_model-clause-words g c = declared_names_are_words _ _ _ c.in-Ok-read_model.ensures.declared
