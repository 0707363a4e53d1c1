use Rattle.iis_session.proofs.Fronts.{lines_right, line_bad, lines_built}
use Rattle.iis_session.proofs.scripts.script_law.Goals as goal

pub returns : goal.returns
returns c = record { right = lines_right; bad = line_bad; built = lines_built }
