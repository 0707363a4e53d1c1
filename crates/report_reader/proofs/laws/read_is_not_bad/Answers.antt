use Rattle.report_reader.proofs.OneEnding as ending
use Rattle.report_reader.proofs.laws.read_is_not_bad.Goals as goal

pub returns : goal.returns
returns c = ending.read_has_no_bad_line
