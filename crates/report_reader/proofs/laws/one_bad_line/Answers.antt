use Rattle.report_reader.proofs.OneEnding as ending
use Rattle.report_reader.proofs.laws.one_bad_line.Goals as goal

pub returns : goal.returns
returns c = ending.one_bad_line
