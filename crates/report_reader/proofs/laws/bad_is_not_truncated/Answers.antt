use Rattle.report_reader.proofs.OneEnding as ending
use Rattle.report_reader.proofs.laws.bad_is_not_truncated.Goals as goal

pub returns : goal.returns
returns c = ending.bad_is_not_truncated
