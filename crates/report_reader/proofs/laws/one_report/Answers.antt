use Rattle.report_reader.proofs.OneReport as ending
use Rattle.report_reader.proofs.laws.one_report.Goals as goal

pub returns : goal.returns
returns c = ending.one_report
