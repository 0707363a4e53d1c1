use Rattle.iis_run.proofs.Entries.{accepted_again}
use Rattle.iis_run.proofs.again.right_reports_are_accepted.Goals as goal

pub returns : goal.returns
returns c = accepted_again
