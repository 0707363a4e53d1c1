use Rattle.iis_run.proofs.Unambiguous as endings
use Rattle.iis_run.proofs.laws.one_ending.Goals as goal

pub returns : goal.returns
returns c = endings.one_ending
