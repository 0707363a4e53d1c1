use Rattle.std.proofs.Common.{◌+◌, ap, None}
use Rattle.certs.specs.declared.evidence.Checked.{Checked}
use Rattle.cert_check.specs.Stops.{stop_or}
use Rattle.cert_check.proofs.Firsts.{says_of}
use Rattle.cert_check.proofs.Entered.{on_ok}
use Rattle.cert_check.proofs.entries.check_feasible.Goals as goal

pub returns-clause-says : goal.returns-clause-says
returns-clause-says c = says_of _ _ c.settle.result (ap (λ (f : Checked). stop_or (c.args.line + 2) f None) c.in-Ok.ensures.found) c.settle.ensures

pub returns-clause-kept : goal.returns-clause-kept
returns-clause-kept c = on_ok c.settle.result c.in-Ok.ensures.kept
