-- The request that two names stand for.
use Rattle.iis_run.specs.Words.{Request}
use Rattle.iisan_page.specs.declared.running.Names.{Names}

-- what `iisan verify` would be asked for
abbrev pub names_request : Names → Request
names_request names = Request.Verify names.model.now names.report.now
