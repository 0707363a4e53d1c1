use Rattle.report_printer.proofs.Printed.{parts_of}
use Rattle.report_printer.proofs.heads.report_has_parts.Goals as goal

pub returns : goal.returns
returns c = parts_of
