use Rattle.std.proofs.Common.{refl}
use Rattle.certs.specs.declared.solving.SiteKind.{SiteKind}
use Rattle.report_reader.specs.Things.{site_of}
use Rattle.report_reader.proofs.Found.{site_finds}
use Rattle.report_reader.proofs.Passing.{one_read}
use Rattle.report_reader.proofs.answers.read_kind.Goals as goal

pub returns-clause-read : goal.returns-clause-read
returns-clause-read c = one_read c.args.model.now c.requires.names _ _ site_of _ site_finds (λ x. refl) (λ x h. tt) SiteKind.Settle tt _ c.args.cursor.now c.take.new.self _ _ c.kind_in-kind.ensures c.requires c.take.ensures.passes c.take.ensures.found
