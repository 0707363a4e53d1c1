use Rattle.std.proofs.Common.{sym, ap, ◌∙◌}
use Rattle.std.specs.Option.{option_copied}
use Rattle.report_reader.proofs.Lasts.{last_share}
use Rattle.report_reader.proofs.lists.source_follows.Goals as goal

pub returns-in-Some : goal.returns-in-Some
returns-in-Some c = c.stands_before.ensures ∙ last_share c.args.shares.now c.in-Some.last.now c.args.source c.requires (sym c.last.ensures.value ∙ ap option_copied c.in-Some.is)
