use Rattle.std.proofs.Common.{sym, ap, ◌∙◌}
use Rattle.std.specs.Option.{option_copied}
use Rattle.report_reader.proofs.Lasts.{last_member}
use Rattle.report_reader.proofs.lists.member_follows.Goals as goal

pub returns-in-Some : goal.returns-in-Some
returns-in-Some c = c.comes_before.ensures ∙ last_member c.args.members.now c.in-Some.last.now c.args.member c.requires (sym c.last.ensures.value ∙ ap option_copied c.in-Some.is)
