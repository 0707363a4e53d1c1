-- What a report tells of the site of a run.
use Rattle.std.specs.Prelude.{not, List, filter}
use Rattle.lp_model.specs.Program.{Program}
use Rattle.lp_model.specs.declared.members.Member.{Member}
use Rattle.lp_model.specs.Members.{has, active_members}
use Rattle.certs.specs.declared.solving.Site.{Site}
use Rattle.report_text.specs.declared.report.ToldSite.{ToldSite}

-- the active members that are not in a set
abbrev pub left_out : Program → List Member → List Member
left_out model set = filter (λ m. not (has set m)) (active_members model)

-- a site as it is told: by the active members that are not in its set
abbrev pub told_site : Program → Site → ToldSite
told_site model site = record { kind = site.kind; left = left_out model site.set.members; enforced = site.enforced.members; path = site.path }
