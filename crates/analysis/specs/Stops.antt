-- Proofs of printed members, and stops of runs and trees, as answers.
use Rattle.std.specs.Prelude.{◌≡◌, ◌<◌, false, List, [], filter, length, All, IsTrue}
use Rattle.lp_model.specs.Program.{Program}
use Rattle.lp_model.specs.declared.members.Member.{Member}
use Rattle.lp_model.specs.Members.{active_members, exists, has, IsInOrder}
use Rattle.lp_model.specs.MemberSets.{SetValue, active_set}
use Rattle.certs.specs.declared.evidence.Proof.{Proof}
use Rattle.certs.specs.Order.{AreLeavesInOrder}
use Rattle.certs.specs.declared.solving.Site.{Site}
use Rattle.certs.specs.declared.solving.SiteKind.TheVariants.{Settle}
use Rattle.certs.specs.declared.solving.Stop.{Stop}
use Rattle.certs.specs.Checks.{IsSetOf}
use Rattle.certs.specs.Combination.{IsFitting}
use Rattle.certs.specs.Proof.{IsProof, IsFittingNode}
use Rattle.certs.specs.Named.{used_set}
use Rattle.certs.specs.Sites.{Budgets, IsStopped}
use Rattle.certs.specs.Trees.{has_mark}
use Rattle.presolve_laws.specs.Answers.{set_system}
use Rattle.presolve_laws.specs.Eased.{IsEased}
use Rattle.report_text.specs.declared.report.ToldSite.{ToldSite}
use Rattle.report_text.specs.declared.report.ToldStop.{ToldStop}
use Rattle.report_text.specs.declared.report.ToldStop.TheVariants.{Wide, Pivots as Spent, Nodes, Large}
use Rattle.report_text.specs.declared.report.Answer.{Answer}
use Rattle.report_text.specs.declared.report.Answer.TheVariants.{Stopped}
use Rattle.report_text.specs.Told.{told_site}

-- The proof is one of the printed members, the shares of each leaf stand in order, the numbers of its splits fit, and these are the active members that it uses.
pub record IsRefutation (model : Program) (printed : SetValue) (proof : Proof) : Type 0 where
  pub proves : IsProof model printed.members proof.nodes
  pub ordered : AreLeavesInOrder proof.nodes
  pub fits : All IsFittingNode proof.nodes
  pub used : printed ≡ used_set (active_set model) proof.nodes

-- The site is a settle run of members that pass the test, none of them enforced; and where none of them is a mark, their plain system is not eased.
pub record IsSiteOf (IsTest : List Member → Type 0) (model : Program) (budgets : Budgets) (site : Site) : Type 0 where
  pub settles : site.kind ≡ Settle
  pub none_enforced : site.enforced.members ≡ []
  pub test : IsTest site.set.members
  pub uneased : has_mark site.set.members ≡ false → IsEased (set_system model site.set.members) budgets.pivots → ⊥

-- a site that is printed: a run of active members in member order, with enforced members that there are in that order, which are some of the set's, on a path of columns that there are
pub record IsPrintedSite (model : Program) (site : Site) : Type 0 where
  pub of_model : IsSetOf model site.set
  pub active : site.set.members ≡ filter (has site.set.members) (active_members model)
  pub enforced_of : IsSetOf model site.enforced
  pub enforced_in_order : IsInOrder site.enforced.members
  pub enforced_there : All (λ m. IsTrue (exists model m)) site.enforced.members
  pub enforced_part : site.enforced.members ≡ filter (has site.enforced.members) site.set.members
  pub known : All (λ b. b.column < length model.columns) site.path
  pub fits : All IsFitting site.path

-- this is told of a site that is printed, and this holds of the site
pub record IsRunAt (model : Program) (IsSo : Site → Type 0) (told : ToldSite) : Type 0 where
  pub site : Site
  pub is : told ≡ told_site model site
  pub printed : IsPrintedSite model site
  pub so : IsSo site

-- a stop is told that is at such a site, and this holds of the two
abbrev pub IsAtRun : Program → (Site → Stop → Type 0) → ToldStop → Type 0
IsAtRun model IsSo (Wide told k o) = IsRunAt model (λ site. IsSo site (Stop.Wide site k o)) told
IsAtRun model IsSo (Spent told) = IsRunAt model (λ site. IsSo site (Stop.Pivots site)) told
IsAtRun model IsSo (Nodes told) = IsRunAt model (λ site. IsSo site (Stop.Nodes site)) told
IsAtRun model IsSo (Large size) = ⊥

-- the site is one of such a set, and its own run stops so within the budgets
abbrev pub IsSettleStop : (List Member → Type 0) → Program → Budgets → Site → Stop → Type 0
IsSettleStop IsTest model budgets site stop = IsSiteOf IsTest model budgets site × IsStopped model budgets stop

abbrev pub IsRightStop : (List Member → Type 0) → Program → Budgets → ToldStop → Type 0
IsRightStop IsTest model budgets stop = IsAtRun model (IsSettleStop IsTest model budgets) stop

-- the answer is a stop that is told, of which this holds
pub record IsStoppedBy (IsSo : ToldStop → Type 0) (answer : Answer) : Type 0 where
  pub stop : ToldStop
  pub is : answer ≡ Stopped stop
  pub so : IsSo stop

-- a check asks for all active members
abbrev pub IsWhole : Program → List Member → Type 0
IsWhole model set = set ≡ active_members model
