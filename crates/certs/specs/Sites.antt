-- Sites: which run of which system stopped, and what it is for it to be stopped.
use Rattle.std.specs.Prelude.{◌≡◌, ◌⊎◌, ℕ, true, false, []}
use Rattle.rational.specs.Rational.{one_ℚ}
use Rattle.lp_model.specs.Program.{Program}
use Rattle.lp_model.specs.Members.{weight}
use Rattle.certs.specs.declared.solving.SiteKind.{SiteKind}
use Rattle.certs.specs.declared.solving.SiteKind.TheVariants.{Settle, Improve, Stretch, Relax, Alternative}
use Rattle.certs.specs.declared.solving.Site.{Site}
use Rattle.certs.specs.declared.solving.Stop.{Stop}
use Rattle.certs.specs.declared.solving.Stop.TheVariants.{Wide, Pivots, Nodes, Large, Memory}
use Rattle.certs.specs.System.{LinearSystem, alternative_system}
use Rattle.certs.specs.Alternative.{cost_of}
use Rattle.certs.specs.Plain.{plain_system}
use Rattle.certs.specs.Elastic.{elastic_system}
use Rattle.certs.specs.Runs.{End}
use Rattle.certs.specs.Runs.End.{TooWide as SettleTooWide, Spent as SettleSpent}
use Rattle.certs.specs.Improves.{ImproveEnd}
use Rattle.certs.specs.Improves.ImproveEnd.{TooWide as ImproveTooWide, Spent as ImproveSpent}
use Rattle.certs.specs.Solves.{RunEnds, ImproveStops}
use Rattle.certs.specs.Trees.{TreeEnd, HasTree, has_mark}

-- what a solve may spend: pivots in each run, and nodes in each tree
pub record Budgets : Type 0 where
  pub pivots : ℕ
  pub nodes : ℕ

-- the system of a site
abbrev pub site_system : Program → Site → LinearSystem
site_system model site = by site.kind
  where
    by : SiteKind → LinearSystem
    by Settle = plain_system model site.set.members site.path false
    by Improve = plain_system model site.set.members site.path true
    by Stretch = elastic_system model site.set.members site.enforced.members (λ m. one_ℚ)
    by Relax = elastic_system model site.set.members site.enforced.members (λ m. cost_of (weight model m))
    by Alternative = alternative_system model site.set.members

-- where a run of this kind may stop: in the settle run, and but for `settle` in the improve run after it
abbrev pub StopsBy : SiteKind → LinearSystem → ℕ → End → ImproveEnd → Type 0
StopsBy Settle system pivots first further = RunEnds system pivots first
StopsBy Improve system pivots first further = RunEnds system pivots first ⊎ ImproveStops system pivots further
StopsBy Stretch system pivots first further = RunEnds system pivots first ⊎ ImproveStops system pivots further
StopsBy Relax system pivots first further = RunEnds system pivots first ⊎ ImproveStops system pivots further
StopsBy Alternative system pivots first further = RunEnds system pivots first ⊎ ImproveStops system pivots further

-- A settle site is the set's own run, where the set has no mark; and else a node of its tree, which ends so: that node's run is the first that stops.
pub record IsFirstStopped (model : Program) (budgets : Budgets) (site : Site) (end : TreeEnd) : Type 0 where
  pub alone : site.kind ≡ Settle → has_mark site.set.members ≡ false → site.path ≡ []
  pub first : site.kind ≡ Settle → has_mark site.set.members ≡ true → HasTree model site.set.members budgets.pivots budgets.nodes end

-- The site is that of the whole tree of a set with a mark, and a node is left to take when all that may be are taken.
pub record IsOutOfNodes (model : Program) (budgets : Budgets) (site : Site) : Type 0 where
  pub kind : site.kind ≡ Settle
  pub path_is : site.path ≡ []
  pub marked : has_mark site.set.members ≡ true
  pub ends : HasTree model site.set.members budgets.pivots budgets.nodes TreeEnd.OutOfNodes

-- The site's own run stops so within the budgets, or its tree does. Of sizes nothing is said here, so no such stop is one.
abbrev pub IsStopped : Program → Budgets → Stop → Type 0
IsStopped model budgets (Wide site step operation) = StopsBy site.kind (site_system model site) budgets.pivots (SettleTooWide step operation) (ImproveTooWide step operation) × IsFirstStopped model budgets site (TreeEnd.TooWide site.path step operation)
IsStopped model budgets (Pivots site) = StopsBy site.kind (site_system model site) budgets.pivots SettleSpent ImproveSpent × IsFirstStopped model budgets site (TreeEnd.OutOfPivots site.path)
IsStopped model budgets (Nodes site) = IsOutOfNodes model budgets site
IsStopped model budgets (Large size) = ⊥
IsStopped model budgets Memory = ⊥
