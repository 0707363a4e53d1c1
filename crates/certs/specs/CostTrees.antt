-- Cost trees: by how much, by weight, the members of a set with marks must be missed, node by node.
use Rattle.std.specs.Prelude.{◌≡◌, ◌⊎◌, ⊤, ℕ, ◌<◌, true, List, [], ◌∷◌, ◌++◌, length, Result, Ok, Err}
use Rattle.rational.specs.Rational.{ℚ, neg_ℚ, ◌≤ℚ◌}
use Rattle.rational.specs.Linear.{Assignment}
use Rattle.lp_model.specs.declared.members.Member.{Member}
use Rattle.lp_model.specs.Program.{Program}
use Rattle.lp_model.specs.Members.{weight}
use Rattle.lp_model.specs.Satisfaction.{values_at, Satisfies}
use Rattle.certs.specs.declared.evidence.Branch.{Branch}
use Rattle.certs.specs.declared.evidence.CostNode.{CostNode}
use Rattle.certs.specs.declared.evidence.CostNode.TheVariants.{Split, Bound, Cut}
use Rattle.certs.specs.declared.evidence.Dual.{Dual}
use Rattle.certs.specs.declared.evidence.Node.{Node}
use Rattle.certs.specs.declared.evidence.Point.{Point}
use Rattle.certs.specs.declared.solving.CostEnd.{CostEnd}
use Rattle.certs.specs.declared.solving.Site.{Site}
use Rattle.certs.specs.declared.solving.SiteKind.TheVariants.{Relax}
use Rattle.certs.specs.declared.solving.Stop.{Stop}
use Rattle.certs.specs.declared.solving.Stop.TheVariants.{Wide, Pivots, Nodes, Large, Memory}
use Rattle.certs.specs.Alternative.{cost_of}
use Rattle.certs.specs.Bound.{without_marks}
use Rattle.certs.specs.Checks.{IsSetOf}
use Rattle.certs.specs.Combination.{KeepsPath, IsCombination}
use Rattle.certs.specs.Elastic.{elastic_on}
use Rattle.certs.specs.Improves.{ImproveEnd, objective_variable}
use Rattle.certs.specs.Improves.ImproveEnd.{AtOptimum, TooWide as ImproveTooWide, Spent as ImproveSpent}
use Rattle.certs.specs.Order.{AreSharesInOrder}
use Rattle.certs.specs.Runs.{TableauAt, End}
use Rattle.certs.specs.Runs.End.{TooWide as SettleTooWide, Spent as SettleSpent}
use Rattle.certs.specs.Solves.{RunEnds, ImproveStops, BlocksWith, CrossesWith}
use Rattle.certs.specs.System.{LinearSystem, VariableShare}
use Rattle.certs.specs.Tableau.{value_of}
use Rattle.certs.specs.Trees.{child_paths, mark_test}
use Rattle.certs.specs.Violation.{IsLeastDual, rigid_members, weighted_violation}

-- ---- the system of a node
-- the rigid members but the marks, which are enforced
abbrev pub hard_members : Program → List Member → List Member
hard_members model set = without_marks (rigid_members model set)

-- the elastic system by the program's weights: the marks have no part in it, but by the path
abbrev pub cost_system : Program → List Member → List Branch → LinearSystem
cost_system model set path = elastic_on model (without_marks set) (hard_members model set) path (λ m. cost_of (weight model m))

-- Both runs end within so many pivots together, at an optimum: the values are those of so many first columns there, and the total is that of the objective, negated.
pub record EndsLeast (system : LinearSystem) (pivots count : ℕ) (values : List ℚ) (total : ℚ) : Type 0 where
  pub run : ImproveStops system pivots AtOptimum
  pub here : TableauAt system run.last
  pub as_many : length values ≡ count
  pub values_are : (j : ℕ) → j < count → values_at values j ≡ value_of here.tableau j
  pub total_is : total ≡ neg_ℚ (value_of here.tableau (objective_variable here.tableau))

-- limits cross, or the settle run ends infeasible
abbrev pub EndsCut : LinearSystem → ℕ → Type 0
EndsCut system pivots = (of : List VariableShare) × (CrossesWith system of ⊎ BlocksWith system pivots of)

-- the settle run stops so, or the improve run after it
abbrev pub StopsAtNode : LinearSystem → ℕ → End → ImproveEnd → Type 0
StopsAtNode system pivots first further = RunEnds system pivots first ⊎ ImproveStops system pivots further

-- ---- what is answered at a node
-- The point satisfies the hard members and keeps the path. It costs the total, and the dual shows that nothing on the path that satisfies them costs less.
pub record IsLeastOn (model : Program) (set : List Member) (path : List Branch) (point : Point) (dual : Dual) : Type 0 where
  pub each_column : length point.values ≡ length model.columns
  pub satisfies : Satisfies model (hard_members model set) (values_at point.values)
  pub keeps : KeepsPath (values_at point.values) path
  pub total : weighted_violation model set (values_at point.values) ≡ dual.bound
  pub dual_of : IsLeastDual model set path dual.combo.shares dual.bound
  pub ordered : AreSharesInOrder dual.combo.shares

-- The site is that of the whole set, marks among it, and its hard members on the path.
pub record IsCostSite (model : Program) (set : List Member) (path : List Branch) (site : Site) : Type 0 where
  pub kind : site.kind ≡ Relax
  pub set_of : IsSetOf model site.set
  pub set_is : site.set.members ≡ set
  pub enforced_of : IsSetOf model site.enforced
  pub enforced_is : site.enforced.members ≡ hard_members model set
  pub path_is : site.path ≡ path

-- The runs of the node's system end at the least total, end without a point, or stop so. Want of memory may come at any time.
abbrev pub IsCostEnd : Program → List Member → List Branch → ℕ → Result CostEnd Stop → Type 0
IsCostEnd model set path pivots (Ok (CostEnd.Least point dual)) =
    EndsLeast (cost_system model set path) pivots (length model.columns) point.values dual.bound × IsLeastOn model set path point dual
IsCostEnd model set path pivots (Ok (CostEnd.Cut combo)) =
    EndsCut (cost_system model set path) pivots × (IsCombination model (hard_members model set) path combo.shares × AreSharesInOrder combo.shares)
IsCostEnd model set path pivots (Err (Wide site step operation)) =
    IsCostSite model set path site × StopsAtNode (cost_system model set path) pivots (SettleTooWide step operation) (ImproveTooWide step operation)
IsCostEnd model set path pivots (Err (Pivots site)) = IsCostSite model set path site × StopsAtNode (cost_system model set path) pivots SettleSpent ImproveSpent
IsCostEnd model set path pivots (Err (Nodes site)) = ⊥
IsCostEnd model set path pivots (Err (Large size)) = ⊥
IsCostEnd model set path pivots (Err Memory) = ⊤

-- ---- nodes that show a total
-- the paths of a node's children, the lower child first
abbrev pub cost_paths : List Branch → CostNode → List (List Branch)
cost_paths path (Split j k) = child_paths path (Node.Split j k)
cost_paths path (Bound combo) = []
cost_paths path (Cut combo) = []

-- A split at a column with a mark; shares, of branches too, that show at least the total; or a combination of the rigid members for the path.
abbrev pub IsCostNode : Program → List Member → ℚ → List Branch → CostNode → Type 0
IsCostNode model set total path (Split j k) = mark_test model set j ≡ true
IsCostNode model set total path (Bound combo) = (t : ℚ) × (IsLeastDual model set path combo.shares t × (total ≤ℚ t))
IsCostNode model set total path (Cut combo) = IsCombination model (rigid_members model set) path combo.shares

-- each node stands on the first of the paths, and those of its children come in the place of its own
abbrev pub CostsFrom : Program → List Member → ℚ → List (List Branch) → List CostNode → Type 0
CostsFrom model set total [] [] = ⊤
CostsFrom model set total [] (node ∷ nodes) = ⊥
CostsFrom model set total (path ∷ paths) [] = ⊥
CostsFrom model set total (path ∷ paths) (node ∷ nodes) = IsCostNode model set total path node × CostsFrom model set total (cost_paths path node ++ paths) nodes

-- the nodes of a whole tree, from the root on, whose path has no branch
abbrev pub IsCosts : Program → List Member → ℚ → List CostNode → Type 0
IsCosts model set total nodes = CostsFrom model set total ([] ∷ []) nodes

-- ---- the law
-- what satisfies the rigid members, marks among them, costs at least the total
abbrev pub CostsLaw : Type 0
CostsLaw = (model : Program) (set : List Member) (total : ℚ) (nodes : List CostNode) → IsCosts model set total nodes
    → (x : Assignment) → Satisfies model (rigid_members model set) x → total ≤ℚ weighted_violation model set x
