-- What evidence can be printed: what names rows and columns that there are.
use Rattle.std.specs.Prelude.{◌≡◌, ℕ, ◌<◌, List, [], ◌∷◌, ◌++◌, length, Option, Some, None, All}
use Rattle.rational.specs.Rational.{ℚ}
use Rattle.lp_model.specs.Program.{Program}
use Rattle.lp_model.specs.declared.members.Member.{Member}
use Rattle.lp_model.specs.MemberSets.{IsMemberFor}
use Rattle.certs.specs.declared.evidence.Source.{Source}
use Rattle.certs.specs.declared.evidence.Source.TheVariants.{Member as Of, Below, Above}
use Rattle.certs.specs.declared.evidence.Point.{Point}
use Rattle.certs.specs.declared.evidence.Node.{Node}
use Rattle.certs.specs.declared.evidence.Node.TheVariants.{Split, Leaf}
use Rattle.certs.specs.declared.evidence.Proof.{Proof}
use Rattle.certs.specs.declared.evidence.Ray.{Ray}
use Rattle.reductions.specs.declared.steps.ReduceStep.{ReduceStep}
use Rattle.reductions.specs.declared.steps.ReduceStep.TheVariants.{Empty, Singleton, Fixed, Redundant, Forcing, Doubleton}
use Rattle.certs.specs.declared.evidence.Dual.{Dual}
use Rattle.report_text.specs.declared.report.Bounded.{Bounded}
use Rattle.report_text.specs.declared.report.ToldSite.{ToldSite}
use Rattle.report_text.specs.declared.report.ToldStop.{ToldStop}
use Rattle.report_text.specs.declared.report.ToldStop.TheVariants.{Wide as TooWide, Pivots as Spent, Nodes, Large}
use Rattle.report_text.specs.Grammar.{Line}

-- a line with the byte that ends it
abbrev pub ended : Line → List ℕ
ended line = line ++ 10 ∷ []

-- ---- what can be printed
-- a member whose row or column there is
abbrev pub IsKnownMember : Program → Member → Type 0
IsKnownMember model m = IsMemberFor (length model.rows) (length model.columns) m

-- where a share comes from: such a member, or the branches on a column that there is
abbrev pub IsKnownSource : Program → Source → Type 0
IsKnownSource model (Of m) = IsKnownMember model m
IsKnownSource model (Below j) = j < length model.columns
IsKnownSource model (Above j) = j < length model.columns

-- a node that names such columns and sources
abbrev pub IsKnownNode : Program → Node → Type 0
IsKnownNode model (Split j k) = j < length model.columns
IsKnownNode model (Leaf combo) = All (λ s. IsKnownSource model s.source) combo.shares

-- a proof of such nodes
abbrev pub IsKnownProof : Program → Proof → Type 0
IsKnownProof model proof = All (IsKnownNode model) proof.nodes

-- a value for each column
abbrev pub IsKnownPoint : Program → Point → Type 0
IsKnownPoint model p = length p.values ≡ length model.columns

-- a change for each column
abbrev pub IsKnownRay : Program → Ray → Type 0
IsKnownRay model ray = length ray.values ≡ length model.columns

-- such a point, and a dual of known sources
pub record IsKnownBounded (model : Program) (b : Bounded) : Type 0 where
  pub point : IsKnownPoint model b.point
  pub sources : All (λ s. IsKnownSource model s.source) b.dual.combo.shares

-- such a point, and a dual of known sources
pub record IsKnownLeast (model : Program) (p : Point) (dual : Dual) : Type 0 where
  pub point : IsKnownPoint model p
  pub sources : All (λ s. IsKnownSource model s.source) dual.combo.shares

-- a price with a value for each column, where it is told
abbrev pub IsKnownPrice : Program → Option (ℚ × Point) → Type 0
IsKnownPrice model None = Unit {0}
IsKnownPrice model (Some p) = IsKnownPoint model p.1

-- members of the program, and branches on columns that there are
pub record IsKnownSite (model : Program) (site : ToldSite) : Type 0 where
  pub left : All (IsKnownMember model) site.left
  pub enforced : All (IsKnownMember model) site.enforced
  pub path : All (λ b. b.column < length model.columns) site.path

-- such a site, where it has one
abbrev pub IsKnownStop : Program → ToldStop → Type 0
IsKnownStop model (TooWide site k o) = IsKnownSite model site
IsKnownStop model (Spent site) = IsKnownSite model site
IsKnownStop model (Nodes site) = IsKnownSite model site
IsKnownStop model (Large size) = Unit {0}

-- a step whose row and column there are
abbrev pub IsKnownStep : Program → ReduceStep → Type 0
IsKnownStep model (Empty i) = i < length model.rows
IsKnownStep model (Singleton i) = i < length model.rows
IsKnownStep model (Fixed j v) = j < length model.columns
IsKnownStep model (Redundant i) = i < length model.rows
IsKnownStep model (Forcing i side) = i < length model.rows
IsKnownStep model (Doubleton i j) = (i < length model.rows) × (j < length model.columns)
