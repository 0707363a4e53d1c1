-- Evidence whose numbers are those of the code: fractions within the limit, and counts of 64 bits.
use Rattle.std.specs.Prelude.{List, zip, Option, Some, None, All}
use Rattle.rational.specs.Rational.{ℚ}
use Rattle.lp_model.specs.declared.members.Member.{Member}
use Rattle.certs.specs.declared.evidence.Point.{Point}
use Rattle.certs.specs.declared.evidence.Node.{Node}
use Rattle.certs.specs.declared.evidence.Node.TheVariants.{Split, Leaf}
use Rattle.certs.specs.declared.evidence.Proof.{Proof}
use Rattle.certs.specs.declared.evidence.Ray.{Ray}
use Rattle.certs.specs.declared.evidence.Dual.{Dual}
use Rattle.reductions.specs.declared.steps.ReduceStep.{ReduceStep}
use Rattle.reductions.specs.declared.steps.ReduceStep.TheVariants.{Fixed}
use Rattle.report_text.specs.declared.report.Bounded.{Bounded}
use Rattle.report_text.specs.declared.report.ToldStop.{ToldStop}
use Rattle.report_text.specs.declared.report.ToldStop.TheVariants.{Wide as TooWide, Pivots as Spent, Nodes, Large}
use Rattle.report_text.specs.declared.report.Reduced.{Reduced}
use Rattle.report_text.specs.Form.{IsWithinLimit, IsValueWithin, IsCount, IsOperation}

-- the values of a point are within the limit
abbrev pub HasValuesWithin : Point → Type 0
HasValuesWithin p = All IsWithinLimit p.values

-- those of each member's witness
abbrev pub HasWitnessesWithin : List Member → List Point → Type 0
HasWitnessesWithin members witnesses = All (λ (w : Member × Point). HasValuesWithin w.1) (zip members witnesses)

-- the weights of a leaf's shares
abbrev pub HasWeightsWithin : Node → Type 0
HasWeightsWithin (Split j k) = Unit {0}
HasWeightsWithin (Leaf combo) = All (λ s. IsWithinLimit s.weight) combo.shares

-- those of each node
abbrev pub IsProofWithin : Proof → Type 0
IsProofWithin proof = All HasWeightsWithin proof.nodes

-- a turn's number with the operands of an operation, or a size
abbrev pub IsStopWithin : ToldStop → Type 0
IsStopWithin (TooWide site k o) = IsCount k × IsOperation o
IsStopWithin (Spent site) = Unit {0}
IsStopWithin (Nodes site) = Unit {0}
IsStopWithin (Large size) = IsCount size

-- the changes of a ray
abbrev pub IsRayWithin : Ray → Type 0
IsRayWithin ray = All IsWithinLimit ray.values

-- the weights and the bound of a dual
pub record IsDualWithin (dual : Dual) : Type 0 where
  pub weights : All (λ s. IsWithinLimit s.weight) dual.combo.shares
  pub bound : IsWithinLimit dual.bound

-- the values of the point and of the objective, and those of the dual
pub record IsBoundedWithin (b : Bounded) : Type 0 where
  pub point : HasValuesWithin b.point
  pub objective : IsValueWithin b.objective
  pub dual : IsDualWithin b.dual

-- the values of the point, and those of the dual
pub record IsLeastWithin (p : Point) (dual : Dual) : Type 0 where
  pub point : HasValuesWithin p
  pub weights : IsDualWithin dual

-- the total, and the values of the price, where they are told
abbrev pub HasPriceWithin : Option (ℚ × Point) → Type 0
HasPriceWithin None = Unit {0}
HasPriceWithin (Some p) = IsWithinLimit p.0 × HasValuesWithin p.1

-- the value of a fixed column
abbrev pub IsStepWithin : ReduceStep → Type 0
IsStepWithin (Fixed j v) = IsWithinLimit v
IsStepWithin _ = Unit {0}

-- those of the steps, and how many rows and columns are left
pub record IsReducedWithin (r : Reduced) : Type 0 where
  pub steps : All IsStepWithin r.steps
  pub rows : IsCount r.rows
  pub columns : IsCount r.columns
