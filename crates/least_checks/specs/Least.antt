-- A point of least weighted violation, with a dual that shows that none is less.
use Rattle.std.specs.Prelude.{◌≡◌, List, [], length}
use Rattle.rational.specs.Rational.{◌≤ℚ◌}
use Rattle.rational.specs.Linear.{Assignment}
use Rattle.lp_model.specs.declared.members.Member.{Member}
use Rattle.lp_model.specs.Program.{Program}
use Rattle.lp_model.specs.Satisfaction.{Satisfies, values_at}
use Rattle.certs.specs.declared.evidence.Point.{Point}
use Rattle.certs.specs.declared.evidence.Share.{Share}
use Rattle.certs.specs.Order.{AreSharesInOrder}
use Rattle.certs.specs.Violation.{rigid_members, weighted_violation, IsLeastDual}
use Rattle.certs.specs.declared.evidence.Dual.{Dual}

-- The rigid members of the set hold at these values, and nowhere where they do is the weighted violation less.
pub record IsLeastAt (model : Program) (set : List Member) (x : Assignment) : Type 0 where
  pub satisfies : Satisfies model (rigid_members model set) x
  pub least : (y : Assignment) → Satisfies model (rigid_members model set) y → weighted_violation model set x ≤ℚ weighted_violation model set y

-- A point with a value for each column, at which the weighted violation is least; a dual that shows so, its shares in order; and the total, which is both the point's and the dual's.
pub record IsLeastBy (model : Program) (set : List Member) (point : Point) (dual : Dual) : Type 0 where
  pub each_column : length point.values ≡ length model.columns
  pub least : IsLeastAt model set (values_at point.values)
  pub total : weighted_violation model set (values_at point.values) ≡ dual.bound
  pub dual_of : IsLeastDual model set [] dual.combo.shares dual.bound
  pub ordered : AreSharesInOrder dual.combo.shares

-- ---- laws
-- what reaches the total of a dual is least
abbrev pub ReachedLaw : Type 0
ReachedLaw = (model : Program) (set : List Member) (shares : List Share) (x : Assignment) → Satisfies model (rigid_members model set) x
    → IsLeastDual model set [] shares (weighted_violation model set x) → IsLeastAt model set x
