-- Laws of elastic systems: their form, and what combinations and duals of them are in the program.
use Rattle.std.specs.Prelude.{◌≡◌, ◌<◌, ◌≤◌, ◌^◌, false, List, [], length, None, All}
use Rattle.rational.specs.Rational.{ℚ}
use Rattle.lp_model.specs.declared.members.Member.{Member}
use Rattle.lp_model.specs.Program.{Program, IsWellFormed}
use Rattle.lp_model.specs.Members.{is_mark, IsInOrder}
use Rattle.lp_model.specs.MemberSets.{IsMemberFor}
use Rattle.lp_model.specs.Satisfaction.{IsPart}
use Rattle.lp_model.specs.Shown.{most_columns, most_rows}
use Rattle.certs.specs.declared.evidence.Share.{Share}
use Rattle.certs.specs.Combination.{IsCombination}
use Rattle.certs.specs.Order.{AreSharesInOrder}
use Rattle.certs.specs.Plain.{first_crossing}
use Rattle.certs.specs.Tableau.{IsWellFormedSystem, variables}
use Rattle.certs.specs.Violation.{IsLeastDual}
use Rattle.relaxation.specs.declared.systems.Costs.{Costs}
use Rattle.relaxation.specs.Costs.{system_by}

-- A set without marks of members that the program may have, in order, and a part of it that is enforced, in order.
pub record IsElastic (model : Program) (set enforced : List Member) : Type 0 where
  pub known : All (IsMemberFor (length model.rows) (length model.columns)) set
  pub linear : All (λ m. is_mark m ≡ false) set
  pub ordered : IsInOrder set
  pub part : IsPart enforced set
  pub enforced_ordered : IsInOrder enforced

-- where no limits cross, the system is well formed
abbrev pub FormedLaw : Type 0
FormedLaw = (model : Program) (set enforced : List Member) (costs : Costs) → IsWellFormed model → IsElastic model set enforced
    → first_crossing (system_by model set enforced costs) ≡ None → IsWellFormedSystem (system_by model set enforced costs)

-- and a program within the limits has a system with few variables
abbrev pub FewLaw : Type 0
FewLaw = (model : Program) (set enforced : List Member) (costs : Costs) → IsElastic model set enforced
    → length model.rows ≤ most_rows → length model.columns ≤ most_columns → variables (system_by model set enforced costs) < 2 ^ 31

-- ---- shares
-- These are shares of enforced members alone, in order, that no point satisfies.
pub record RefutesEnforced (model : Program) (enforced : List Member) (shares : List Share) : Type 0 where
  pub combination : IsCombination model enforced [] shares
  pub ordered : AreSharesInOrder shares

-- These are a dual of the least weighted violation with this total, in order.
pub record ShowsLeast (model : Program) (set : List Member) (shares : List Share) (t : ℚ) : Type 0 where
  pub dual : IsLeastDual model set [] shares t
  pub ordered : AreSharesInOrder shares
