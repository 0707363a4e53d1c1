-- Lower bounds of violations that are weighed in any way: by the program's weights, or by 1 each beside members that are enforced.
use Rattle.std.specs.Prelude.{◌≡◌, ℕ, cond, List, [], filter, All}
use Rattle.rational.specs.Rational.{ℚ, neg_ℚ, one_ℚ, zero_ℚ, ◌≤ℚ◌, ◌<ℚ◌}
use Rattle.rational.specs.Sum.{sum_over}
use Rattle.rational.specs.Linear.{Assignment}
use Rattle.lp_model.specs.declared.members.Member.{Member}
use Rattle.lp_model.specs.declared.parts.Weight.{Weight}
use Rattle.lp_model.specs.declared.parts.Weight.TheVariants.{Soft, Rigid}
use Rattle.lp_model.specs.Program.{Program}
use Rattle.lp_model.specs.Members.{has}
use Rattle.lp_model.specs.Satisfaction.{Satisfies}
use Rattle.certs.specs.declared.evidence.Branch.{Branch}
use Rattle.certs.specs.declared.evidence.Share.{Share}
use Rattle.certs.specs.Combination.{KeepsPath, IsThere, column_sum, right_side}
use Rattle.certs.specs.Violation.{violation, weighed, is_rigid, weight_on, total_violation, IsWithinWeight}

-- The columns cancel, no member that these weights make soft is given more than its weight, and the right side is -t.
pub record IsDualWith (weigh : Member → Weight) (model : Program) (set : List Member) (path : List Branch) (shares : List Share) (t : ℚ) : Type 0 where
  pub positive : All (λ s. zero_ℚ <ℚ s.weight) shares
  pub there : All (IsThere model set path) shares
  pub cancels : (j : ℕ) → column_sum model shares j ≡ zero_ℚ
  pub within : All (λ m. IsWithinWeight (weight_on shares m) (weigh m)) set
  pub total : t ≡ neg_ℚ (right_side model path shares)

-- the sum of weight times violation over the soft members
abbrev pub violation_with : (Member → Weight) → Program → List Member → Assignment → ℚ
violation_with weigh model set x = sum_over (λ m. weighed (weigh m) (violation model x m)) set

-- the rigid members of the set
abbrev pub rigid_with : (Member → Weight) → List Member → List Member
rigid_with weigh set = filter (λ m. is_rigid (weigh m)) set

-- t is at most the weighed violation of whatever satisfies the rigid members on the path
abbrev pub WeighedLaw : Type 0
WeighedLaw = (weigh : Member → Weight) (model : Program) (set : List Member) (path : List Branch) (shares : List Share) (t : ℚ) → IsDualWith weigh model set path shares t
    → (x : Assignment) → Satisfies model (rigid_with weigh set) x → KeepsPath x path → t ≤ℚ violation_with weigh model set x

-- ---- beside enforced members
-- an enforced member never gives way, and the violation of any other one counts once
abbrev pub weight_beside : List Member → Member → Weight
weight_beside enforced m = cond (has enforced m) Rigid (Soft one_ℚ)

-- t is at most the total violation of whatever satisfies the enforced members
abbrev pub TotalLaw : Type 0
TotalLaw = (model : Program) (set enforced : List Member) (shares : List Share) (t : ℚ) → IsDualWith (weight_beside enforced) model set [] shares t
    → (x : Assignment) → Satisfies model enforced x → t ≤ℚ total_violation model set x
