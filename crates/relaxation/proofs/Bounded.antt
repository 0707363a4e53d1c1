-- No ray raises the objective of an elastic system, and its costs are not negative.
use Rattle.std.proofs.Common.{◌+◌, ◌<◌, refl, sym, ◌∙◌, subst, ℕ, List, not, length, arith}
use Rattle.std.specs.Prelude.{All, IsSome}
use Rattle.std.proofs.lemmas.List.Elements.{All-filter, All-get_or, All-weaker}
use Rattle.rational.specs.Rational.{zero_ℚ, ◌≤ℚ◌}
use Rattle.rational.specs.Linear.{form_value}
use Rattle.rational.proofs.Order.{le_of_lt_ℚ, lt-le_clash_ℚ}
use Rattle.lp_model.specs.declared.members.Member.{Member}
use Rattle.lp_model.specs.declared.members.Member.TheVariants.{RowLo, RowUp, Lower, Upper, Whole}
use Rattle.lp_model.specs.Program.{Program, IsPositiveWeight, IsWellFormed, IsWellFormedColumn, IsWellFormedRow, empty_column, empty_row}
use Rattle.lp_model.specs.declared.parts.Weight.{Weight}
use Rattle.lp_model.specs.declared.parts.Weight.TheVariants.{Soft, Rigid}
use Rattle.lp_model.specs.Members.{has, weight}
use Rattle.lp_model.specs.MemberSets.{IsMemberFor}
use Rattle.lp_model.proofs.New.{one_positive}
use Rattle.certs.specs.Alternative.{cost_of}
use Rattle.certs.specs.Elastic.{soft_members}
use Rattle.certs.specs.System.{Limits, LinearSystem}
use Rattle.relaxation.specs.declared.systems.Costs.{Costs}
use Rattle.relaxation.specs.declared.systems.Costs.TheVariants.{Ones, Weights}
use Rattle.relaxation.specs.Costs.{cost_by, objective_by, system_by}
use Rattle.relaxation.specs.Runs.{HasNoRay}
use Rattle.relaxation.proofs.Eased.{columns_are, elastic_column}
use Rattle.relaxation.proofs.Least.{no_ray}
use Rattle.relaxation.proofs.Solved.{column_limits}

weight_positive : (model : Program) (m : Member) → IsWellFormed model → IsMemberFor (length model.rows) (length model.columns) m → IsPositiveWeight (weight model m)
weight_positive model (RowLo i) formed l = (All-get_or (IsWellFormedRow (length model.columns)) model.rows i empty_row l formed.rows).lower_weight
weight_positive model (RowUp i) formed l = (All-get_or (IsWellFormedRow (length model.columns)) model.rows i empty_row l formed.rows).upper_weight
weight_positive model (Lower j) formed l = (All-get_or IsWellFormedColumn model.columns j empty_column l formed.columns).lower_weight
weight_positive model (Upper j) formed l = (All-get_or IsWellFormedColumn model.columns j empty_column l formed.columns).upper_weight
weight_positive model (Whole j) formed l = tt

cost_nonneg : (w : Weight) → IsPositiveWeight w → zero_ℚ ≤ℚ cost_of w
cost_nonneg (Soft w) h = le_of_lt_ℚ h
cost_nonneg Rigid h = le_of_lt_ℚ one_positive

module _ (model : Program) (set enforced : List Member) (formed : IsWellFormed model) (known : All (IsMemberFor (length model.rows) (length model.columns)) set) where
  pub costs_nonneg : (costs : Costs) → All (λ m. zero_ℚ ≤ℚ cost_by model costs m) (soft_members set enforced)
  costs_nonneg Ones = λ k d l. le_of_lt_ℚ one_positive
  costs_nonneg Weights =
      All-weaker (IsMemberFor (length model.rows) (length model.columns)) (λ m. zero_ℚ ≤ℚ cost_of (weight model m)) (λ m l. cost_nonneg (weight model m) (weight_positive model m formed l))
      (soft_members set enforced) (All-filter (λ m. not (has enforced m)) (IsMemberFor (length model.rows) (length model.columns)) set known)

  pub elastic_bounded : (costs : Costs) → HasNoRay (system_by model set enforced costs)
  elastic_bounded costs ray r =
      let system : LinearSystem = system_by model set enforced costs in
      let n : ℕ = length model.columns in
      let changed : form_value (objective_by model set enforced costs) ray ≤ℚ zero_ℚ =
      no_ray model set enforced (cost_by model costs) (costs_nonneg costs) ray
      (λ i l.
      let below : n + i < length system.columns = subst (λ k. n + i < k) (sym (columns_are model set enforced (cost_by model costs))) (let g : n + i < n + length (soft_members set enforced) = omega arith in g) in
      r.lower (n + i) (omega arith)
      (subst (λ (z : Limits). IsSome z.lower) (sym (column_limits system (n + i) below ∙ elastic_column model set enforced (cost_by model costs) i l)) refl)) in
      lt-le_clash_ℚ r.raises (subst (λ z. z ≤ℚ zero_ℚ) (sym r.rows.objective) changed)
