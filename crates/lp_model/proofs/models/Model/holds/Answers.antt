use Rattle.std.proofs.Common.{◌<◌, ℕ, IsTrue, ap, sym, subst, refl}
use Rattle.frac128.specs.Calculation.{first_wide}
use Rattle.lp_model.specs.Program.{NamedColumn, column_at}
use Rattle.lp_model.specs.Satisfaction.{values_at}
use Rattle.lp_model.specs.Members.{Member, exists}
use Rattle.lp_model.specs.Evaluation.{IsInRange}
use Rattle.lp_model.proofs.Held.{value_read, at_least_is, at_most_is, whole_holds}
use Rattle.lp_model.proofs.models.Model.holds.Goals as goal

pub returns-in-Lower : goal.returns-in-Lower
unfolding first_wide
returns-in-Lower c =
    let j = c.in-Lower.index in
    let within = subst (λ (n : ℕ). j < n) (sym c.requires.counted) (subst (IsInRange c.args.self.now) c.in-Lower.is c.requires.in_range) in
    let is = value_read c.args.values.now j c.index-values-index.result within c.index-values-index.is in
    rw c.in-Lower.is (
      at_least_is (column_at c.args.self.now j).lower c.column.result.now.lo c.index-values-index.result (values_at c.args.values.now j) c.is_at_least-in-Lower.result
          (ap (λ (column : NamedColumn). column.lower) c.column.ensures) is c.is_at_least-in-Lower.ensures,
      refl,
    )

pub returns-in-Upper : goal.returns-in-Upper
unfolding first_wide
returns-in-Upper c =
    let j = c.in-Upper.index in
    let within = subst (λ (n : ℕ). j < n) (sym c.requires.counted) (subst (IsInRange c.args.self.now) c.in-Upper.is c.requires.in_range) in
    let is = value_read c.args.values.now j c.index-values-index-in-Upper.result within c.index-values-index-in-Upper.is in
    rw c.in-Upper.is (
      at_most_is (column_at c.args.self.now j).upper c.column-in-Upper.result.now.up c.index-values-index-in-Upper.result (values_at c.args.values.now j) c.is_at_most-in-Upper.result
          (ap (λ (column : NamedColumn). column.upper) c.column-in-Upper.ensures) is c.is_at_most-in-Upper.ensures,
      refl,
    )

pub returns-in-Whole : goal.returns-in-Whole
unfolding first_wide
returns-in-Whole c =
    let j = c.in-Whole.index in
    let within = subst (λ (n : ℕ). j < n) (sym c.requires.counted) (subst (IsInRange c.args.self.now) c.in-Whole.is c.requires.in_range) in
    let is = value_read c.args.values.now j c.index-values-index-in-Whole.result within c.index-values-index-in-Whole.is in
    let there = subst (λ (m : Member). IsTrue (exists c.args.self.now m)) c.in-Whole.is c.requires.there in
    rw c.in-Whole.is
    (whole_holds c.args.self.now c.args.values.now j c.index-values-index-in-Whole.result c.is_whole.result there is c.is_whole.ensures, refl)
