-- Where limits of a set's plain system cross, or its run ends infeasible, what comes is a combination of the set on the path.
use Rattle.std.proofs.Common.{◌≡◌, ◌+◌, ◌<◌, refl, sym, ◌∙◌, ap, subst, ℕ, true, false, true≢false, List, [], ◌∷◌, map, length, Option, None, Some, IsSome, arith, inl, inr}
use Rattle.std.specs.Prelude.{All, ◌⊎◌}
use Rattle.std.proofs.lemmas.List.Elements.{All-from_get_or}
use Rattle.algebra.proofs.Ring.{x0, x1, ◌:+◌, ◌:-◌, ◌:*◌, minus, zero_of, unit_of}
use Rattle.rational.specs.Rational.{ℚ, ◌+ℚ◌, ◌*ℚ◌, zero_ℚ, one_ℚ, ◌<ℚ◌}
use Rattle.rational.specs.Linear.{factor_of}
use Rattle.rational.proofs.Field.{ring_ℚ}
use Rattle.rational.proofs.Order.{lt_by, lt_q-true, positive-one, positive_is, positive_of_lt}
use Rattle.lp_model.specs.declared.members.Side.TheVariants.{Lo, Up}
use Rattle.lp_model.specs.declared.members.Member.{Member}
use Rattle.lp_model.specs.Program.{Program, IsWellFormed}
use Rattle.certs.specs.declared.evidence.Branch.{Branch}
use Rattle.certs.specs.Combination.{IsCombination, number_or_zero, signed}
use Rattle.certs.specs.System.{LinearSystem, VariableShare, IsVariableCombination, limit_on, variable_form, variable_limits}
use Rattle.certs.specs.Ended.{numbers_from}
use Rattle.certs.specs.Plain.{are_crossed, column_limits, crosses, crossing_shares, first_crossing, plain_system}
use Rattle.certs.specs.Named.{IsNamedCombination, named, program_shares}
use Rattle.certs.specs.Solves.{BlocksWith, CrossesWith}
use Rattle.certs.specs.PlainLaws.{PlainCutLaw}
use Rattle.certs.proofs.Blocked.{blocked_law}
use Rattle.certs.proofs.Choices.{found_is}
use Rattle.certs.proofs.Lists.{both_hold}
use Rattle.certs.proofs.PlainForms.{plain_formed}
use Rattle.certs.proofs.Translated.{length_mapped, length_numbers, number_at, translation}

-- ---- limits that cross
-- both are there, and each of them once leaves a number below 0
record AreCrossed (lower upper : Option ℚ) : Type 0 where
  lower_there : IsSome lower
  upper_there : IsSome upper
  below : (signed Lo one_ℚ *ℚ number_or_zero lower) +ℚ ((signed Up one_ℚ *ℚ number_or_zero upper) +ℚ zero_ℚ) <ℚ zero_ℚ

crossed : (lower upper : Option ℚ) → are_crossed lower upper ≡ true → AreCrossed lower upper
crossed None upper e = absurd (true≢false (sym e))
crossed (Some l) None e = absurd (true≢false (sym e))
crossed (Some l) (Some u) e = record {
  lower_there = refl;
  upper_there = refl;
  below = lt_by (l ∷ u ∷ []) (minus unit_of :* x0 :+ (unit_of :* x1 :+ zero_of)) zero_of (x0 :- x1) (positive_of_lt (lt_q-true u l e)) tt;
}

module _ (system : LinearSystem) where
  abbrev all : ℕ
  all = length system.columns + length system.rows

  numbers_below : All (λ v. v < all) (numbers_from 0 all)
  numbers_below =
      All-from_get_or (λ v. v < all) (numbers_from 0 all) 0
      (λ i l.
      let below : i < all = subst (λ n. i < n) (length_numbers 0 all) l in
      subst (λ v. v < all) (sym (number_at 0 all i 0 below ∙ (let e : 0 + i ≡ i = omega arith in e))) below)

  pub crossing_combination : (v : ℕ) → first_crossing system ≡ Some v → IsVariableCombination system (crossing_shares v)
  crossing_combination v e =
      let found : (v < all) × (crosses system v ≡ true) = found_is (crosses system) (λ k. k < all) (numbers_from 0 all) v numbers_below e in
      let limits : AreCrossed (variable_limits system v).lower (variable_limits system v).upper = crossed (variable_limits system v).lower (variable_limits system v).upper found.1 in
      let lower : VariableShare = record { variable = v; side = Lo; weight = one_ℚ } in
      let upper : VariableShare = record { variable = v; side = Up; weight = one_ℚ } in
      record {
        positive = both_hold (λ (s : VariableShare). zero_ℚ <ℚ s.weight) lower upper (positive_is.1 positive-one) (positive_is.1 positive-one);
        known = both_hold (λ (s : VariableShare). s.variable < all) lower upper found.0 found.0;
        there = both_hold (λ (s : VariableShare). IsSome (limit_on (variable_limits system s.variable) s.side)) lower upper limits.lower_there limits.upper_there;
        cancels = λ k l. ring_ℚ (factor_of (variable_form system v) k ∷ []) (minus unit_of :* x0 :+ (unit_of :* x0 :+ zero_of)) zero_of tt;
        contradicts = limits.below;
      }

-- ---- the law
-- in both cases the shares are a combination of the system
given_combination : (model : Program) (set : List Member) (path : List Branch) (pivots : ℕ) (of : List VariableShare) → IsWellFormed model
    → CrossesWith (plain_system model set path false) of ⊎ BlocksWith (plain_system model set path false) pivots of → IsVariableCombination (plain_system model set path false) of
given_combination model set path pivots of formed (inl c) =
    subst (IsVariableCombination (plain_system model set path false)) (sym c.shares_are) (crossing_combination (plain_system model set path false) c.variable c.crosses)
given_combination model set path pivots of formed (inr b) =
    subst (IsVariableCombination (plain_system model set path false)) (sym b.shares_are)
    (blocked_law (plain_system model set path false) b.here.tableau b.variable b.side (plain_formed model set path false formed b.run.apart) b.here.is_of b.blocked)

pub plain_cut : PlainCutLaw
plain_cut model set path pivots shares formed known cut =
    let system : LinearSystem = plain_system model set path false in
    let columns_are : length system.columns ≡ length model.columns = length_mapped (column_limits model set path) (length model.columns) in
    let combination : IsNamedCombination system (map (named (length system.columns)) cut.of) =
    record { of = cut.of; combination = given_combination model set path pivots cut.of formed cut.given; same = refl } in
    subst (IsCombination model set path) (ap (λ n. program_shares model set path (map (named n) cut.of)) columns_are ∙ sym cut.shares_are)
    (translation model set path false (map (named (length system.columns)) cut.of) formed known combination)
