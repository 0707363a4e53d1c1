-- Points and values at the end of the improve run of a set.
use Rattle.std.proofs.Common.{◌≡◌, ◌<◌, ◌≤◌, refl, sym, ◌∙◌, ap, subst, ℕ, Bool, true, false, not, List, [], length, get_or, Ok, Err}
use Rattle.std.specs.Prelude.{Contains, IfOk, Result}
use Rattle.std.specs.declared.alloc.AllocError.{AllocError}
use Rattle.std.proofs.lemmas.List.Elements.{All-contains_itself, All-filter, filter_passes}
use Rattle.rational.specs.Rational.{◌*ℚ◌}
use Rattle.rational.specs.Linear.{Assignment, Term, factor_of}
use Rattle.rational.proofs.Forms.{by_known}
use Rattle.rational.proofs.Sums.{sum_below-ext}
use Rattle.lp_model.specs.declared.members.Member.{Member}
use Rattle.lp_model.specs.Program.{Program}
use Rattle.lp_model.specs.Members.{is_mark}
use Rattle.lp_model.specs.MemberSets.{IsMemberFor}
use Rattle.lp_model.specs.Satisfaction.{Satisfies, values_at}
use Rattle.lp_model.proofs.Sets.{has_of_contains}
use Rattle.certs.specs.declared.evidence.Point.{Point}
use Rattle.certs.specs.Bound.{directed, objective_value, without_marks}
use Rattle.certs.specs.Ended.{IsSolution}
use Rattle.certs.specs.Improves.{objective_variable}
use Rattle.certs.specs.Plain.{greatest_objective, plain_system}
use Rattle.certs.specs.System.{LinearSystem}
use Rattle.certs.specs.Tableau.{value_of}
use Rattle.certs.specs.Tales.{IsPointOf}
use Rattle.certs.specs.Trees.{has_mark}
use Rattle.certs.specs.Turns.{limited}
use Rattle.certs.proofs.PlainAnswers.{unmarked}
use Rattle.certs.proofs.PlainPoints.{member_holds}
use Rattle.dictionary.specs.Value.{DictionaryValue, tableau_of}
use Rattle.certs.proofs.Feasible.{feasible_law}
use Rattle.linear_oracle.proofs.Runs.{columns_within}
use Rattle.simplex.proofs.Optimal.{objective_value_law}
use Rattle.unbounded.specs.Runs.{IsEndOf}
use Rattle.unbounded.proofs.Directed.{directed_twice, greatest_value}
use Rattle.unbounded.proofs.Settled.{settled}
use Rattle.unbounded.proofs.Systems.{columns_are}

denied : (b : Bool) → not b ≡ true → b ≡ false
denied false e = refl
denied true e = absurd (let f : false ≡ true = e in cc)

module _ (model : Program) (set : List Member) (now : DictionaryValue) (stands : IsEndOf model set now) where
  abbrev pub system : LinearSystem
  system = plain_system model set [] true

  pub count : length system.columns ≡ now.columns
  count = columns_are model set ∙ sym stands.columns

  pub within : now.columns ≤ limited (tableau_of now)
  within = columns_within system now stands.is_of (sym count)

  solution : IsSolution (plain_system model set [] false) (value_of (tableau_of now))
  solution =
      let s = feasible_law system (tableau_of now) stands.system_formed stands.is_of (settled system (tableau_of now) stands.is_of stands.within) in
      record { rows = record { rows = s.rows.rows; objective = tt }; limits = s.limits }

  module _ (y : Assignment) (same : (j : ℕ) → j < now.columns → y j ≡ value_of (tableau_of now) j) where
    same_at : (j : ℕ) → j < length model.columns → y j ≡ value_of (tableau_of now) j
    same_at j l = same j (subst (λ n. j < n) (sym stands.columns) l)

    -- without a mark the point is one of the set
    pub satisfies : has_mark set ≡ false → Satisfies model set y
    satisfies none = λ k d l.
        member_holds model set [] (value_of (tableau_of now)) y stands.formed solution same_at (get_or set k d) (stands.known k d l)
        (has_of_contains set (get_or set k d) (All-contains_itself set k d l)) (unmarked set (ap not none) k d l)

    -- a point of the set without its marks
    pub satisfies_relaxed : Satisfies model (without_marks set) y
    satisfies_relaxed = λ k d l.
        let plain : Member → Bool = λ m. not (is_mark m) in
        let m : Member = get_or (without_marks set) k d in
        member_holds model set [] (value_of (tableau_of now)) y stands.formed solution same_at m
        (All-filter plain (IsMemberFor (length model.rows) (length model.columns)) set stands.known k d l)
        (has_of_contains set m (All-filter plain (Contains set) set (All-contains_itself set) k d l))
        (denied (is_mark m) (filter_passes plain set k d l))

    -- and its value of the objective is the run's
    pub reaches : objective_value model y ≡ directed model (value_of (tableau_of now) (objective_variable (tableau_of now)))
    reaches =
        let x = value_of (tableau_of now) in
        let n = length model.columns in
        let terms : List Term = model.objective in
        by_known n terms y stands.formed.objective.known
        ∙ sum_below-ext n (λ j. factor_of terms j *ℚ y j) (λ j. factor_of terms j *ℚ x j) (λ j l. ap (λ z. factor_of terms j *ℚ z) (same_at j l))
        ∙ sym (by_known n terms x stands.formed.objective.known)
        ∙ sym (directed_twice model (objective_value model x))
        ∙ ap (directed model) (sym (greatest_value model x))
        ∙ ap (directed model) (sym (objective_value_law system (tableau_of now) (greatest_objective model) stands.system_formed refl stands.is_of))

  pub point_is : (result : Result Point AllocError) → IfOk result (λ (point : Point). (length point.values ≡ now.columns) × ((v : ℕ) → v < now.columns → values_at point.values v ≡ value_of (tableau_of now) v))
      → has_mark set ≡ false → IfOk result (IsPointOf model set)
  point_is (Ok point) h none = record { each_column = h.0 ∙ stands.columns; satisfies = satisfies (values_at point.values) h.1 none }
  point_is (Err e) h none = tt
