use Rattle.std.proofs.Common.{refl, sym, ◌∙◌, ap, subst, ◌<◌, map}
use Rattle.certs.specs.Bound.{directed, without_marks, IsBoundDual}
use Rattle.lp_model.specs.Satisfaction.{values_at}
use Rattle.certs.specs.Named.{named}
use Rattle.certs.specs.Order.{AreSharesInOrder}
use Rattle.certs.specs.Plain.{greatest_objective}
use Rattle.certs.specs.Tableau.{value_of}
use Rattle.simplex.specs.Duals.{IsNamedDual, optimal_shares}
use Rattle.linear_oracle.proofs.Placed.{placed_in_order}
use Rattle.dictionary.specs.Value.{tableau_of}
use Rattle.unbounded.proofs.Ending.{count, reaches, satisfies_relaxed, system, within}
use Rattle.unbounded.proofs.Ordered.{optimal_in_order}
use Rattle.unbounded.proofs.Duals.{known_sources, program_dual}
use Rattle.unbounded.proofs.ends.bounded_at.Goals as goal

pub dual_of-requires-clause-columns : goal.dual_of-requires-clause-columns
dual_of-requires-clause-columns c = within c.args.model.now c.args.set.now.members c.args.dictionary.now c.requires.stands

pub named_combo-requires-clause-of_system : goal.named_combo-requires-clause-of_system
named_combo-requires-clause-of_system c =
    let model = c.args.model.now in
    let set = c.args.set.now.members in
    let now = c.args.dictionary.now in
    let stands = c.requires.stands in
    let dual = c.in_ok-dual.dual in
    known_sources model set dual.combo.shares dual.bound
    (c.in_ok-dual.ensures.dual (system model set now stands) (greatest_objective model) stands.system_formed refl (count model set now stands) stands.is_of)

pub returns-clause-found : goal.returns-clause-found
returns-clause-found c =
    let model = c.args.model.now in
    let set = c.args.set.now.members in
    let now = c.args.dictionary.now in
    let stands = c.requires.stands in
    let dual = c.in_ok-dual.dual in
    let point = c.in_ok-point.point in
    let is_named : IsNamedDual (system model set now stands) (greatest_objective model) dual.combo.shares dual.bound =
    c.in_ok-dual.ensures.dual (system model set now stands) (greatest_objective model) stands.system_formed refl (count model set now stands) stands.is_of in
    let value = ap (directed model) (sym c.in_ok-dual.ensures.bound) ∙ sym c.directed-bound.ensures in
    let order : AreSharesInOrder dual.combo.shares =
    subst AreSharesInOrder (sym (c.in_ok-dual.ensures.shares (system model set now stands) (count model set now stands) stands.is_of ∙ ap (λ n. map (named n) (optimal_shares (system model set now stands) (tableau_of now))) (sym (count model set now stands))))
    (optimal_in_order (system model set now stands) (tableau_of now)) in
    record {
      point_of = c.in_ok-point.ensures.point;
      dual_of = subst (IsBoundDual model (without_marks set) c.in_ok-combo.combo.shares) (sym c.directed-bound.ensures)
          (subst (λ z. IsBoundDual model (without_marks set) z (directed model dual.bound)) (sym c.in_ok-combo.ensures.shares) (program_dual model set dual.combo.shares dual.bound stands.formed is_named));
      ordered = subst AreSharesInOrder (sym c.in_ok-combo.ensures.shares)
          (placed_in_order model set dual.combo.shares (known_sources model set dual.combo.shares dual.bound is_named) order);
      tight = record {
        at = value_of (tableau_of now);
        satisfies = satisfies_relaxed model set now stands (value_of (tableau_of now)) (λ j l. refl);
        value = reaches model set now stands (value_of (tableau_of now)) (λ j l. refl) ∙ value;
      };
      reached = λ none. (
        c.value_told-value.ensures.unmarked none,
        reaches model set now stands (values_at point.values) (λ j l. c.in_ok-point.ensures.unmarked none j (subst (λ n. j < n) stands.columns l)) ∙ value,
      );
      marked = c.value_told-value.ensures.marked;
    }

pub returns-clause-last : goal.returns-clause-last
returns-clause-last c = λ pivots run none.
    (let now = c.args.dictionary.now in
    record {
      basis = now.basis;
      run = run;
      here = record { tableau = tableau_of now; is_of = c.requires.stands.is_of; at = refl };
      values_are = c.in_ok-point.ensures.unmarked none;
    })
