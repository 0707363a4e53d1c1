use Rattle.std.proofs.Common.{◌-◌, sym, ◌∙◌, ap, subst, ◌++◌, append_assoc, map, false, true}
use Rattle.certs.specs.Turns.{limited}
use Rattle.dictionary.specs.Value.{tableau_of}
use Rattle.certs.specs.Named.{named}
use Rattle.simplex.specs.Combined.{column_shares, row_shares}
use Rattle.simplex.proofs.Combining.{rows_left}
use Rattle.simplex.specs.Duals.{IsVariableDual, objective_multiple, optimal_shares}
use Rattle.simplex.proofs.Listed.{all_shares}
use Rattle.simplex.proofs.Optimal.{optimal_dual_law}
use Rattle.simplex.proofs.duals.dual_of.Goals as goal

pub returns-clause-shares : goal.returns-clause-shares
returns-clause-shares c = λ system n of.
    (let t = tableau_of c.args.dictionary.now in
    let k = c.args.dictionary.now.columns in
    let many = objective_multiple t in
    c.new.ensures
    ∙ c.in_ok-push_columns-2.ensures
    ∙ ap (λ z. z ++ column_shares k true k many) (c.in_ok-push_columns.ensures ∙ ap (λ z. z ++ column_shares k false k many) (c.in_ok-push_rows.ensures ∙ ap (λ z. z ++ row_shares k (limited t - k) many) c.new-shares.ensures.items))
    ∙ append_assoc (row_shares k (limited t - k) many) (column_shares k false k many) (column_shares k true k many)
    ∙ ap (λ z. row_shares k z many ++ (column_shares k false k many ++ column_shares k true k many)) (ap (λ z. limited t - z) (sym n) ∙ rows_left system t of)
    ∙ sym (all_shares k system t n))

pub returns-clause-dual : goal.returns-clause-dual
returns-clause-dual c = λ system terms formed is n of.
    (let t = tableau_of c.args.dictionary.now in
    record {
      of = optimal_shares system t;
      dual = subst (λ b. IsVariableDual system (optimal_shares system t) terms b) (sym c.objective_value-bound.ensures) (optimal_dual_law system t terms formed is of c.requires.ended.1.0);
      same = returns-clause-shares c system n of ∙ ap (λ k. map (named k) (optimal_shares system t)) (sym n);
    })
