-- The shares at an optimal end, as they are listed.
use Rattle.std.proofs.Common.{◌≡◌, ◌∙◌, ap, subst, ℕ, true, false, not, ◌++◌, map, length}
use Rattle.std.specs.Prelude.{filter}
use Rattle.std.proofs.lemmas.List.{map-append}
use Rattle.certs.specs.Ended.{is_upper, numbers_from, shares_for}
use Rattle.certs.specs.Named.{named}
use Rattle.certs.specs.System.{LinearSystem}
use Rattle.certs.specs.Tableau.{Tableau}
use Rattle.simplex.specs.Combined.{column_shares, row_shares}
use Rattle.simplex.specs.Duals.{objective_multiple, optimal_shares}

pub all_shares : (columns : ℕ) (system : LinearSystem) (t : Tableau) → length system.columns ≡ columns
    → map (named columns) (optimal_shares system t)
    ≡ row_shares columns (length system.rows) (objective_multiple t) ++ (column_shares columns false columns (objective_multiple t) ++ column_shares columns true columns (objective_multiple t))
all_shares columns system t n = subst Goal n base
  where
    Goal : ℕ → Type 0
    Goal k =
        map (named k) (optimal_shares system t)
        ≡ row_shares k (length system.rows) (objective_multiple t) ++ (column_shares k false k (objective_multiple t) ++ column_shares k true k (objective_multiple t))

    base : Goal (length system.columns)
    base =
        let k = length system.columns in
        let c = objective_multiple t in
        let columns = shares_for c (numbers_from 0 k) in
        map-append (named k) (shares_for c (numbers_from k (length system.rows))) (filter (λ s. not (is_upper s)) columns ++ filter is_upper columns)
        ∙ ap (λ l. row_shares k (length system.rows) c ++ l) (map-append (named k) (filter (λ s. not (is_upper s)) columns) (filter is_upper columns))
