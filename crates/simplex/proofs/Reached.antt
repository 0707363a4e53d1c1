-- What a run has come to before a turn.
use Rattle.std.proofs.Common.{◌≡◌, ◌+◌, ℕ, true, List, sym, subst}
use Rattle.certs.specs.System.{LinearSystem, Place}
use Rattle.certs.specs.Tableau.{IsTableauOf}
use Rattle.dictionary.specs.Value.{DictionaryValue, tableau_of}

-- so many turns have been made, each for a pivot of the budget, and they reach the dictionary's basis
pub record IsReached (reaches : LinearSystem → ℕ → List Place → List Place → Type 0) (old now : DictionaryValue) (budget left begun turn : ℕ) : Type 0 where
  pub usable : now.usable ≡ true
  pub columns : now.columns ≡ old.columns
  pub made : (made : ℕ) × ((made + left ≡ budget) × ((turn ≡ begun + made) × ((system : LinearSystem) → IsTableauOf system (tableau_of old) → IsTableauOf system (tableau_of now) × reaches system made old.basis now.basis)))

-- and where the dictionary stays
pub still_reached : {reaches : LinearSystem → ℕ → List Place → List Place → Type 0} {old now next : DictionaryValue} {budget left begun turn : ℕ} → next ≡ now → IsReached reaches old now budget left begun turn → IsReached reaches old next budget left begun turn
still_reached {reaches = reaches} {old = old} {budget = budget} {left = left} {begun = begun} {turn = turn} same is = subst (λ d. IsReached reaches old d budget left begun turn) (sym same) is
