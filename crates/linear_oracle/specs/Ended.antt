-- Ends of the run of a plain system.
use Rattle.std.specs.Prelude.{◌≡◌, ℕ, length}
use Rattle.certs.specs.Runs.{End}
use Rattle.certs.specs.Solves.{StartRun}
use Rattle.certs.specs.System.{LinearSystem}
use Rattle.certs.specs.Tableau.{IsTableauOf}
use Rattle.dictionary.specs.Value.{DictionaryValue, tableau_of}

-- The system's run from the start ends so, and the dictionary stands at its last basis.
pub record HasEnded (system : LinearSystem) (pivots : ℕ) (now : DictionaryValue) (end : End) : Type 0 where
  pub run : StartRun system pivots end now.basis
  pub is_of : IsTableauOf system (tableau_of now)
  pub columns : now.columns ≡ length system.columns
