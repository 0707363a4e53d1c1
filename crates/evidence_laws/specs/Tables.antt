-- The rows of a tableau as lists of terms.
use Rattle.std.specs.Prelude.{◌≡◌, ℕ, ◌<◌, false, List, map, length}
use Rattle.rational.specs.Linear.{Term, factor_of}
use Rattle.certs.specs.System.{LinearSystem, IsTable, is_basic}
use Rattle.certs.specs.Tableau.{Tableau, IsTableauOf, nonbasics}

-- a term for each nonbasic variable
abbrev pub terms_of : Tableau → ℕ → List Term
terms_of t i = map (λ k. record { column = k; factor = t.factor i k }) (nonbasics t.basis)

-- A tableau of a system is a table of it, and the terms have the tableau's factors.
abbrev pub TermsLaw : Type 0
TermsLaw = (system : LinearSystem) (t : Tableau) → IsTableauOf system t
    → IsTable system t.basis (terms_of t) × ((i k : ℕ) → k < length t.basis → is_basic t.basis k ≡ false → factor_of (terms_of t i) k ≡ t.factor i k)
