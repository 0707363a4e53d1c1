use Rattle.std.proofs.Common.{◌≡◌, false, not}
use Rattle.std.specs.Prelude.{All}
use Rattle.certs.specs.System.{is_basic}
use Rattle.certs.specs.Tableau.{below}
use Rattle.certs.specs.Turns.{helps}
use Rattle.dictionary.specs.Layouts.{side_of}
use Rattle.dictionary.specs.Value.{tableau_of}
use Rattle.simplex.proofs.choices.entering.Given as goal

-- none of the nonbasic variables passed helps
abbrev pub invariant-loop-variable : goal.invariant-loop-variable
invariant-loop-variable g l = All (λ k. helps (tableau_of l.dictionary) (side_of l.upper) l.basic k ≡ false) (below l.variable (λ k. not (is_basic l.dictionary.basis k)))
