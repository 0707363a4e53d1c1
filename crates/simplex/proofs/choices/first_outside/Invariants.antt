use Rattle.std.proofs.Common.{◌≡◌, false, None}
use Rattle.std.specs.Prelude.{All}
use Rattle.frac128.specs.Calculation.{first_wide}
use Rattle.certs.specs.System.{is_basic}
use Rattle.certs.specs.Tableau.{below}
use Rattle.certs.specs.Turns.{is_outside, operations_to_outside}
use Rattle.dictionary.specs.Value.{tableau_of}
use Rattle.simplex.proofs.choices.first_outside.Given as goal

-- the dictionary stays, none of the basic variables passed is outside, and no operation of their values is too wide
abbrev pub invariant-loop-variable : goal.invariant-loop-variable
invariant-loop-variable g l =
    let t = tableau_of l.dictionary in
    record {
      same : l.dictionary ≡ l.fn.dictionary;
      inside : All (λ k. is_outside t k ≡ false) (below l.variable (is_basic t.basis));
      narrow : first_wide g.N.Exact.most (operations_to_outside t (below l.variable (is_basic t.basis))) ≡ None;
    }
