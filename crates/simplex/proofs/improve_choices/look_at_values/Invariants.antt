use Rattle.std.proofs.Common.{◌≡◌, None, flat_map}
use Rattle.frac128.specs.Calculation.{first_wide}
use Rattle.certs.specs.System.{is_basic}
use Rattle.certs.specs.Tableau.{below}
use Rattle.certs.specs.Turns.{value_operations}
use Rattle.dictionary.specs.Value.{tableau_of}
use Rattle.simplex.proofs.improve_choices.look_at_values.Given as goal

-- the dictionary stays, and no operation of the values passed is too wide
abbrev pub invariant-loop-variable : goal.invariant-loop-variable
invariant-loop-variable g l =
    let t = tableau_of l.dictionary in
    record {
      same : l.dictionary ≡ l.fn.dictionary;
      narrow : first_wide g.N.Exact.most (flat_map (value_operations t) (below l.variable (is_basic t.basis))) ≡ None;
    }
