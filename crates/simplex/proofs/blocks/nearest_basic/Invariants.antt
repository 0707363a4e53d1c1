use Rattle.std.proofs.Common.{◌≡◌, None, flat_map}
use Rattle.frac128.specs.Calculation.{first_wide}
use Rattle.certs.specs.System.{is_basic}
use Rattle.certs.specs.Tableau.{below}
use Rattle.certs.specs.Improves.{block_on, block_operations, nearest, rate, towards}
use Rattle.dictionary.specs.Value.{tableau_of}
use Rattle.simplex.proofs.blocks.nearest_basic.Given as goal

-- the first that the basic variables passed meet, and no operation of theirs is too wide
abbrev pub invariant-loop-basic : goal.invariant-loop-basic
invariant-loop-basic g l =
    let t = tableau_of l.dictionary in
    let j = l.moving.variable in
    record {
      first : l.first ≡ nearest (flat_map (λ i. block_on t j i (towards (rate t j i))) (below l.basic (is_basic t.basis)));
      narrow : first_wide g.N.Exact.most (flat_map (λ i. block_operations t j i (towards (rate t j i))) (below l.basic (is_basic t.basis))) ≡ None;
    }
