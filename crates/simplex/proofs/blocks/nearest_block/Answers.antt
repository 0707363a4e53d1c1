use Rattle.std.proofs.Common.{sym, ◌∙◌, ap, List, ◌++◌, flat_map}
use Rattle.std.proofs.lemmas.Result.{err_from_is_err_and}
use Rattle.frac128.proofs.Calculations.{first_wide-before, first_wide-past}
use Rattle.certs.specs.Tableau.{limits_at}
use Rattle.certs.specs.Turns.{limited_basics}
use Rattle.certs.specs.Improves.{Block, block_on, nearest, own_block, own_operations, rate, towards}
use Rattle.dictionary.specs.Layouts.{side_of}
use Rattle.dictionary.specs.Value.{tableau_of}
use Rattle.simplex.specs.ImproveChosen.{nearer}
use Rattle.simplex.proofs.Nearer.{nearest_append}
use Rattle.simplex.proofs.Steps.{as_nearest, side_risen}
use Rattle.simplex.proofs.blocks.nearest_block.Goals as goal

pub returns-in_err-first : goal.returns-in_err-first
returns-in_err-first g c =
    let t = tableau_of c.args.dictionary.now in
    let limits = limits_at t c.args.variable in
    let p = err_from_is_err_and c.from_residual.result c.from_residual.ensures.1 in
    rw (p.1, p.2) (first_wide-before g.N.Exact.most _ (own_operations limits.lower limits.upper) _ c.in_err-first.ensures)

pub returns-in_err-own : goal.returns-in_err-own
returns-in_err-own g c =
    let t = tableau_of c.args.dictionary.now in
    let limits = limits_at t c.args.variable in
    let p = err_from_is_err_and c.from_residual-in_err-own.result c.from_residual-in_err-own.ensures.1 in
    rw (p.1, p.2) (first_wide-past g.N.Exact.most _ (own_operations limits.lower limits.upper) c.in_ok-first.ensures.1 ∙ c.in_err-own.ensures)

pub returns : goal.returns
returns g c =
    let t = tableau_of c.args.dictionary.now in
    let j = c.args.variable in
    let limits = limits_at t j in
    let met : List Block = flat_map (λ i. block_on t j i (towards (rate t j i))) (limited_basics t) in
    let own = own_block j (side_of c.rises.result) limits.lower limits.upper in (
      c.nearer.ensures
          ∙ ap (λ z. nearer z c.in_ok-own.own) c.in_ok-first.ensures.0
          ∙ ap (nearer (nearest met)) (as_nearest c.in_ok-own.own own c.in_ok-own.ensures.0)
          ∙ sym (nearest_append met own)
          ∙ ap (λ s. nearest (met ++ own_block j s limits.lower limits.upper)) (ap side_of c.rises.ensures ∙ side_risen _),
      first_wide-past g.N.Exact.most _ (own_operations limits.lower limits.upper) c.in_ok-first.ensures.1 ∙ c.in_ok-own.ensures.1,
    )
