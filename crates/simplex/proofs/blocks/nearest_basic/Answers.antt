use Rattle.std.proofs.Common.{◌≡◌, ◌<◌, refl, sym, ◌∙◌, ap, subst, ℕ, true, false, List}
use Rattle.std.proofs.lemmas.Result.{err_from_is_err_and}
use Rattle.frac128.specs.Calculation.{Calculation}
use Rattle.frac128.proofs.Calculations.{first_wide-nil}
use Rattle.certs.specs.System.{is_basic}
use Rattle.certs.specs.Turns.{limited, value_operations}
use Rattle.certs.specs.Improves.{Block, block_on, block_operations, nearest, rate, towards}
use Rattle.dictionary.specs.Value.{tableau_of}
use Rattle.simplex.specs.ImproveChosen.{nearer}
use Rattle.simplex.proofs.Steps.{as_nearest}
use Rattle.simplex.proofs.Walks.{more_no, narrow_each, narrow_more, narrow_same, nearest_more, wide_here}
use Rattle.simplex.proofs.blocks.nearest_basic.Goals as goal

pub loop-basic-init : goal.loop-basic-init
loop-basic-init g c = record { first = refl; narrow = first_wide-nil g.N.Exact.most }

pub loop-basic-preserved-then-not-is_basic : goal.loop-basic-preserved-then-not-is_basic
loop-basic-preserved-then-not-is_basic g c =
    let t = tableau_of c.args.dictionary.now in
    let j = c.args.moving.variable in
    let v = c.loop-basic.basic in
    let n : is_basic t.basis v ≡ false = sym c.is_basic.ensures ∙ c.if-not-is_basic.true in
    let met : ℕ → List Block = λ i. block_on t j i (towards (rate t j i)) in
    let work : ℕ → Calculation = λ i. block_operations t j i (towards (rate t j i)) in
    record {
      first = c.loop-basic.invariant.first ∙ ap nearest (sym (more_no met (is_basic t.basis) v n));
      narrow = narrow_same g.N.Exact.most work (is_basic t.basis) v n c.loop-basic.invariant.narrow;
    }

pub basic_block-requires-clause-narrow : goal.basic_block-requires-clause-narrow
basic_block-requires-clause-narrow g c =
    let t = tableau_of c.args.dictionary.now in
    let v = c.loop-basic.basic in
    let b : is_basic t.basis v ≡ true = sym c.is_basic.ensures ∙ c.if-not-is_basic.false in
    let l : v < limited t = subst (λ n. v < n) c.limited_variables-basic-end.ensures c.loop-basic-test.true in
    narrow_each g.N.Exact.most (value_operations t) (is_basic t.basis) (limited t) v l b c.requires.narrow

pub returns-in_err-block : goal.returns-in_err-block
returns-in_err-block g c =
    let t = tableau_of c.args.dictionary.now in
    let j = c.args.moving.variable in
    let v = c.loop-basic.basic in
    let b : is_basic t.basis v ≡ true = sym c.is_basic.ensures ∙ c.if-not-is_basic.false in
    let l : v < limited t = subst (λ n. v < n) c.limited_variables-basic-end.ensures c.loop-basic-test.true in
    let work : ℕ → Calculation = λ i. block_operations t j i (towards (rate t j i)) in
    let p = err_from_is_err_and c.from_residual.result c.from_residual.ensures.1 in
    rw (p.1, p.2) (wide_here g.N.Exact.most work (is_basic t.basis) (limited t) v _ l b c.loop-basic.invariant.narrow c.in_err-block.ensures)

pub loop-basic-preserved : goal.loop-basic-preserved
loop-basic-preserved g c =
    let t = tableau_of c.args.dictionary.now in
    let j = c.args.moving.variable in
    let v = c.loop-basic.basic in
    let b : is_basic t.basis v ≡ true = sym c.is_basic.ensures ∙ c.if-not-is_basic.false in
    let met : ℕ → List Block = λ i. block_on t j i (towards (rate t j i)) in
    let work : ℕ → Calculation = λ i. block_operations t j i (towards (rate t j i)) in
    record {
      first = c.nearer-first.ensures ∙ ap (nearer c.loop-basic.first) (as_nearest c.in_ok-block.block (met v) c.in_ok-block.ensures.0) ∙ nearest_more met (is_basic t.basis) v c.loop-basic.first b c.loop-basic.invariant.first;
      narrow = narrow_more g.N.Exact.most work (is_basic t.basis) v b c.loop-basic.invariant.narrow c.in_ok-block.ensures.1;
    }
