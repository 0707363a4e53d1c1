use Rattle.std.proofs.Common.{◌+◌, sym, ◌∙◌, ap, drop}
use Rattle.certs.specs.Combination.{source_side}
use Rattle.reductions.specs.Back.{Weights}
use Rattle.trace_back.specs.Held.{source_variable as variable_of, weights_in, with_limit, written}
use Rattle.trace_back.proofs.Fills.{write_more, write_end}
use Rattle.trace_back.proofs.filling.fill.Goals as goal

pub loop-share-preserved : goal.loop-share-preserved
loop-share-preserved c =
    let n = c.args.weights.now.columns in
    let shares = c.args.shares.now in
    let i = c.loop-share.share-index in
    let w = weights_in c.loop-share.weights in
    let s = c.share-item.result in
    let so = c.loop-share.invariant in
    record {
      columns = c.put.ensures.columns ∙ so.columns;
      rows = c.put.ensures.rows ∙ so.rows;
      held = c.put.ensures.held;
      made =
          ap (λ (z : Weights). written n (drop (i + 1) shares) z)
          (c.put.ensures.weights_are
          ∙ ap (λ side. with_limit side c.source_variable-variable.result s.weight w) c.side.ensures
          ∙ ap (λ v. with_limit (source_side s.source) v s.weight w) (c.source_variable-variable.ensures ∙ ap (λ k. variable_of k s.source) (c.columns.ensures ∙ so.columns)))
          ∙ sym (write_more n shares i w s c.loop-share-test.true c.share-item.is)
          ∙ so.made;
    }

pub returns : goal.returns
returns c =
    let so = c.loop-share.invariant in
    record {
      columns = so.columns;
      rows = so.rows;
      held = so.held;
      weights_are = sym (write_end c.args.weights.now.columns c.args.shares.now c.loop-share.share-index (weights_in c.loop-share.weights) c.loop-share-test.false) ∙ so.made;
    }
