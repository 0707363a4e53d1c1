use Rattle.std.proofs.Common.{◌<◌, sym, ◌∙◌, ap, List, Some}
use Rattle.std.proofs.lemmas.List.Elements.{All-pop}
use Rattle.certs.specs.System.{VariableShare}
use Rattle.reductions.specs.Back.{Weights}
use Rattle.trace_back.specs.Held.{on_side, shares_written, weights_in, with_sides}
use Rattle.trace_back.proofs.Forced.{written-last}
use Rattle.trace_back.proofs.forcing.put_limits.Goals as goal

pub loop-limit-preserved : goal.loop-limit-preserved
loop-limit-preserved c =
    let w = weights_in c.loop-limit.weights in
    let s = c.in-Some.limit in
    let left = c.pop.new.self.items in
    let is = c.in-Some.ensures.items in
    let so = c.loop-limit.invariant in
    record {
      columns = c.put_one.ensures.columns ∙ so.columns;
      rows = c.put_one.ensures.rows ∙ so.rows;
      held = c.put_one.ensures.held;
      known = (All-pop (λ (z : VariableShare). z.variable < c.args.weights.now.columns) c.loop-limit.limits.items left (Some s) is so.known).0;
      written =
          ap (λ (z : Weights). shares_written left z) (c.put_one.ensures.weights_are ∙ ap (λ (z : VariableShare). with_sides z.variable (on_side z.side z.weight) w) c.limit.view_is)
          ∙ sym (written-last left s w)
          ∙ sym (ap (λ (l : List VariableShare). shares_written l w) is)
          ∙ so.written;
    }
