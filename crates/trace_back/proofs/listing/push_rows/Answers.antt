use Rattle.std.proofs.Common.{ℕ, ◌∙◌, ap, List, ◌++◌, map}
use Rattle.lp_model.specs.declared.members.Side.{Side}
use Rattle.lp_model.specs.declared.members.Side.TheVariants.{Lo, Up}
use Rattle.certs.specs.declared.evidence.Share.{Share}
use Rattle.certs.specs.Named.{named}
use Rattle.reductions.specs.Back.{share_of}
use Rattle.trace_back.specs.Held.{weights_in}
use Rattle.trace_back.proofs.Lists.{listed, of_row, row_more}
use Rattle.trace_back.proofs.listing.push_rows.Goals as goal

pub loop-row-preserved : goal.loop-row-preserved
loop-row-preserved c =
    let n = c.args.weights.now.columns in
    let w = weights_in c.args.weights.now in
    let old = c.args.shares.now.items in
    let v = c.variable-variable.result in
    let one = λ (side : Side) (k : ℕ). map (named n) (share_of w side k) in
    record {
      items =
          c.in_ok-push_limit-2.ensures
          ∙ ap (λ (l : List Share). l ++ one Up v) (c.in_ok-push_limit.ensures ∙ ap (λ (l : List Share). l ++ one Lo v) c.loop-row.invariant.items)
          ∙ ap (λ k. ((old ++ listed n (of_row w) n c.loop-row.row) ++ one Lo k) ++ one Up k) c.variable-variable.ensures
          ∙ row_more n w c.loop-row.row old;
    }
