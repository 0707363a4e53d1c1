use Rattle.std.proofs.Common.{sym, ◌∙◌, ap, ◌++◌, append_assoc, map}
use Rattle.std.specs.Prelude.{filter}
use Rattle.certs.specs.Combination.{source_side}
use Rattle.certs.specs.Ended.{share_for}
use Rattle.simplex.specs.Duals.{objective_multiple}
use Rattle.dictionary.specs.Value.{tableau_of}
use Rattle.certs.specs.Named.{named}
use Rattle.simplex.specs.Combined.{column_shares, is_on}
use Rattle.simplex.proofs.Combining.{columns_more}
use Rattle.simplex.proofs.duals.push_columns.Goals as goal

pub loop-variable-preserved : goal.loop-variable-preserved
loop-variable-preserved c =
    let many = objective_multiple (tableau_of c.args.dictionary.now) in
    let n = c.columns-columns.result in
    let v = c.loop-variable.variable in
    let old = c.args.shares.now.items in
    let more = filter (λ s. is_on c.args.upper (source_side s.source)) (map (named n) (share_for v (many v))) in
    record {
      items =
          c.in_ok-append.ensures
          ∙ ap (λ z. c.loop-variable.shares.items ++ z) (c.on_side.ensures ∙ ap (filter (λ s. is_on c.args.upper (source_side s.source))) (c.share.ensures ∙ ap (λ q. map (named n) (share_for v q)) c.multiple-count.ensures))
          ∙ ap (λ z. z ++ more) c.loop-variable.invariant.items
          ∙ append_assoc old (column_shares n c.args.upper v many) more
          ∙ ap (λ z. old ++ z) (sym (columns_more n v c.args.upper many));
    }
