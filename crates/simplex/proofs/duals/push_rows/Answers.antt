use Rattle.std.proofs.Common.{◌≡◌, ◌+◌, ◌-◌, sym, ◌∙◌, ap, arith, ◌++◌, append_assoc, map}
use Rattle.certs.specs.Ended.{share_for}
use Rattle.simplex.specs.Duals.{objective_multiple}
use Rattle.dictionary.specs.Value.{tableau_of}
use Rattle.certs.specs.Named.{named}
use Rattle.simplex.specs.Combined.{row_shares}
use Rattle.simplex.proofs.Combining.{rows_more}
use Rattle.simplex.proofs.duals.push_rows.Goals as goal

pub loop-variable-preserved : goal.loop-variable-preserved
loop-variable-preserved c =
    let many = objective_multiple (tableau_of c.args.dictionary.now) in
    let n = c.columns-columns.result in
    let v = c.loop-variable.variable in
    let old = c.args.shares.now.items in
    let p = c.loop-variable.invariant.past in
    let at : n + (v - n) ≡ v = omega (arith, p) in
    let next : v + 1 - n ≡ v - n + 1 = omega (arith, p) in
    let more = map (named n) (share_for v (many v)) in
    record {
      past = omega (arith, p);
      items =
          c.in_ok-append.ensures
          ∙ ap (λ z. c.loop-variable.shares.items ++ z) (c.share.ensures ∙ ap (λ q. map (named n) (share_for v q)) c.multiple-count.ensures)
          ∙ ap (λ z. z ++ more) c.loop-variable.invariant.items
          ∙ append_assoc old (row_shares n (v - n) many) more
          ∙ ap (λ z. old ++ z) (sym (ap (λ k. row_shares n k many) next ∙ rows_more n (v - n) many ∙ ap (λ k. row_shares n (v - n) many ++ map (named n) (share_for k (many k))) at));
    }
