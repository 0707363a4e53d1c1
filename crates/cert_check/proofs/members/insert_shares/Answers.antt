use Rattle.std.proofs.Common.{◌+◌, sym, ◌∙◌, ap, subst, drop}
use Rattle.std.specs.List.{list_any}
use Rattle.lp_model.specs.MemberSets.{SetValue}
use Rattle.certs.specs.declared.evidence.Share.{Share}
use Rattle.certs.specs.Named.{IsKnownSource}
use Rattle.certs.specs.Violation.{is_of}
use Rattle.cert_check.specs.Uses.{with_source, with_tested}
use Rattle.cert_check.proofs.Named.{put_all, put_next, source_columns, source_known, source_over, source_rows}
use Rattle.cert_check.proofs.members.insert_shares.Goals as goal

pub insert_source-requires : goal.insert_source-requires
insert_source-requires c =
    let i = c.loop-share.invariant in
    source_known c.args.set.now c.loop-share.set c.share-item.result.source i.rows i.columns
    (subst (λ (s : Share). IsKnownSource c.args.set.now s.source) (sym c.share-item.is) (c.requires c.loop-share.share-index c.share-item.result c.loop-share-test.true))

pub loop-share-preserved : goal.loop-share-preserved
loop-share-preserved c =
    let i = c.loop-share.invariant in
    let set = c.loop-share.set in
    let s = c.share-item.result in
    let shares = c.args.shares.now in
    let n = c.loop-share.share-index in
    record {
      rows = ap (λ (z : SetValue). z.rows) c.insert_source.ensures ∙ (source_rows set s.source ∙ i.rows);
      columns = ap (λ (z : SetValue). z.columns) c.insert_source.ensures ∙ (source_columns set s.source ∙ i.columns);
      left =
          ap (λ (z : SetValue). with_tested z (λ m. list_any (λ t. is_of m t.source) (drop (n + 1) shares))) c.insert_source.ensures
          ∙ (put_next set (λ m t. is_of m t.source) shares n s (with_source set s.source) c.loop-share-test.true c.share-item.is (source_over set s.source (λ m. list_any (λ t. is_of m t.source) (drop (n + 1) shares)))
          ∙ i.left);
    }

pub returns : goal.returns
returns c =
    sym (put_all c.loop-share.set (λ m t. is_of m t.source) c.args.shares.now c.loop-share.share-index c.loop-share-test.false c.stands_in_order.ensures.possible)
    ∙ c.loop-share.invariant.left
