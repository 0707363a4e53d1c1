use Rattle.std.proofs.Common.{◌≡◌, ◌≤◌, sym, ◌∙◌, ap, subst, List, map, length}
use Rattle.std.proofs.lemmas.List.{take_all}
use Rattle.certs.specs.declared.evidence.Share.{Share}
use Rattle.certs.specs.Combination.{IsCombination}
use Rattle.certs.specs.Named.{arranged, translated, program_shares}
use Rattle.certs.proofs.Translated.{translation}
use Rattle.certs.proofs.naming.node_combo.Goals as goal

pub returns-clause-combination : goal.returns-clause-combination
returns-clause-combination c objective named =
    let model = c.args.model.now in
    let set = c.args.set.now.members in
    let path = c.args.path.now in
    let shares = c.args.combo.now.shares in
    let all : length shares ≤ c.loop-share.share-index = subst (λ (l : List Share). length l ≤ c.loop-share.share-index) c.as_slice-share-items.ensures c.loop-share-test.false in
    let same : c.in_ok-arranged.field-0 ≡ program_shares model set path shares =
    c.in_ok-arranged.ensures
    ∙ ap (λ n. arranged n c.as_slice-2.result.now) c.column_count.ensures.count
    ∙ ap (arranged (length model.columns)) (c.as_slice-2.ensures.value ∙ c.loop-share.invariant ∙ ap (map (translated model set path)) (take_all c.loop-share.share-index shares all)) in
    subst (IsCombination model set path) (sym same) (translation model set path objective shares c.row_count-count.ensures.well_formed c.requires.known named)
