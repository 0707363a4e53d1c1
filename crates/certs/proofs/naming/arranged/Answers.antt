use Rattle.std.proofs.Common.{◌≡◌, ◌++◌, ◌∙◌, ap, not, List, filter, arith}
use Rattle.std.specs.Prelude.{flat_map}
use Rattle.std.proofs.lemmas.List.{take_all}
use Rattle.certs.specs.declared.evidence.Share.{Share}
use Rattle.certs.specs.Ended.{numbers_from}
use Rattle.certs.specs.Named.{is_member, on_column}
use Rattle.certs.proofs.Parted.{columns_among}
use Rattle.certs.proofs.naming.arranged.Goals as goal

pub returns : goal.returns
returns c =
    let shares = c.args.shares.now in
    let members = λ (l : List Share). filter (λ s. is_member s.source) l in
    let others = λ (l : List Share). filter (λ s. not (is_member s.source)) l in
    let all = take_all c.loop-share.share-index shares c.loop-share-test.false in
    let last : c.loop-column.column ≡ c.args.columns = omega (arith, c.loop-column-test.false, c.loop-column.auto.column-end) in
    c.new.ensures
    ∙ c.loop-column.invariant
    ∙ ap (λ l. l ++ flat_map (on_column c.loop-share.branches.items) (numbers_from 0 c.loop-column.column)) (c.loop-share.invariant.members ∙ ap members all)
    ∙ ap (λ k. members shares ++ flat_map (on_column c.loop-share.branches.items) (numbers_from 0 k)) last
    ∙ ap (λ l. members shares ++ flat_map (on_column l) (numbers_from 0 c.args.columns)) (c.loop-share.invariant.others ∙ ap others all)
    ∙ ap (λ l. members shares ++ l) (columns_among shares (numbers_from 0 c.args.columns))
