use Rattle.std.proofs.Common.{sym, ◌∙◌, ap}
use Rattle.rational.specs.Linear.{Term}
use Rattle.dictionary.specs.Rows.{terms_of}
use Rattle.dictionary.proofs.Terms.{terms_get, terms_within, terms_held, some_term}
use Rattle.dictionary.proofs.Lists.{found-factor, missing-factor}
use Rattle.dictionary.proofs.entries.factor_in.Goals as goal

pub returns-then-is_of : goal.returns-then-is_of
returns-then-is_of g c =
    let v = g.N.Exact.value in
    let row = c.args.row.now in
    let n = c.count_below-place.result in
    let there = c.is_of.ensures.there c.if-is_of.true in
    sym (ap (λ (t : Term). t.factor) (terms_get v row n c.index-row-place.result some_term there.0))
    ∙ found-factor c.args.variable (terms_of v row) c.requires n c.count_below-place.ensures.front c.count_below-place.ensures.back some_term (terms_within v row n there.0) (there.1 some_term)

pub returns : goal.returns
returns g c =
    let v = g.N.Exact.value in
    let row = c.args.row.now in
    let n = c.count_below-place.result in
    c.zero.ensures
    ∙ sym (missing-factor c.args.variable (terms_of v row) c.requires n c.count_below-place.ensures.front c.count_below-place.ensures.back
    (λ d l. c.is_of.ensures.none c.if-is_of.false d (terms_held v row n l)))
