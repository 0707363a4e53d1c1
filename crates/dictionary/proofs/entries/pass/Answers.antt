use Rattle.std.proofs.Common.{◌≡◌, ◌+◌, sym, ◌∙◌, ap, suc, take, drop, ◌++◌, arith}
use Rattle.rational.specs.Linear.{Term}
use Rattle.dictionary.specs.Rows.{terms_of}
use Rattle.dictionary.proofs.Terms.{terms_get, terms_within, terms_held, terms-append, terms-take, succeeded, some_term}
use Rattle.dictionary.proofs.Lists.{found-factor, found-greater, missing-factor, missing-greater}
use Rattle.dictionary.proofs.entries.pass.Goals as goal

pub returns-then-is_of-clause-items : goal.returns-then-is_of-clause-items
returns-then-is_of-clause-items g c =
    let v = g.N.Exact.value in
    let rest = c.args.rest.now in
    let n = c.count_below-place.result in
    let out = c.args.out.now.items in
    ap (terms_of v) (succeeded c.extend_from_slice.result c.unwrap.result (out ++ take n rest) out c.extend_from_slice.new.self.items c.unwrap.ensures c.extend_from_slice.ensures.items)
    ∙ terms-append v out (take n rest) ∙ ap (λ z. terms_of v out ++ z) (terms-take v n rest ∙ c.count_below-place.ensures.front)

pub returns-then-is_of-clause-factor : goal.returns-then-is_of-clause-factor
returns-then-is_of-clause-factor g c =
    let v = g.N.Exact.value in
    let row = c.args.rest.now in
    let n = c.count_below-place.result in
    let there = c.is_of.ensures.there c.if-is_of.true in
    sym (ap (λ (t : Term). t.factor) (terms_get v row n c.index-rest-place.result some_term there.0))
    ∙ found-factor c.args.variable (terms_of v row) c.requires.row n c.count_below-place.ensures.front c.count_below-place.ensures.back some_term (terms_within v row n there.0) (there.1 some_term)

pub returns-then-is_of-clause-rest : goal.returns-then-is_of-clause-rest
returns-then-is_of-clause-rest g c =
    let v = g.N.Exact.value in
    let row = c.args.rest.now in
    let n = c.count_below-place.result in
    let there = c.is_of.ensures.there c.if-is_of.true in
    ap (λ k. drop k (terms_of v row)) (let e : n + 1 ≡ suc n = omega arith in e)
    ∙ found-greater c.args.variable (terms_of v row) c.requires.row n c.count_below-place.ensures.front c.count_below-place.ensures.back some_term (terms_within v row n there.0) (there.1 some_term)

pub returns-clause-items : goal.returns-clause-items
returns-clause-items g c =
    let v = g.N.Exact.value in
    let rest = c.args.rest.now in
    let n = c.count_below-place.result in
    let out = c.args.out.now.items in
    ap (terms_of v) (succeeded c.extend_from_slice.result c.unwrap.result (out ++ take n rest) out c.extend_from_slice.new.self.items c.unwrap.ensures c.extend_from_slice.ensures.items)
    ∙ terms-append v out (take n rest) ∙ ap (λ z. terms_of v out ++ z) (terms-take v n rest ∙ c.count_below-place.ensures.front)

pub returns-clause-factor : goal.returns-clause-factor
returns-clause-factor g c =
    let v = g.N.Exact.value in
    let row = c.args.rest.now in
    let n = c.count_below-place.result in
    c.zero.ensures ∙ sym (missing-factor c.args.variable (terms_of v row) c.requires.row n c.count_below-place.ensures.front c.count_below-place.ensures.back (λ d l. c.is_of.ensures.none c.if-is_of.false d (terms_held v row n l)))

pub returns-clause-rest : goal.returns-clause-rest
returns-clause-rest g c =
    let v = g.N.Exact.value in
    let row = c.args.rest.now in
    let n = c.count_below-place.result in
    missing-greater c.args.variable (terms_of v row) c.requires.row n c.count_below-place.ensures.front c.count_below-place.ensures.back (λ d l. c.is_of.ensures.none c.if-is_of.false d (terms_held v row n l))
