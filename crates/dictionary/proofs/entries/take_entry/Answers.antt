use Rattle.std.proofs.Common.{◌≡◌, ◌≢◌, ◌<◌, sym, ◌∙◌, ap, subst, take, drop, length}
use Rattle.std.specs.Prelude.{slice_index_or}
use Rattle.rational.specs.Linear.{Term}
use Rattle.dictionary.specs.Rows.{terms_of}
use Rattle.dictionary.proofs.Terms.{terms_get, terms_within, terms_held, terms-remove, some_term}
use Rattle.dictionary.proofs.Lists.{rises, lesser, from_on, found-factor, found-nonzero, found-without, missing-factor, without_none}
use Rattle.dictionary.proofs.entries.take_entry.Goals as goal

pub returns-then-is_of-clause-rest : goal.returns-then-is_of-clause-rest
returns-then-is_of-clause-rest g c =
    let v = g.N.Exact.value in
    let V = c.args.variable in
    let row = c.args.row.now.items in
    let n = c.count_below-place.result in
    let front = subst (λ z. take n (terms_of v z) ≡ lesser V (terms_of v z)) c.deref.ensures.value c.count_below-place.ensures.front in
    let back = subst (λ z. drop n (terms_of v z) ≡ from_on V (terms_of v z)) c.deref.ensures.value c.count_below-place.ensures.back in
    let there = subst (λ z. (n < length z) × ((d : Term) → (slice_index_or (terms_of v z) n d).column ≡ V)) c.deref-2.ensures.value (c.is_of.ensures.there c.if-is_of.true) in
    ap (terms_of v) c.remove.ensures.items ∙ terms-remove v n row ∙ found-without V (terms_of v row) c.requires n front back some_term (terms_within v row n there.0) (there.1 some_term)

pub returns-then-is_of-clause-factor : goal.returns-then-is_of-clause-factor
returns-then-is_of-clause-factor g c =
    let v = g.N.Exact.value in
    let V = c.args.variable in
    let row = c.args.row.now.items in
    let n = c.count_below-place.result in
    let front = subst (λ z. take n (terms_of v z) ≡ lesser V (terms_of v z)) c.deref.ensures.value c.count_below-place.ensures.front in
    let back = subst (λ z. drop n (terms_of v z) ≡ from_on V (terms_of v z)) c.deref.ensures.value c.count_below-place.ensures.back in
    let there = subst (λ z. (n < length z) × ((d : Term) → (slice_index_or (terms_of v z) n d).column ≡ V)) c.deref-2.ensures.value (c.is_of.ensures.there c.if-is_of.true) in
    let is : v c.remove.result.factor ≡ (slice_index_or (terms_of v row) n some_term).factor = ap (λ e. v e.factor) c.remove.ensures.value ∙ sym (ap (λ (t : Term). t.factor) (terms_get v row n c.remove.result some_term there.0)) in (
      is ∙ found-factor V (terms_of v row) c.requires n front back some_term (terms_within v row n there.0) (there.1 some_term),
      λ z. found-nonzero V (terms_of v row) c.requires n front back some_term (terms_within v row n there.0) (there.1 some_term) (sym is ∙ z),
    )

pub returns-clause-factor : goal.returns-clause-factor
returns-clause-factor g c =
    let v = g.N.Exact.value in
    let V = c.args.variable in
    let row = c.args.row.now.items in
    let n = c.count_below-place.result in
    let front = subst (λ z. take n (terms_of v z) ≡ lesser V (terms_of v z)) c.deref.ensures.value c.count_below-place.ensures.front in
    let back = subst (λ z. drop n (terms_of v z) ≡ from_on V (terms_of v z)) c.deref.ensures.value c.count_below-place.ensures.back in
    missing-factor V (terms_of v row) c.requires n front back (λ d l. subst (λ z. n < length z → (slice_index_or (terms_of v z) n d).column ≢ V) c.deref-2.ensures.value (c.is_of.ensures.none c.if-is_of.false d) (terms_held v row n l))

pub returns-clause-rest : goal.returns-clause-rest
returns-clause-rest g c =
    let v = g.N.Exact.value in
    let row = c.args.row.now.items in
    sym (without_none 0 c.args.variable (terms_of v row) (rises (terms_of v row) c.requires) (returns-clause-factor g c))
