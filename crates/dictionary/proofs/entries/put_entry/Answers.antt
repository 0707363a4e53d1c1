use Rattle.std.proofs.Common.{◌≡◌, sym, ◌∙◌, ap, subst, take, drop, ◌++◌, ◌∷◌}
use Rattle.std.specs.Prelude.{insert}
use Rattle.rational.specs.Linear.{factor_of}
use Rattle.dictionary.specs.Rows.{terms_of, IsRow}
use Rattle.dictionary.proofs.Terms.{terms-insert, succeeded}
use Rattle.dictionary.proofs.Lists.{lesser, from_on, put-row, put-own, put-others}
use Rattle.dictionary.proofs.entries.put_entry.Given.{Over}
use Rattle.dictionary.proofs.entries.put_entry.Goals as goal

put_is : (g : Over) (c : goal.After-unwrap g) → terms_of g.N.Exact.value c.insert.new.self.items ≡ lesser c.args.variable (terms_of g.N.Exact.value c.args.row.now.items) ++ record { column = c.args.variable; factor = g.N.Exact.value c.args.factor } ∷ from_on c.args.variable (terms_of g.N.Exact.value c.args.row.now.items)
put_is g c =
    let v = g.N.Exact.value in
    let V = c.args.variable in
    let row = c.args.row.now.items in
    let n = c.count_below-place.result in
    let front = subst (λ z. take n (terms_of v z) ≡ lesser V (terms_of v z)) c.deref.ensures.value c.count_below-place.ensures.front in
    let back = subst (λ z. drop n (terms_of v z) ≡ from_on V (terms_of v z)) c.deref.ensures.value c.count_below-place.ensures.back in
    ap (terms_of v) (succeeded c.insert.result c.unwrap.result (insert row n (record { variable = V; factor = c.args.factor })) row c.insert.new.self.items c.unwrap.ensures c.insert.ensures.items)
    ∙ terms-insert v n row (record { variable = V; factor = c.args.factor })
    ∙ ap (λ z. z ++ record { column = V; factor = v c.args.factor } ∷ drop n (terms_of v row)) front
    ∙ ap (λ z. lesser V (terms_of v row) ++ record { column = V; factor = v c.args.factor } ∷ z) back

pub returns-clause-row : goal.returns-clause-row
returns-clause-row g c =
    let v = g.N.Exact.value in
    subst IsRow (sym (put_is g c)) (put-row c.args.variable (terms_of v c.args.row.now.items) c.requires.row c.requires.new (v c.args.factor) c.requires.nonzero)

pub returns-clause-own : goal.returns-clause-own
returns-clause-own g c =
    let v = g.N.Exact.value in
    ap (λ z. factor_of z c.args.variable) (put_is g c) ∙ put-own c.args.variable (terms_of v c.args.row.now.items) c.requires.row c.requires.new (v c.args.factor) c.requires.nonzero

pub returns-clause-others : goal.returns-clause-others
returns-clause-others g c = λ k d.
    (let v = g.N.Exact.value in
    ap (λ z. factor_of z k) (put_is g c) ∙ put-others c.args.variable (terms_of v c.args.row.now.items) c.requires.row c.requires.new (v c.args.factor) c.requires.nonzero k d)
