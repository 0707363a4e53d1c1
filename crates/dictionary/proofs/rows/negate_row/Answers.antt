use Rattle.std.proofs.Common.{◌<◌, ◌≤◌, length, map, refl, sym, ◌∙◌, ap, subst}
use Rattle.std.proofs.lemmas.List.{take_all}
use Rattle.rational.specs.Rational.{neg_ℚ}
use Rattle.rational.specs.Linear.{Term}
use Rattle.dictionary.specs.Rows.{terms_of}
use Rattle.dictionary.proofs.Terms.{term}
use Rattle.dictionary.proofs.Steps.{changed-back, changed-front}
use Rattle.dictionary.proofs.rows.negate_row.Goals as goal

abbrev change : Term → Term
change t = record { column = t.column; factor = neg_ℚ t.factor }

pub loop-place-init : goal.loop-place-init
loop-place-init g c = record { front = refl; back = refl }

pub loop-place-preserved : goal.loop-place-preserved
loop-place-preserved g c =
    let v = g.N.Exact.value in
    let i = c.loop-place.place in
    let l = c.loop-place-test.true in
    let k : i < length c.loop-place.row = subst (λ n. i < n) (sym c.loop-place.auto.row) l in
    let x = c.index-row-place.result in
    record {
      front = changed-front (term v) change c.args.row.now c.loop-place.row i c.loop-place.invariant.front c.loop-place.invariant.back x l k _ ((λ z. record { column = x.variable; factor = c.negate.ensures z }) ∙ ap (λ e. change (term v e)) c.index-row-place.is);
      back = changed-back (term v) change c.args.row.now c.loop-place.row i c.loop-place.invariant.front c.loop-place.invariant.back x l k _;
    }

pub returns : goal.returns
returns g c =
    let v = g.N.Exact.value in
    let i = c.loop-place.place in
    let l = c.loop-place-test.false in
    ap (terms_of v) (sym (take_all i c.loop-place.row (subst (λ n. n ≤ i) (sym c.loop-place.auto.row) l))) ∙ c.loop-place.invariant.front ∙ ap (λ z. map change (terms_of v z)) (take_all i c.args.row.now l)
