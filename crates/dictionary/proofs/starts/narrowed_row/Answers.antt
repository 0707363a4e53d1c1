use Rattle.std.proofs.Common.{◌≡◌, [], ◌∷◌, ◌++◌, take, sym, ◌∙◌, ap}
use Rattle.std.proofs.lemmas.List.{take_more, take_all}
use Rattle.dictionary.specs.declared.entries.Entry.{Entry}
use Rattle.dictionary.specs.Rows.{terms_of}
use Rattle.dictionary.proofs.Terms.{term, terms-append}
use Rattle.dictionary.proofs.starts.narrowed_row.Goals as goal

pub loop-term-init : goal.loop-term-init
loop-term-init g c = ap (terms_of g.N.Exact.value) c.in_ok-row.ensures.items

pub loop-term-preserved : goal.loop-term-preserved
loop-term-preserved g c =
    let v = g.N.Exact.value in
    let i = c.loop-term.term-index in
    let t = c.term-item.result in
    let x : Entry _ = record { variable = c.term.inside.column; factor = c.narrowed.result } in
    let is : term v x ≡ t = (λ z. record { column = c.term.inside.column; factor = c.narrowed.ensures z }) ∙ c.term.view_is in
    ap (terms_of v) c.in_ok-push.ensures.items
    ∙ terms-append v c.loop-term.row.items (x ∷ [])
    ∙ ap (λ z. z ++ term v x ∷ []) c.loop-term.invariant
    ∙ ap (λ z. take i c.args.terms.now ++ z ∷ []) (is ∙ c.term-item.is)
    ∙ sym (take_more c.args.terms.now i t c.loop-term-test.true)

pub returns : goal.returns
returns g c = c.loop-term.invariant ∙ take_all c.loop-term.term-index c.args.terms.now c.loop-term-test.false
