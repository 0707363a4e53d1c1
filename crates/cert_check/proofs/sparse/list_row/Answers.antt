use Rattle.std.proofs.Common.{◌≡◌, ◌<◌, ◌∙◌, sym, ap, subst, List, [], ◌∷◌, ◌++◌, All, length, set, take, arith, inl, inr}
use Rattle.std.proofs.lemmas.List.{length-set, take_more, take_all}
use Rattle.std.proofs.lemmas.List.Elements.{All-push, All-weaker}
use Rattle.rational.specs.Linear.{Term}
use Rattle.cert_check.specs.Sparse.{IsListed}
use Rattle.cert_check.proofs.Reached.{put_has, put_keeps, put_known}
use Rattle.cert_check.proofs.sparse.list_row.Goals as goal

pub index_mut-requires : goal.index_mut-requires
index_mut-requires c =
    let n = length c.args.rows.now.items in
    let within : c.term-item.result.column < n = subst (λ (t : Term). t.column < n) (sym c.term-item.is) (c.requires c.loop-term.term-index c.term-item.result c.loop-term-test.true) in
    let here : c.term.inside.column < length c.loop-term.rows.items =
    subst (λ m. c.term.inside.column < m) (sym c.loop-term.invariant.each) (subst (λ k. k < n) (sym (ap (λ (t : Term). t.column) c.term.view_is)) within) in
    omega (arith, here, c.loop-term.rows.ok)

pub loop-term-preserved : goal.loop-term-preserved
loop-term-preserved c =
    let n = length c.args.rows.now.items in
    let terms : List Term = c.args.terms.now in
    let lists = c.loop-term.rows.items in
    let row = c.args.index in
    let k = c.loop-term.term-index in
    let t = c.term-item.result in
    let at = c.term.inside.column in
    let new = c.push.new.self in
    let i = c.loop-term.invariant in
    let column : at ≡ t.column = ap (λ (x : Term). x.column) c.term.view_is in
    let within : at < length lists =
    subst (λ m. at < m) (sym i.each) (subst (λ j. j < n) (sym column) (subst (λ (x : Term). x.column < n) (sym c.term-item.is) (c.requires k t c.loop-term-test.true))) in
    let is = c.index_mut.ensures.value in
    let grows = c.in_ok-push.ensures.items in
    let P : Term → Type 0 = λ x. IsListed (set lists at new) x.column row in
    let before : All P (take k terms) = All-weaker (λ (x : Term). IsListed lists x.column row) P (λ x h. put_keeps lists at _ new row within is grows x.column row h) (take k terms) i.listed in
    let here : P t = subst (λ j. IsListed (set lists at new) j row) column (put_has lists at _ new row within is grows) in
    record {
      each = length-set lists at new ∙ i.each;
      keeps = λ j r h. put_keeps lists at _ new row within is grows j r (i.keeps j r h);
      listed = subst (All P) (sym (take_more terms k t c.loop-term-test.true)) (subst (λ x. All P (take k terms ++ x ∷ [])) c.term-item.is (All-push P (take k terms) t before here));
      known = λ j r h. elim (put_known lists at _ new row within is grows j r h) [
        | inl e ↦ inl e
        | inr old ↦ i.known j r old
      ];
    }

pub returns-clause-listed : goal.returns-clause-listed
returns-clause-listed c =
    subst (All (λ (t : Term). IsListed c.loop-term.rows.items t.column c.args.index)) (take_all c.loop-term.term-index c.args.terms.now c.loop-term-test.false) c.loop-term.invariant.listed
