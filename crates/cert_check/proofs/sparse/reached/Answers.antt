use Rattle.std.proofs.Common.{◌∙◌, ℕ, sym, subst, List, [], Contains, get_or, take, inl, inr}
use Rattle.std.proofs.lemmas.List.{get_or_default, take_more, take_all}
use Rattle.std.proofs.lemmas.List.Elements.{Contains-push_cases}
use Rattle.cert_check.specs.Sparse.{Reaches, listed_rows}
use Rattle.cert_check.proofs.Reached.{rows_at}
use Rattle.cert_check.proofs.sparse.reached.Goals as goal

pub reach-requires-clause-known : goal.reach-requires-clause-known
reach-requires-clause-known c k d l =
    let j = get_or c.args.columns.now c.loop-column.column-index 0 in
    let rows : List ℕ = c.as_slice.result.now in
    let here = c.as_slice.ensures.value ∙ rows_at c.args.rows.now j c.index-rows-column.result (c.requires.columns c.loop-column.column-index 0 c.loop-column-test.true) c.index-rows-column.is in
    c.requires.known j (get_or rows k d) (subst (λ (xs : List ℕ). Contains xs (get_or rows k d)) here (k, l, get_or_default rows k (get_or rows k d) d l))

pub loop-column-preserved : goal.loop-column-preserved
loop-column-preserved c =
    let columns = c.args.columns.now in
    let index = c.loop-column.column-index in
    let j = get_or columns index 0 in
    let here = c.as_slice.ensures.value ∙ rows_at c.args.rows.now j c.index-rows-column.result (c.requires.columns index 0 c.loop-column-test.true) c.index-rows-column.is in
    record {
      rows = c.reach.ensures.rows;
      columns = c.reach.ensures.columns;
      reached = λ m k h at reaches. elim (Contains-push_cases (take index columns) j k (subst (λ xs. Contains xs k) (take_more columns index 0 c.loop-column-test.true) at)) [
        | inl before ↦ c.reach.ensures.keeps m (c.loop-column.invariant.reached m k h before reaches)
        | inr e ↦ c.reach.ensures.reached m h (subst (λ (xs : List ℕ). Reaches j xs m) (sym here) (subst (λ n. Reaches n (get_or (listed_rows c.args.rows.now) n []) m) (sym e) reaches))
      ];
    }

pub returns-clause-reached : goal.returns-clause-reached
returns-clause-reached c m j h at reaches =
    c.loop-column.invariant.reached m j h (subst (λ xs. Contains xs j) (sym (take_all c.loop-column.column-index c.args.columns.now c.loop-column-test.false)) at) reaches
