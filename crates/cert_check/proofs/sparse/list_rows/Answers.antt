use Rattle.std.proofs.Common.{◌≡◌, ◌∙◌, sym, ap, subst, All, arith, inl, inr}
use Rattle.std.proofs.lemmas.Bool.{cases_lt}
use Rattle.std.proofs.lemmas.List.Elements.{All-weaker}
use Rattle.rational.specs.Linear.{Term}
use Rattle.lp_model.specs.Program.{NamedRow, row_at}
use Rattle.cert_check.specs.Sparse.{IsListed}
use Rattle.cert_check.proofs.sparse.list_rows.Goals as goal

pub loop-index-preserved : goal.loop-index-preserved
loop-index-preserved c =
    let model = c.args.model.now in
    let lists = c.loop-index.rows.items in
    let new = c.list_row.new.rows.items in
    let index = c.loop-index.index in
    let i = c.loop-index.invariant in
    let added = c.in_ok-list_row.ensures in
    let terms : c.as_slice.result.now ≡ (row_at model index).terms = c.as_slice.ensures ∙ sym (ap (λ (r : NamedRow). r.terms) c.row.ensures) in
    record {
      each = added.each ∙ i.each;
      listed = λ r l. elim (cases_lt r index) [
        | inl before ↦ All-weaker (λ (t : Term). IsListed lists t.column r) (λ (t : Term). IsListed new t.column r) (λ t h. added.keeps t.column r h) (row_at model r).terms (i.listed r before)
        | inr last ↦
            let same : index ≡ r = omega arith in
            subst (λ k. All (λ (t : Term). IsListed new t.column k) (row_at model k).terms) same (subst (All (λ (t : Term). IsListed new t.column index)) terms added.listed)
      ];
      known = λ j r h. elim (added.known j r h) [
        | inl e ↦ omega (arith, e)
        | inr old ↦ (let l = i.known j r old in omega arith)
      ];
    }

pub returns : goal.returns
returns c =
    let i = c.loop-index.invariant in
    record {
      each = i.each;
      listed = λ r l. i.listed r (omega (arith, c.row_count-index-end.ensures.count, c.loop-index-test.false));
      known = λ j r h. (let l = i.known j r h in omega (arith, c.row_count-index-end.ensures.count, c.loop-index.auto.index-end));
    }
