use Rattle.std.proofs.Common.{◌≡◌, ◌+◌, ◌<◌, ◌≤◌, true, [], length, refl, sym, ◌∙◌, ap, subst, arith}
use Rattle.std.specs.Prelude.{flat_map, slice_index_or}
use Rattle.std.proofs.lemmas.List.{take_all, get_or_default}
use Rattle.dictionary.specs.Layouts.{basis_of}
use Rattle.dictionary.specs.Rows.{terms_of, rows_of, AreSparse}
use Rattle.dictionary.proofs.Tables.{rows_at, rows-length}
use Rattle.dictionary.proofs.Terms.{terms-length}
use Rattle.dictionary.proofs.Values.{columns, row_short, all_stored, stored-more}
use Rattle.dictionary.proofs.dictionaries.Dictionary.stored.Goals as goal

pub loop-row-init : goal.loop-row-init
loop-row-init g c = record { items = ap (rows_of g.N.Exact.value) c.deref-row-items.ensures.value ∙ ap (λ d. d.rows) c.self.view_is; count = refl; few = omega arith }

pub overflow_add-count : goal.overflow_add-count
overflow_add-count g c =
    let v = g.N.Exact.value in
    let d = c.self.inside in
    let basis = basis_of d.places.items in
    let R = rows_of v d.rows.items in
    let u : d.usable ≡ true = subst (λ d. d.usable ≡ true) (sym c.self.view_is) c.requires.usable in
    let s : AreSparse basis R = c.self.invariant.0.sparse u in
    let i = c.loop-row.row-index in
    let x = c.row-item.result in
    let xs = c.deref-row-items.result.now in
    let l = c.loop-row-test.true in
    let all : rows_of v xs ≡ R = ap (rows_of v) c.deref-row-items.ensures.value in
    let row : slice_index_or R i [] ≡ terms_of v x.items = ap (λ r. slice_index_or r i []) (sym all) ∙ rows_at v xs i x l ∙ ap (λ r. terms_of v r.items) (sym c.row-item.is) in
    let n : length (slice_index_or R i []) ≡ c.len.result = ap length row ∙ terms-length v x.items ∙ sym x.ok.0 ∙ sym c.len.ensures in
    let short = row_short basis R s i in
    let few = c.self.invariant.0.few in
    let now = c.loop-row.invariant.few in
    let many : length xs ≡ length basis = sym (rows-length v xs) ∙ ap length all ∙ s.long in
    omega (arith, n, short, few, now, many, l)

pub loop-row-preserved : goal.loop-row-preserved
loop-row-preserved g c =
    let v = g.N.Exact.value in
    let d = c.self.inside in
    let basis = basis_of d.places.items in
    let R = rows_of v d.rows.items in
    let u : d.usable ≡ true = subst (λ d. d.usable ≡ true) (sym c.self.view_is) c.requires.usable in
    let s : AreSparse basis R = c.self.invariant.0.sparse u in
    let i = c.loop-row.row-index in
    let x = c.row-item.result in
    let xs = c.deref-row-items.result.now in
    let l = c.loop-row-test.true in
    let all : rows_of v xs ≡ R = ap (rows_of v) c.deref-row-items.ensures.value in
    let row : slice_index_or R i [] ≡ terms_of v x.items = ap (λ r. slice_index_or r i []) (sym all) ∙ rows_at v xs i x l ∙ ap (λ r. terms_of v r.items) (sym c.row-item.is) in
    let n : length (slice_index_or R i []) ≡ c.len.result = ap length row ∙ terms-length v x.items ∙ sym x.ok.0 ∙ sym c.len.ensures in
    let short = row_short basis R s i in
    let few = c.self.invariant.0.few in
    let now = c.loop-row.invariant.few in
    let many : length xs ≡ length basis = sym (rows-length v xs) ∙ ap length all ∙ s.long in
    let rows = c.args.self.now.rows in
    let same : R ≡ rows = ap (λ d. d.rows) c.self.view_is in
    let r = slice_index_or rows i [] in
    let h : i < length rows = subst (λ k. i < k) (sym (rows-length v xs) ∙ ap length (all ∙ same)) l in
    record {
      items = c.loop-row.invariant.items;
      count = ap (λ k. c.loop-row.count + k) (sym n ∙ ap (λ z. length (slice_index_or z i [])) same) ∙ stored-more rows i c.loop-row.count r h (get_or_default rows i [] r h) c.loop-row.invariant.count;
      few = omega (arith, n, short, few, now);
    }

pub returns : goal.returns
returns g c =
    let v = g.N.Exact.value in
    let d = c.self.inside in
    let basis = basis_of d.places.items in
    let R = rows_of v d.rows.items in
    let u : d.usable ≡ true = subst (λ d. d.usable ≡ true) (sym c.self.view_is) c.requires.usable in
    let s : AreSparse basis R = c.self.invariant.0.sparse u in
    let rows = c.args.self.now.rows in
    let same : R ≡ rows = ap (λ d. d.rows) c.self.view_is in
    let all : rows_of v c.deref-row-items.result.now ≡ rows = c.loop-row.invariant.items in
    let end : length rows ≤ c.loop-row.row-index = subst (λ k. k ≤ c.loop-row.row-index) (sym (rows-length v c.deref-row-items.result.now) ∙ ap length all) c.loop-row-test.false in
    c.loop-row.invariant.count
    ∙ ap (λ z. length (flat_map columns z)) (take_all c.loop-row.row-index rows end)
    ∙ ap length (all_stored c.args.self.now.basis rows (subst (λ d. AreSparse d.basis d.rows) c.self.view_is s))
