use Rattle.std.proofs.Common.{ℕ, ◌<◌, ◌≡◌, length, map, sym, ap, subst, ◌∙◌, arith, slice_index_or, [], List}
use Rattle.std.specs.List.{All}
use Rattle.std.specs.Global.{Vec}
use Rattle.rational.specs.Rational.{ℚ}
use Rattle.std.proofs.lemmas.List.{get_or-map}
use Rattle.mps_reader.specs.declared.terms.Cell.{Cell}
use Rattle.mps_reader.specs.Gathered.{cell_shown, cells_shown, cells_in}
use Rattle.mps_reader.proofs.Spread.{cells_below, column_put}
use Rattle.mps_reader.proofs.terms.terms_by_row.Goals as goal

-- the cells of a column that is taken out
taken : (cells : List (Vec Cell)) (es : List ((ℕ × ℕ) × ℚ)) (column columns : ℕ) (v : Vec Cell) (items : List Cell) → length cells ≡ columns → column < columns
    → ((j : ℕ) → j < columns → slice_index_or (cells_shown cells) j [] ≡ cells_in j es) → v ≡ slice_index_or cells column v → items ≡ v.items → map cell_shown items ≡ cells_in column es
taken cells es column columns v items len h each at is =
    ap (map cell_shown) is ∙ ap (λ (v : Vec Cell). map cell_shown v.items) at ∙ sym (get_or-map (λ (v : Vec Cell). map cell_shown v.items) cells column v [] (omega arith)) ∙ each column h

pub put_terms-requires : goal.put_terms-requires
put_terms-requires c =
    let es = c.args.entries.now.entries in
    let are = taken c.in_ok-cells.cells.items es c.loop-column.column c.args.columns c.index.result.now c.as_slice.result.now c.in_ok-cells.ensures.len c.loop-column-test.true c.in_ok-cells.ensures.each c.index.ensures c.as_slice.ensures.value in
    subst (λ (n : ℕ). All (λ (x : ℕ × ℚ). x.0 < n) (map cell_shown c.as_slice.result.now)) (sym c.loop-column.invariant.len)
    (subst (All (λ (x : ℕ × ℚ). x.0 < c.args.rows)) (sym are) (cells_below c.args.rows c.loop-column.column es (λ k d h. (c.requires.in_range k d h).0)))

pub loop-column-preserved : goal.loop-column-preserved
loop-column-preserved c =
    let es = c.args.entries.now.entries in
    let are = taken c.in_ok-cells.cells.items es c.loop-column.column c.args.columns c.index.result.now c.as_slice.result.now c.in_ok-cells.ensures.len c.loop-column-test.true c.in_ok-cells.ensures.each c.index.ensures c.as_slice.ensures.value in
    record {
      len = c.in_ok-put_terms.ensures.len ∙ c.loop-column.invariant.len;
      each = λ i h. column_put es i c.loop-column.column _ _ (map cell_shown c.as_slice.result.now) c.places_differ.ensures are (c.loop-column.invariant.each i h)
          (c.in_ok-put_terms.ensures.each i (subst (λ (n : ℕ). i < n) (sym c.loop-column.invariant.len) h));
    }
