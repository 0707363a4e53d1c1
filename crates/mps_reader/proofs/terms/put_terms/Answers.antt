use Rattle.std.proofs.Common.{ℕ, ◌<◌, length, map, sym, subst, ◌∙◌, arith}
use Rattle.rational.specs.Rational.{ℚ}
use Rattle.name_map.proofs.NameLists.{length_map}
use Rattle.mps_reader.specs.Gathered.{cell_shown}
use Rattle.mps_reader.proofs.Spread.{item_shown, terms_put}
use Rattle.mps_reader.proofs.terms.put_terms.Goals as goal

pub put_term-requires : goal.put_term-requires
put_term-requires c =
    let cells = c.args.cells.now in
    let cell = c.index-cells-index.result in
    let within : c.loop-index.index < length (map cell_shown cells) = subst (λ (n : ℕ). c.loop-index.index < n) (sym (length_map cell_shown cells)) (omega arith) in
    let here = subst (λ (x : ℕ × ℚ). x.0 < length c.args.rows.now.items) (item_shown cell_shown cells c.loop-index.index cell (omega arith) c.index-cells-index.is) (c.requires c.loop-index.index (cell_shown cell) within) in
    subst (λ (n : ℕ). cell.row < n) (sym c.loop-index.invariant.len) here

pub loop-index-preserved : goal.loop-index-preserved
loop-index-preserved c =
    let cells = c.args.cells.now in
    let cell = c.index-cells-index.result in
    let within : c.loop-index.index < length (map cell_shown cells) = subst (λ (n : ℕ). c.loop-index.index < n) (sym (length_map cell_shown cells)) (omega arith) in
    record {
      len = c.in_ok-put_term.ensures.len ∙ c.loop-index.invariant.len;
      each = λ i h. terms_put c.args.column i (map cell_shown cells) c.loop-index.index (cell_shown cell) _ _ _ within (item_shown cell_shown cells c.loop-index.index cell (omega arith) c.index-cells-index.is)
          (c.loop-index.invariant.each i h) (c.in_ok-put_term.ensures.each i (subst (λ (n : ℕ). i < n) (sym c.loop-index.invariant.len) h));
    }
