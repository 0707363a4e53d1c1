use Rattle.std.proofs.Common.{◌≡◌, ◌∙◌, sym, ap, List, Bool, ◌∷◌, [], ◌++◌, drop, map, ◌+◌, append_assoc}
use Rattle.std.proofs.lemmas.List.{at_drop_more}
use Rattle.certs.specs.Rows.{row_of}
use Rattle.presolve.specs.Quiet.{has_marked}
use Rattle.presolve.proofs.quiet.rows_with.Goals as goal

pub loop-row-preserved : goal.loop-row-preserved
loop-row-preserved c =
    let i = c.loop-row.row-index in
    let rows = c.args.rows.now in
    let test = has_marked c.args.columns.now in
    let marks = c.loop-row.marks.items in
    let rest : List Bool = map test (map row_of (drop (i + 1) rows)) in
    let mark : c.has_marked.result ≡ test (row_of c.row-item.result) = c.has_marked.ensures (row_of c.row-item.result) (sym c.as_slice.ensures) in
    ap (λ l. l ++ rest) c.in_ok-push.ensures.items
    ∙ append_assoc marks (c.has_marked.result ∷ []) rest
    ∙ ap (λ b. marks ++ b ∷ rest) (mark ∙ ap (λ r. test (row_of r)) c.row-item.is)
    ∙ sym (at_drop_more (λ rs. marks ++ map test (map row_of rs)) rows i c.row-item.result c.loop-row-test.true)
    ∙ c.loop-row.invariant
