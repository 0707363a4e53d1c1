use Rattle.std.proofs.Common.{◌≡◌, ◌<◌, ℕ, List, length, get_or, map, sym, ◌∙◌, ap, subst, arith}
use Rattle.std.proofs.lemmas.List.{get_or-map, length-map}
use Rattle.rational.specs.Linear.{Term}
use Rattle.lp_model.specs.Program.{IsForm}
use Rattle.lp_model.specs.declared.parts.Row.{Row}
use Rattle.certs.specs.Rows.{row_of}
use Rattle.certs.specs.System.{SystemRow, LinearSystem, empty_system_row}
use Rattle.reductions.specs.Laws.{IsFormed}
use Rattle.reductions.specs.Stage.{row_in}
use Rattle.reductions.proofs.Formed.{row_form}
use Rattle.presolve.proofs.substitution.doubleton_at.Goals as goal

-- the terms that code reads of a row are those of the system's row, a form of its columns
read_form : (system : LinearSystem) (rows : List Row) (i : ℕ) (row : Row) (read : List Term) → IsFormed system → map row_of rows ≡ system.rows → i < length system.rows
    → row ≡ get_or rows i row → read ≡ row.terms → IsForm (length system.columns) read
read_form system rows i row read formed are l is e =
    let known : i < length rows = subst (λ n. i < n) (sym (ap length are) ∙ length-map rows row_of) l in
    let terms : read ≡ (row_in system i).terms =
    e ∙ ap (λ (r : Row). r.terms) is ∙ ap (λ (r : SystemRow). r.terms) (sym (get_or-map row_of rows i row empty_system_row known)) ∙ ap (λ (rs : List SystemRow). (get_or rs i empty_system_row).terms) are in
    subst (IsForm (length system.columns)) (sym terms) (row_form system i formed)

pub pair_with-requires-clause-kept : goal.pair_with-requires-clause-kept
pair_with-requires-clause-kept c =
    let system = c.args.system.now in
    let form = read_form system c.system.inside.rows.items c.args.index c.index.result.now c.as_slice.result.now c.requires.formed (ap (λ (s : LinearSystem). s.rows) c.system.view_is) c.requires.known c.index.ensures c.as_slice.ensures in
    let l : 0 < length c.as_slice.result.now = omega (arith, c.in-len2.len_at_least) in
    subst (λ (t : Term). t.column < length system.columns) (sym c.kept-item.is) (form.known 0 c.kept-item.result l)

pub pair_with-requires-clause-gone : goal.pair_with-requires-clause-gone
pair_with-requires-clause-gone c =
    let system = c.args.system.now in
    let form = read_form system c.system.inside.rows.items c.args.index c.index.result.now c.as_slice.result.now c.requires.formed (ap (λ (s : LinearSystem). s.rows) c.system.view_is) c.requires.known c.index.ensures c.as_slice.ensures in
    let l : 1 < length c.as_slice.result.now = omega (arith, c.in-len2.len_at_least) in
    subst (λ (t : Term). t.column < length system.columns) (sym c.gone-item.is) (form.known 1 c.gone-item.result l)

pub pair_with-requires-clause-factor : goal.pair_with-requires-clause-factor
pair_with-requires-clause-factor c = λ z.
    (let system = c.args.system.now in
    let form = read_form system c.system.inside.rows.items c.args.index c.index.result.now c.as_slice.result.now c.requires.formed (ap (λ (s : LinearSystem). s.rows) c.system.view_is) c.requires.known c.index.ensures c.as_slice.ensures in
    let l : 0 < length c.as_slice.result.now = omega (arith, c.in-len2.len_at_least) in
    form.nonzero 0 c.kept-item.result l (ap (λ (t : Term). t.factor) (sym c.kept-item.is) ∙ z))

pub pair_with-requires-clause-divisor : goal.pair_with-requires-clause-divisor
pair_with-requires-clause-divisor c = λ z.
    (let system = c.args.system.now in
    let form = read_form system c.system.inside.rows.items c.args.index c.index.result.now c.as_slice.result.now c.requires.formed (ap (λ (s : LinearSystem). s.rows) c.system.view_is) c.requires.known c.index.ensures c.as_slice.ensures in
    let l : 1 < length c.as_slice.result.now = omega (arith, c.in-len2.len_at_least) in
    form.nonzero 1 c.gone-item.result l (ap (λ (t : Term). t.factor) (sym c.gone-item.is) ∙ z))
