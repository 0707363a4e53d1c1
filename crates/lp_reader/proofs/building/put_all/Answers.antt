use Rattle.std.proofs.Common.{◌≡◌, ℕ, ◌<◌, List, length, sym, ap, ◌∙◌, subst, arith}
use Rattle.std.specs.Prelude.{slice_index_or}
use Rattle.std.specs.Global.{Vec}
use Rattle.rational.specs.Linear.{Term}
use Rattle.name_map.specs.Names.{names_of}
use Rattle.lp_model.specs.declared.parts.Row.{Row}
use Rattle.lp_model.specs.Program.{Program, IsForm, IsWellFormedRow}
use Rattle.lp_model.specs.Shown.{named_row}
use Rattle.lp_reader.specs.Building.{no_row, rows_listed, notes_listed}
use Rattle.lp_reader.proofs.Built.{even, rows_even, row_formed, objective_formed, built, columns_counted, bounds_few, bounds_named}
use Rattle.lp_reader.proofs.building.put_all.Goals as goal

pub put_columns-requires-clause-even : goal.put_columns-requires-clause-even
put_columns-requires-clause-even c = even c.args.reader.now c.requires.holds.0 c.requires.holds.1

pub put_columns-requires-clause-none : goal.put_columns-requires-clause-none
put_columns-requires-clause-none c = ap (λ (m : Program). m.columns) c.requires.new

pub put_rows-requires-clause-even : goal.put_rows-requires-clause-even
put_rows-requires-clause-even c = ap (λ (v : Vec Row). length v.items) c.replace-rows.ensures.value ∙ rows_even c.args.reader.now c.requires.holds.0 c.requires.holds.1

pub put_rows-requires-clause-none : goal.put_rows-requires-clause-none
put_rows-requires-clause-none c = ap (λ (m : Program). m.rows) c.in_ok-put_columns.ensures ∙ ap (λ (m : Program). m.rows) c.requires.new

pub put_rows-requires-clause-formed : goal.put_rows-requires-clause-formed
put_rows-requires-clause-formed c =
    let reader = c.args.reader.now in
    let count : length c.put_columns.new.model.columns ≡ length (names_of reader.columns.names) = ap (λ (m : Program). length m.columns) c.in_ok-put_columns.ensures ∙ columns_counted reader c.requires.holds.0 c.requires.holds.1 in
    subst (λ (v : Vec Row). (i : ℕ) → i < length v.items → (name : List ℕ) → IsWellFormedRow (length c.put_columns.new.model.columns) (named_row name (slice_index_or v.items i no_row))) (sym c.replace-rows.ensures.value)
    (λ i h name. subst (λ (n : ℕ). IsWellFormedRow n (named_row name (slice_index_or reader.rows.items.items i no_row))) (sym count) (row_formed reader c.requires.holds.0 c.requires.holds.1 i h name))

pub set_objective-requires : goal.set_objective-requires
set_objective-requires c =
    let reader = c.args.reader.now in
    let count : length c.put_rows.new.model.columns ≡ length (names_of reader.columns.names) = ap (λ (m : Program). length m.columns) c.in_ok-put_rows.ensures ∙ (ap (λ (m : Program). length m.columns) c.in_ok-put_columns.ensures ∙ columns_counted reader c.requires.holds.0 c.requires.holds.1) in
    subst (λ (ts : List Term). IsForm (length c.put_rows.new.model.columns) ts) (sym c.replace-objective.ensures.value)
    (subst (λ (n : ℕ). IsForm n reader.objective) (sym count) (objective_formed reader c.requires.holds.0 c.requires.holds.1))

pub put_notes-requires-clause-few : goal.put_notes-requires-clause-few
put_notes-requires-clause-few c = bounds_few c.args.reader.now c.requires.holds.0 c.requires.holds.1

pub put_notes-requires-clause-known : goal.put_notes-requires-clause-known
put_notes-requires-clause-known c =
    let reader = c.args.reader.now in
    let count : length c.set_objective.new.self.columns ≡ length (names_of reader.columns.names) =
    ap (λ (m : Program). length m.columns) c.set_objective.ensures ∙ (ap (λ (m : Program). length m.columns) c.in_ok-put_rows.ensures ∙ (ap (λ (m : Program). length m.columns) c.in_ok-put_columns.ensures ∙ columns_counted reader c.requires.holds.0 c.requires.holds.1)) in
    let named : length reader.columns.bounds.items ≡ length (names_of reader.columns.names) = bounds_named reader c.requires.holds.0 c.requires.holds.1 in
    omega arith

pub put_notes-requires-clause-none : goal.put_notes-requires-clause-none
put_notes-requires-clause-none c =
    ap (λ (m : Program). m.notes) c.set_objective.ensures ∙ (ap (λ (m : Program). m.notes) c.in_ok-put_rows.ensures ∙ (ap (λ (m : Program). m.notes) c.in_ok-put_columns.ensures ∙ ap (λ (m : Program). m.notes) c.requires.new))

pub returns : goal.returns
returns c = λ statements holds.
    let reader = c.args.reader.now in
    let names = names_of reader.rows.names in
    let rows = rows_listed names reader.rows.items.items (length reader.rows.items.items) in
    let notes = notes_listed reader.columns.bounds.items (length reader.columns.bounds.items) in
    built reader statements holds c.put_notes.new.model
    (c.in_ok-put_notes.ensures
    ∙ (ap (λ (m : Program). let p : Program = record m { notes = notes } in p) (c.set_objective.ensures ∙ (λ k. let p : Program = record c.put_rows.new.model { objective = c.replace-objective.ensures.value k; maximise = reader.maximise } in p))
    ∙ (ap (λ (m : Program). let p : Program = record m { objective = reader.objective; maximise = reader.maximise; notes = notes } in p)
    (c.in_ok-put_rows.ensures ∙ (λ k. let p : Program = record c.put_columns.new.model { rows = rows_listed names (c.replace-rows.ensures.value k).items (length (c.replace-rows.ensures.value k).items) } in p))
    ∙ (ap (λ (m : Program). let p : Program = record m { rows = rows; objective = reader.objective; maximise = reader.maximise; notes = notes } in p) c.in_ok-put_columns.ensures))))
