use Rattle.std.proofs.Common.{◌≡◌, ◌<◌, List, Option, map, sym, ◌∙◌, ap, subst}
use Rattle.std.specs.Prelude.{All}
use Rattle.std.proofs.lemmas.List.{get_or-map, length-map}
use Rattle.rational.specs.Linear.{Term}
use Rattle.lp_model.specs.declared.parts.Row.{Row}
use Rattle.certs.specs.Rows.{row_of}
use Rattle.certs.specs.System.{SystemRow, LinearSystem}
use Rattle.reductions.specs.Laws.{IsFormed}
use Rattle.reductions.specs.Limited.{is_narrow}
use Rattle.presolve.specs.Eliminated.{AreChanged, AreParts, IsAscending, IsChanged, objective_steps, rows_steps}
use Rattle.presolve.proofs.Narrow.{narrow_parts, wide_end, wide_part}
use Rattle.presolve.proofs.substitution.changed_parts.Goals as goal

-- of the items, where it holds of what f makes of them
unmapped : {A B : Type 0} (P : B → Type 0) (f : A → B) (xs : List A) → All P (map f xs) → All (λ a. P (f a)) xs
unmapped P f xs h k d l = subst P (get_or-map f xs k d (f d) l) (h k (f d) (subst (λ n. k < n) (sym (length-map xs f)) l))

pub changed_rows-requires-clause-forms : goal.changed_rows-requires-clause-forms
changed_rows-requires-clause-forms c =
    let formed = subst IsFormed (sym c.system.view_is) c.requires.formed in
    subst (λ (rows : List Row). All (λ (r : Row). IsAscending r.terms) rows) (sym c.deref.ensures.value)
    (λ k d l. (unmapped (λ (r : SystemRow). IsAscending r.terms) row_of c.system.inside.rows.items (λ i e m. (formed.rows i e m).ascending)) k d l)

-- the rows that code reads are those of the system
rows_read : (system : LinearSystem) (rows read : List Row) → read ≡ rows → map row_of rows ≡ system.rows → map row_of read ≡ system.rows
rows_read system rows read e f = ap (map row_of) e ∙ f

pub returns-in_default : goal.returns-in_default
returns-in_default c =
    let e = c.args.elimination.now in
    let system = c.args.system.now in
    let rows = rows_read system c.system.inside.rows.items c.deref.result.now c.deref.ensures.value (ap (λ (s : LinearSystem). s.rows) c.system.view_is) in
    let wide = rw c.in_default.is at c.in_ok-made.ensures in
    wide_part (rows_steps e system.rows) (objective_steps e system.objective)
    (ap (λ (rs : List SystemRow). is_narrow (rows_steps e rs)) (sym rows) ∙ wide)

pub returns-in_default-made : goal.returns-in_default-made
returns-in_default-made c =
    let e = c.args.elimination.now in
    let system = c.args.system.now in
    let wide = rw c.in_default-made.is at c.in_ok-made-2.ensures in
    wide_end (rows_steps e system.rows) (objective_steps e system.objective)
    (ap (λ (s : LinearSystem). is_narrow (objective_steps e s.objective)) (sym c.system.view_is) ∙ wide)

pub returns : goal.returns
returns c =
    let e = c.args.elimination.now in
    let system = c.args.system.now in
    let rows = rows_read system c.system.inside.rows.items c.deref.result.now c.deref.ensures.value (ap (λ (s : LinearSystem). s.rows) c.system.view_is) in
    let objective = ap (λ (s : LinearSystem). s.objective) c.system.view_is in
    let made = rw c.in-Some.is at c.in_ok-made.ensures in
    let form = rw c.in-Some-made.is at c.in_ok-made-2.ensures in
    let changed = c.in-Some.changed in
    let parts : AreParts e system changed.changes.items changed.rows.items c.in-Some-made.changed.times c.in-Some-made.changed.terms = record {
      rows = subst (λ (rs : List SystemRow). AreChanged e rs changed.changes.items changed.rows.items) rows made.0;
      objective = subst (λ (o : Option (List Term)). IsChanged e o c.in-Some-made.changed.times c.in-Some-made.changed.terms) objective form.0;
    } in (
      parts,
      narrow_parts (rows_steps e system.rows) (objective_steps e system.objective)
          (ap (λ (rs : List SystemRow). is_narrow (rows_steps e rs)) (sym rows) ∙ made.1)
          (ap (λ (o : Option (List Term)). is_narrow (objective_steps e o)) (sym objective) ∙ form.1),
    )
