use Rattle.std.proofs.Common.{◌≡◌, ◌++◌, ◌∷◌, [], List, ℕ, Bool, None, Result, Ok, Err, MatchResult, ap, subst, map, ◌∙◌}
use Rattle.std.proofs.lemmas.Result.{err_from_is_err_and}
use Rattle.name_map.specs.Names.{name_at, names_of}
use Rattle.text_fields.specs.declared.faults.ReadFault.{ReadFault}
use Rattle.mps_lines.specs.Shapes.{Figure}
use Rattle.mps_lines.specs.Said.{figure_shown, figures_said}
use Rattle.mps_lines.specs.Steps.{Step, ToColumn, ToEntry, placed}
use Rattle.mps_reader.specs.declared.tables.Reader.{Reader}
use Rattle.mps_reader.specs.Faults.{fault}
use Rattle.mps_reader.specs.Held.{Holds, IsStepStop}
use Rattle.mps_reader.proofs.Firsts.{first_is, all_then, stop_then, then_all, first_stops, only_one, second_is}
use Rattle.mps_reader.proofs.reading.take_entries.Goals as goal

-- an entry of the column at a place is one of the column of the name
taken : (line : ℕ) (steps : List Step) (new : Reader) (named name : List ℕ) (figure : Figure) (result : Result (Unit {0}) ReadFault) → named ≡ name
    → MatchResult result (λ _. (fault steps (ToEntry named figure) ≡ None) × Holds new (steps ++ ToEntry named figure ∷ [])) (IsStepStop line (fault steps (ToEntry named figure)))
    → MatchResult result (λ _. (fault steps (ToEntry name figure) ≡ None) × Holds new (steps ++ ToEntry name figure ∷ [])) (IsStepStop line (fault steps (ToEntry name figure)))
taken line steps new named name figure result same h =
    subst (λ (n : List ℕ). MatchResult result (λ _. (fault steps (ToEntry n figure) ≡ None) × Holds new (steps ++ ToEntry n figure ∷ [])) (IsStepStop line (fault steps (ToEntry n figure)))) same h

pub returns-in_err-column : goal.returns-in_err-column
returns-in_err-column c = λ steps h.
    let p = err_from_is_err_and c.from_residual.result c.from_residual.ensures.1 in
    rw (p.1, p.2) (first_is steps c.args.line (ToColumn c.args.name.now c.args.whole) (map (placed c.args.line) (map (ToEntry c.args.name.now) (figures_said c.args.first c.args.second))) c.in_err-column.field-0.0 (c.in_err-column.ensures.takes steps h))

pub returns-in_err-take_entry : goal.returns-in_err-take_entry
returns-in_err-take_entry c = λ steps h.
    let column = c.in_ok-column.ensures.takes steps h in
    let s = ToColumn c.args.name.now c.args.whole in
    let found = c.in_err-take_entry.field-0.0 in
    let p = err_from_is_err_and c.from_residual-in_err-take_entry.result c.from_residual-in_err-take_entry.ensures.1 in
    rw (p.1, p.2) (stop_then c.args.line steps s (map (ToEntry c.args.name.now) (figures_said c.args.first c.args.second)) found column.0
    (first_stops (ToEntry c.args.name.now) c.args.line (steps ++ s ∷ []) c.args.first c.args.second found
    (taken c.args.line (steps ++ s ∷ []) c.take_entry.new.reader _ c.args.name.now (figure_shown c.args.first) (Err found) c.in_ok-column.ensures.stands.named (c.in_err-take_entry.ensures.takes _ column.1))))

pub returns-in_default : goal.returns-in_default
returns-in_default c = λ steps h.
    let column = c.in_ok-column.ensures.takes steps h in
    let s = ToColumn c.args.name.now c.args.whole in
    all_then c.args.line c.take_entry.new.reader steps s (map (ToEntry c.args.name.now) (figures_said c.args.first c.args.second)) column.0
    (only_one (ToEntry c.args.name.now) c.args.line (steps ++ s ∷ []) c.args.first c.args.second c.take_entry.new.reader c.in_default.is
    (taken c.args.line (steps ++ s ∷ []) c.take_entry.new.reader _ c.args.name.now (figure_shown c.args.first) (Ok tt) c.in_ok-column.ensures.stands.named (c.in_ok-take_entry.ensures.takes _ column.1)))

pub returns : goal.returns
returns c = λ steps h.
    let column = c.in_ok-column.ensures.takes steps h in
    let s = ToColumn c.args.name.now c.args.whole in
    let one = taken c.args.line (steps ++ s ∷ []) c.take_entry.new.reader _ c.args.name.now (figure_shown c.args.first) (Ok tt) c.in_ok-column.ensures.stands.named (c.in_ok-take_entry.ensures.takes _ column.1) in
    let same = ap (λ (cs : List (List ℕ × Bool)). name_at (names_of cs) c.in_ok-column.column) c.in_ok-take_entry.ensures.same ∙ c.in_ok-column.ensures.stands.named in
    let result = c.take_entry-2.result in
    then_all c.args.line c.take_entry-2.new.reader steps s (map (ToEntry c.args.name.now) (figures_said c.args.first c.args.second)) result column.0
    (second_is (ToEntry c.args.name.now) c.args.line (steps ++ s ∷ []) c.args.first c.in-Some.figure c.args.second c.in-Some.is one.0 c.take_entry-2.new.reader result
    (taken c.args.line _ c.take_entry-2.new.reader _ c.args.name.now (figure_shown c.in-Some.figure) result same (c.take_entry-2.ensures.takes _ one.1)))
