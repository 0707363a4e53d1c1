-- A system with a point has no contradiction, and few variables.
use Rattle.std.proofs.Common.{◌≡◌, ◌+◌, ◌<◌, ◌≤◌, ◌^◌, arith, cond, filter, false, ◌∷◌, refl, ℕ, Bool, true, None, Option, Some, List, [], map, length}
use Rattle.std.proofs.lemmas.List.{length-map}
use Rattle.std.proofs.lemmas.List.Elements.{All-nil}
use Rattle.rational.specs.Linear.{Assignment}
use Rattle.lp_model.specs.declared.members.Member.{Member}
use Rattle.lp_model.specs.Program.{Program, IsWellFormed}
use Rattle.lp_model.specs.Satisfaction.{Satisfies}
use Rattle.lp_model.specs.Shown.{most_columns, most_rows}
use Rattle.certs.specs.declared.evidence.Branch.{Branch}
use Rattle.certs.specs.Combination.{KeepsBranch}
use Rattle.certs.specs.System.{LinearSystem}
use Rattle.certs.specs.Ended.{numbers_from}
use Rattle.certs.specs.Tableau.{IsWellFormedSystem, variables}
use Rattle.certs.specs.Named.{named, program_shares}
use Rattle.certs.specs.Plain.{crossing_shares, first_crossing, has_row, plain_row, plain_system, rows_in}
use Rattle.certs.proofs.PlainCuts.{crossing_combination}
use Rattle.certs.proofs.PlainForms.{plain_formed}
use Rattle.certs.proofs.Refuted.{combination_law}
use Rattle.certs.proofs.Translated.{length_numbers, translation}
use Rattle.unbounded.specs.Runs.{HasNoCombination}
use Rattle.unbounded.proofs.Systems.{columns_are}

-- ---- no contradiction
pub no_combination : (model : Program) (set : List Member) (x : Assignment) → IsWellFormed model → Satisfies model set x → HasNoCombination (plain_system model set [] true)
no_combination model set x formed satisfies shares combination =
    let system : LinearSystem = plain_system model set [] true in
    let list = map (named (length system.columns)) shares in
    combination_law model set [] (program_shares model set [] list)
    (translation model set [] true list formed (All-nil (λ (b : Branch). b.column < length model.columns)) (record { of = shares; combination = combination; same = refl }))
    x satisfies (All-nil (KeepsBranch x))

pub none_cross : (system : LinearSystem) → HasNoCombination system → first_crossing system ≡ None
none_cross system none = by (first_crossing system) refl
  where
    by : (o : Option ℕ) → first_crossing system ≡ o → o ≡ None
    by None e = refl
    by (Some v) e = absurd (none (crossing_shares v) (crossing_combination system v e))

pub formed_system : (model : Program) (set : List Member) (x : Assignment) → IsWellFormed model → Satisfies model set x → IsWellFormedSystem (plain_system model set [] true)
formed_system model set x formed satisfies =
    plain_formed model set [] true formed (none_cross (plain_system model set [] true) (no_combination model set x formed satisfies))

-- ---- few variables
kept_few : {A : Type 0} (p : A → Bool) (xs : List A) → length (filter p xs) ≤ length xs
kept_few p [] = omega arith
kept_few p (x ∷ xs) = by (kept_few p xs) (p x)
  where
    by : length (filter p xs) ≤ length xs → (b : Bool) → length (cond b (x ∷ filter p xs) (filter p xs)) ≤ length (x ∷ xs)
    by h true = omega (arith, h)
    by h false = omega (arith, h)

pub few_variables : (model : Program) (set : List Member) → length model.rows ≤ most_rows → length model.columns ≤ most_columns → variables (plain_system model set [] true) < 2 ^ 31
few_variables model set r c =
    let system : LinearSystem = plain_system model set [] true in
    let columns : length system.columns ≡ length model.columns = columns_are model set in
    let rows : length system.rows ≡ length (rows_in model set) = length-map (rows_in model set) (plain_row model set) in
    let kept : length (rows_in model set) ≤ length (numbers_from 0 (length model.rows)) = kept_few (has_row set) (numbers_from 0 (length model.rows)) in
    let all : length (numbers_from 0 (length model.rows)) ≡ length model.rows = length_numbers 0 (length model.rows) in
    let g : length system.columns + length system.rows + 1 < 2 ^ 31 = omega (arith, columns, rows, kept, all, r, c) in
    g
