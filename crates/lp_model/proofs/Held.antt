-- What it is for each kind of member to hold, by the code's parts.
use Rattle.std.proofs.Common.{◌≡◌, ◌<◌, refl, sym, subst, ℕ, Bool, List, length, get_or, Option, IsTrue}
use Rattle.std.specs.Prelude.{All, ◌↔◌}
use Rattle.std.proofs.lemmas.List.{get_or_read_under}
use Rattle.std.proofs.lemmas.List.Elements.{All-get_or}
use Rattle.rational.specs.Rational.{ℚ, zero_ℚ, IsWhole}
use Rattle.rational.specs.Linear.{Term}
use Rattle.lp_model.specs.Program.{Program, IsWellFormedRow, row_at, column_at, empty_row}
use Rattle.lp_model.specs.Members.{Whole}
use Rattle.lp_model.specs.Satisfaction.{values_at, IsAtLeast, IsAtMost, Holds}
use Rattle.lp_model.specs.Shown.{IsKept}

-- the value that an index reads
pub value_read : (values : List ℚ) (j : ℕ) (v : ℚ) → j < length values → v ≡ get_or values j v → v ≡ values_at values j
value_read values j v h e = get_or_read_under values j (length values) v zero_ℚ e h refl

-- a lower side or bound
pub at_least_is : (asked lo : Option ℚ) (v x : ℚ) (b : Bool) → asked ≡ lo → v ≡ x → (IsTrue b ↔ IsAtLeast lo v) → IsTrue b ↔ IsAtLeast asked x
at_least_is asked lo v x b same is h = subst (λ (p : Option ℚ × ℚ). IsTrue b ↔ IsAtLeast p.0 p.1) (λ i. (sym same i, is i)) h

-- an upper one
pub at_most_is : (asked up : Option ℚ) (v x : ℚ) (b : Bool) → asked ≡ up → v ≡ x → (IsTrue b ↔ IsAtMost up v) → IsTrue b ↔ IsAtMost asked x
at_most_is asked up v x b same is h = subst (λ (p : Option ℚ × ℚ). IsTrue b ↔ IsAtMost p.0 p.1) (λ i. (sym same i, is i)) h

-- a mark that is there
pub whole_holds : (model : Program) (values : List ℚ) (j : ℕ) (v : ℚ) (b : Bool) → IsTrue (column_at model j).whole → v ≡ values_at values j → (IsTrue b ↔ IsWhole v) → IsTrue b ↔ Holds model (values_at values) (Whole j)
whole_holds model values j v b there is h = (λ t _. subst IsWhole is (h.0 t), λ k. h.1 (subst IsWhole (sym is) (k there)))

-- the columns of a row's terms are those of the program
pub known_terms : (model : Program) (i n : ℕ) (terms : List Term) → IsKept model → i < length model.rows → n ≡ length model.columns → terms ≡ (row_at model i).terms → All (λ t. t.column < n) terms
known_terms model i n terms kept h count same =
    let row = All-get_or (IsWellFormedRow (length model.columns)) model.rows i empty_row h kept.well_formed.rows in
    subst (λ (ts : List Term). All (λ t. t.column < n) ts) (sym same) (subst (λ (m : ℕ). All (λ t. t.column < m) (row_at model i).terms) (sym count) row.form.known)
