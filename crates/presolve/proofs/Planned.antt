-- What plans make of a system.
use Rattle.std.proofs.Common.{◌≡◌, refl, sym, ◌∙◌, ap, ℕ, ◌<◌, zero, suc, List, [], ◌∷◌, map, Some, None, arith}
use Rattle.std.specs.Prelude.{All, AllPairs}
use Rattle.std.proofs.lemmas.List.Elements.{All-head, All-tail}
use Rattle.rational.specs.Linear.{Term}
use Rattle.lp_model.specs.declared.members.Side.{Side}
use Rattle.certs.specs.Combination.{number_or_zero}
use Rattle.certs.specs.System.{Limits, SystemRow, LinearSystem, limit_on}
use Rattle.reductions.specs.Limited.{turned, taken_value}
use Rattle.reductions.specs.Reduction.{forced_limits}
use Rattle.reductions.specs.Stage.{with_limits}
use Rattle.reductions.proofs.Looks.{limits_stay}
use Rattle.presolve.specs.Forced.{forced_column, forced_columns}
use Rattle.presolve.specs.Plans.{At, PlanValue, put_all, planned}

-- a plan by its parts, where the objective stays
pub planned_is : (plan : PlanValue) (system : LinearSystem) (columns : List (At Limits)) (rows : List (At SystemRow)) → plan.columns ≡ columns → plan.rows ≡ rows → plan.objective ≡ None
    → planned plan system ≡ record { columns = put_all columns system.columns; rows = put_all rows system.rows; objective = system.objective }
planned_is plan system columns rows c r o =
    ap (λ z. planned (record plan { columns = z }) system) c
    ∙ ap (λ z. planned (record plan { columns = columns; rows = z }) system) r
    ∙ ap (λ z. planned (record plan { columns = columns; rows = rows; objective = z }) system) o

-- equal on each element
map_on : {A B : Type 0} (f g : A → B) (xs : List A) → All (λ a. f a ≡ g a) xs → map f xs ≡ map g xs
map_on f g [] h = refl
map_on f g (x ∷ xs) h = ap (λ z. z ∷ map f xs) (All-head (λ a. f a ≡ g a) x xs h) ∙ ap (λ z. g x ∷ z) (map_on f g xs (All-tail (λ a. f a ≡ g a) x xs h))

-- limits of another column leave what a sum takes
taken_stays : (system : LinearSystem) (sum : Side) (j : ℕ) (limits : Limits) (u : Term) → j < u.column → forced_column (with_limits j limits system) sum u ≡ forced_column system sum u
taken_stays system sum j limits u l =
    ap (λ z. let v = number_or_zero (limit_on z (turned u.factor sum)) in record { number = u.column; item = record { lower = Some v; upper = Some v } })
    (limits_stay system.columns j u.column limits (λ e. absurd (omega (arith, e))))

-- those behind the first
behind : (t : Term) (terms : List Term) → AllPairs (λ s u. s.column < u.column) (t ∷ terms) → All (λ (u : Term). t.column < u.column) terms
behind t terms h = λ k d l. h zero (suc k) d (omega arith) (omega arith)

ascending_tail : (t : Term) (terms : List Term) → AllPairs (λ s u. s.column < u.column) (t ∷ terms) → AllPairs (λ s u. s.column < u.column) terms
ascending_tail t terms h = λ i j d l m. h (suc i) (suc j) d (omega arith) (omega arith)

-- the limits made equal one after another are all put at once, since no column comes twice
abbrev pub with_columns : List Limits → LinearSystem → LinearSystem
with_columns columns system = record system { columns = columns }

pub forced_is : (system : LinearSystem) (sum : Side) (terms : List Term) → AllPairs (λ s t. s.column < t.column) terms
    → with_columns (put_all (forced_columns system sum terms) system.columns) system ≡ forced_limits system sum terms
forced_is system sum [] order = refl
forced_is system sum (t ∷ terms) order =
    let limits : Limits = record { lower = Some (taken_value system sum t); upper = Some (taken_value system sum t) } in
    let next = with_limits t.column limits system in
    ap (λ z. with_columns (put_all z next.columns) system)
    (map_on (forced_column system sum) (forced_column next sum) terms (λ k d l. sym (taken_stays system sum t.column limits _ (behind t terms order k d l))))
    ∙ forced_is next sum terms (ascending_tail t terms order)
