-- Terms that are numbered by the places of members: one member more, and the rows that are made of them.
use Rattle.std.proofs.Common.{◌≡◌, ◌+◌, ◌<◌, ◌∙◌, ap, ℕ, suc, Bool, true, false, cond, List, [], ◌∷◌, ◌++◌, map, take, length, get_or, Some, arith}
use Rattle.std.proofs.lemmas.List.{length-take-le, take_more}
use Rattle.rational.specs.Rational.{ℚ, eq_ℚ, neg_ℚ, zero_ℚ}
use Rattle.rational.specs.Linear.{Term}
use Rattle.lp_model.specs.declared.members.Member.{Member}
use Rattle.lp_model.specs.Program.{Program}
use Rattle.certs.specs.System.{Limits, LinearSystem, SystemRow, alternative_system, bounding, column_rows, member_cost, terms_from}
use Rattle.relaxation.specs.Origins.{from_zero}
use Rattle.alt_polyhedron.specs.Forms.{equal_row, rows_of, term_by}
use Rattle.alt_polyhedron.specs.declared.counting.Form.TheVariants.{Column}

-- ---- the term of the last member
terms_push : (k : ℕ) (f : Member → ℚ) (members : List Member) (m : Member) → terms_from k f (members ++ m ∷ []) ≡ terms_from k f members ++ term_by (k + length members) (f m)
terms_push k f [] m = ap (λ n. term_by n (f m)) (let e : k ≡ k + 0 = omega arith in e)
terms_push k f (x ∷ members) m = by (terms_push (suc k) f members m) (eq_ℚ (f x) zero_ℚ)
  where
    next : suc k + length members ≡ k + suc (length members)
    next = omega arith

    by : terms_from (suc k) f (members ++ m ∷ []) ≡ terms_from (suc k) f members ++ term_by (suc k + length members) (f m)
        → (b : Bool) → cond b (terms_from (suc k) f (members ++ m ∷ [])) (record { column = k; factor = f x } ∷ terms_from (suc k) f (members ++ m ∷ []))
        ≡ cond b (terms_from (suc k) f members) (record { column = k; factor = f x } ∷ terms_from (suc k) f members) ++ term_by (k + suc (length members)) (f m)
    by rest true = rest ∙ ap (λ n. terms_from (suc k) f members ++ term_by n (f m)) next
    by rest false = ap (λ l. record { column = k; factor = f x } ∷ l) (rest ∙ ap (λ n. terms_from (suc k) f members ++ term_by n (f m)) next)

-- of the first members, one more
pub terms_more : (f : Member → ℚ) (members : List Member) (i : ℕ) (d : Member) → i < length members → terms_from 0 f (take (i + 1) members) ≡ terms_from 0 f (take i members) ++ term_by i (f (get_or members i d))
terms_more f members i d l =
    let count : length (take i members) ≡ i = length-take-le i members (omega arith) in
    let place : 0 + length (take i members) ≡ i = omega (arith, count) in
    ap (terms_from 0 f) (take_more members i d l)
    ∙ terms_push 0 f (take i members) (get_or members i d)
    ∙ ap (λ n. terms_from 0 f (take i members) ++ term_by n (f (get_or members i d))) place

-- ---- the rows
pub rows_more : (model : Program) (members : List Member) (c : ℕ) → column_rows model members (c + 1) ≡ column_rows model members c ++ equal_row model members (Column c) zero_ℚ ∷ []
rows_more model members c = ap (column_rows model members) (let e : c + 1 ≡ suc c = omega arith in e)

-- ---- the system
pub system_made : (model : Program) (set members : List Member) (columns : List Limits) (rows : List SystemRow) (objective : List Term) → members ≡ bounding model set
    → columns ≡ map (λ m. from_zero) members → rows ≡ rows_of model members → objective ≡ terms_from 0 (λ m. neg_ℚ (member_cost model m)) members
    → ◌≡◌ {A = LinearSystem} (record { columns = columns; rows = rows; objective = Some objective }) (alternative_system model set)
system_made model set members columns rows objective m c r o =
    let limits = c ∙ ap (map (λ m. from_zero)) m in
    let listed = r ∙ ap (rows_of model) m in
    let costs = o ∙ ap (terms_from 0 (λ m. neg_ℚ (member_cost model m))) m in
    λ i. record { columns = limits i; rows = listed i; objective = Some (costs i) }
