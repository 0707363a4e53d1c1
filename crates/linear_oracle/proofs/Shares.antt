-- What shares of a plain system name.
use Rattle.std.proofs.Common.{◌≡◌, ◌+◌, ◌-◌, ◌<◌, ◌≤◌, ◌^◌, ℕ, sym, ◌∙◌, ap, subst, Bool, true, false, cond, List, [], ◌∷◌, filter, map, length, nat_lt, refl, arith, Some}
use Rattle.std.specs.Prelude.{All}
use Rattle.std.proofs.lemmas.Bool.{ltb-true, ltb-false}
use Rattle.std.proofs.lemmas.List.{length-map}
use Rattle.std.proofs.lemmas.List.Elements.{All-map, All-weaker}
use Rattle.lp_model.specs.declared.members.Member.{Member}
use Rattle.lp_model.specs.declared.members.Side.{Side}
use Rattle.lp_model.specs.declared.members.Side.TheVariants.{Lo, Up}
use Rattle.lp_model.specs.Program.{Program}
use Rattle.lp_model.specs.Shown.{most_columns, most_rows}
use Rattle.certs.specs.declared.evidence.Branch.{Branch}
use Rattle.certs.specs.declared.evidence.Share.{Share}
use Rattle.certs.specs.declared.evidence.Source.TheVariants.{Member as Of}
use Rattle.certs.specs.System.{VariableShare}
use Rattle.certs.specs.Ended.{numbers_from}
use Rattle.certs.specs.Named.{IsNamedCombination, IsOfSystem, bound_of, member_of, named, row_side_of}
use Rattle.certs.specs.Plain.{column_limits, crossing_shares, first_crossing, has_row, plain_row, plain_system, rows_in}
use Rattle.certs.proofs.PlainCuts.{crossing_combination}
use Rattle.certs.proofs.Translated.{length_mapped, length_numbers}

-- the sizes of a plain system
pub columns_are : (model : Program) (set : List Member) (path : List Branch) → length (plain_system model set path false).columns ≡ length model.columns
columns_are model set path = length_mapped (column_limits model set path) (length model.columns)

pub rows_are : (model : Program) (set : List Member) (path : List Branch) → length (plain_system model set path false).rows ≡ length (rows_in model set)
rows_are model set path = length-map (rows_in model set) (plain_row model set)

-- a limit of a variable is a side of a row or a bound of a column
bound_known : (columns rows v : ℕ) (side : Side) → v < columns → IsOfSystem columns rows (Of (bound_of v side))
bound_known columns rows v Lo l = l
bound_known columns rows v Up l = l

row_known : (columns rows k : ℕ) (side : Side) → k < rows → IsOfSystem columns rows (Of (row_side_of k side))
row_known columns rows k Lo l = l
row_known columns rows k Up l = l

known_one : (columns rows v : ℕ) (side : Side) → v < columns + rows → IsOfSystem columns rows (Of (member_of columns v side))
known_one columns rows v side l = by (nat_lt v columns) refl
  where
    by : (b : Bool) → nat_lt v columns ≡ b → IsOfSystem columns rows (Of (cond b (bound_of v side) (row_side_of (v - columns) side)))
    by true e = bound_known columns rows v side (ltb-true v columns e)
    by false e = let past = ltb-false v columns e in row_known columns rows (v - columns) side (omega (arith, past, l))

pub all_known : (columns rows : ℕ) (shares : List VariableShare) → All (λ s. s.variable < columns + rows) shares → All (λ (s : Share). IsOfSystem columns rows s.source) (map (named columns) shares)
all_known columns rows shares h =
    All-map (λ (s : Share). IsOfSystem columns rows s.source) (named columns) shares
    (All-weaker (λ (s : VariableShare). s.variable < columns + rows) (λ (s : VariableShare). IsOfSystem columns rows (named columns s).source) (λ s l. known_one columns rows s.variable s.side l) shares h)

-- what names a combination of the plain system names rows and bounds of it
pub of_plain : (model : Program) (set : List Member) (path : List Branch) (shares : List Share) → IsNamedCombination (plain_system model set path false) shares
    → All (λ (s : Share). IsOfSystem (length model.columns) (length (rows_in model set)) s.source) shares
of_plain model set path shares h =
    subst (λ n. All (λ (s : Share). IsOfSystem n (length (rows_in model set)) s.source) shares) (columns_are model set path)
    (subst (λ n. All (λ (s : Share). IsOfSystem (length (plain_system model set path false).columns) n s.source) shares) (rows_are model set path)
    (subst (All (λ (s : Share). IsOfSystem (length (plain_system model set path false).columns) (length (plain_system model set path false).rows) s.source)) (sym h.same)
    (all_known (length (plain_system model set path false).columns) (length (plain_system model set path false).rows) h.of h.combination.known)))

-- both limits of the variable whose limits cross
pub crossing_named : (model : Program) (set : List Member) (path : List Branch) (v : ℕ) (shares : List Share) → first_crossing (plain_system model set path false) ≡ Some v
    → shares ≡ map (named (length model.columns)) (crossing_shares v) → IsNamedCombination (plain_system model set path false) shares
crossing_named model set path v shares e same = record {
  of = crossing_shares v;
  combination = crossing_combination (plain_system model set path false) v e;
  same = same ∙ ap (λ n. map (named n) (crossing_shares v)) (sym (columns_are model set path));
}

-- ---- few variables
-- a filter keeps at most all
kept_few : {A : Type 0} (p : A → Bool) (xs : List A) → length (filter p xs) ≤ length xs
kept_few p [] = omega arith
kept_few p (x ∷ xs) = by (kept_few p xs) (p x)
  where
    by : length (filter p xs) ≤ length xs → (b : Bool) → length (cond b (x ∷ filter p xs) (filter p xs)) ≤ length (x ∷ xs)
    by h true = omega (arith, h)
    by h false = omega (arith, h)

-- a plain system has at most as many as the program has columns and rows
pub few_variables : (model : Program) (set : List Member) (path : List Branch) → length model.rows ≤ most_rows → length model.columns ≤ most_columns
    → length (plain_system model set path false).columns + length (plain_system model set path false).rows < 2 ^ 31
few_variables model set path r c =
    let columns = columns_are model set path in
    let rows = rows_are model set path in
    let kept : length (rows_in model set) ≤ length (numbers_from 0 (length model.rows)) = kept_few (has_row set) (numbers_from 0 (length model.rows)) in
    let all = length_numbers 0 (length model.rows) in
    omega (arith, columns, rows, kept, all, r, c)
