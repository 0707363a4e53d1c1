-- What is kept before the first step.
use Rattle.std.proofs.Common.{◌≡◌, ℕ, ◌<◌, ◌≤◌, Bool, List, [], ◌∷◌, None, length, refl, sym, subst, arith}
use Rattle.std.proofs.lemmas.List.Elements.{All-nil}
use Rattle.rational.specs.Rational.{ℚ}
use Rattle.lp_model.specs.Shown.{longest_name}
use Rattle.mps_lines.specs.declared.shapes.RowKind.{RowKind}
use Rattle.mps_lines.specs.declared.shapes.BoundKind.{BoundKind}
use Rattle.mps_lines.specs.Shapes.{Bounded}
use Rattle.mps_reader.specs.Tables.{RowRecord, rows_of, columns_of, entries_of, sides_of, ranges_of, bounds_of}
use Rattle.mps_reader.specs.Held.{KeepsRows, KeepsColumns, KeepsEntries, KeepsFigures, KeepsSettings}

-- a list without elements
pub none_left : {X : Type 0} (xs : List X) → length xs ≡ 0 → xs ≡ []
none_left [] h = refl
none_left (x ∷ xs) h = absurd (omega arith)

pub rows_started : (rows : List (List ℕ × RowKind)) → rows ≡ [] → KeepsRows rows 0 0 None (rows_of [])
unfolding rows_of
rows_started rows e = subst (λ (rs : List (List ℕ × RowKind)). KeepsRows rs 0 0 None []) (sym e) (record {
  same = refl;
  free_is = refl;
  kept_is = refl;
  objective_is = refl;
  objective_within = tt;
  few = omega arith;
  short = All-nil (λ name. length name ≤ longest_name);
})

pub columns_started : (columns : List (List ℕ × Bool)) → columns ≡ [] → KeepsColumns columns (columns_of [])
unfolding columns_of
columns_started columns e = subst (λ (cs : List (List ℕ × Bool)). KeepsColumns cs []) (sym e) (record { same = refl; few = omega arith; short = All-nil (λ name. length name ≤ longest_name) })

pub entries_started : (declared : List RowRecord) (rows columns : List (List ℕ)) (entries : List ((ℕ × ℕ) × ℚ)) → length entries ≡ 0 → KeepsEntries declared rows columns entries 0 (entries_of [])
unfolding entries_of
entries_started declared rows columns entries e = subst (λ (es : List ((ℕ × ℕ) × ℚ)). KeepsEntries declared rows columns es 0 []) (sym (none_left entries e))
    (record { count_is = refl; found = λ column row h. refl; within = All-nil (λ x. (x.0.0 < length rows) × (x.0.1 < length columns)) })

pub sides_started : {V W : Type 0} (value : List ℕ → W) (show : V → W) (declared : List RowRecord) (rows : List (List ℕ)) (table : List (ℕ × V)) → length table ≡ 0 → KeepsFigures value show declared rows table (sides_of [])
unfolding sides_of
sides_started {V} value show declared rows table e = subst (λ (t : List (ℕ × V)). KeepsFigures value show declared rows t []) (sym (none_left table e)) (record { found = λ row h. refl; within = All-nil (λ x. x.0 < length rows) })

pub ranges_started : {V W : Type 0} (value : List ℕ → W) (show : V → W) (declared : List RowRecord) (rows : List (List ℕ)) (table : List (ℕ × V)) → length table ≡ 0 → KeepsFigures value show declared rows table (ranges_of [])
unfolding ranges_of
ranges_started {V} value show declared rows table e = subst (λ (t : List (ℕ × V)). KeepsFigures value show declared rows t []) (sym (none_left table e)) (record { found = λ row h. refl; within = All-nil (λ x. x.0 < length rows) })

pub settings_started : {V : Type 0} (sets : BoundKind → Bool) (value : Bounded → V) (columns : List (List ℕ)) (table : List (ℕ × V)) → length table ≡ 0 → KeepsSettings sets value columns table (bounds_of [])
unfolding bounds_of
settings_started {V} sets value columns table e = subst (λ (t : List (ℕ × V)). KeepsSettings sets value columns t []) (sym (none_left table e)) (record { found = λ column. refl; within = All-nil (λ x. x.0 < length columns) })
