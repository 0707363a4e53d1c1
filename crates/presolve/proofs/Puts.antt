-- Items put in their places.
use Rattle.std.proofs.Common.{◌≡◌, refl, sym, ◌∙◌, ap, ℕ, ◌+◌, suc, Bool, true, false, cond, List, [], ◌∷◌, ◌++◌, map, length, set, append_assoc, length-append, arith}
use Rattle.std.proofs.Math.Seq.{set-append_seam}
use Rattle.std.specs.Prelude.{slice_set}
use Rattle.rational.specs.Rational.{zero_ℚ, eq_ℚ}
use Rattle.rational.specs.Linear.{factor_of}
use Rattle.certs.specs.System.{SystemRow}
use Rattle.presolve.specs.Plans.{At, put_all}
use Rattle.presolve.specs.Eliminated.{new_rows_from}

-- some, and then others
pub put_all-append : {A : Type 0} (xs ys : List (At A)) (items : List A) → put_all (xs ++ ys) items ≡ put_all ys (put_all xs items)
put_all-append [] ys items = refl
put_all-append (x ∷ xs) ys items = put_all-append xs ys (slice_set items x.number x.item)

-- a row, changed where it has the column
abbrev pub changed_or_same : ℕ → (SystemRow → SystemRow) → SystemRow → SystemRow
changed_or_same j f r = cond (eq_ℚ (factor_of r.terms j) zero_ℚ) r (f r)

-- the rows that have the column, put in their places after others, are all rows changed where they have it
pub put_rows_from : (j : ℕ) (f : SystemRow → SystemRow) (k : ℕ) (rows done : List SystemRow) → length done ≡ k → put_all (new_rows_from j f k rows) (done ++ rows) ≡ done ++ map (changed_or_same j f) rows
put_rows_from j f k [] done e = refl
put_rows_from j f k (r ∷ rows) done e = by (eq_ℚ (factor_of r.terms j) zero_ℚ) (put_rows_from j f (suc k) rows)
  where
    More : Type 0
    More = (made : List SystemRow) → length made ≡ suc k → put_all (new_rows_from j f (suc k) rows) (made ++ rows) ≡ made ++ map (changed_or_same j f) rows

    next : (row : SystemRow) → More → put_all (new_rows_from j f (suc k) rows) (done ++ row ∷ rows) ≡ done ++ row ∷ map (changed_or_same j f) rows
    next row more =
        ap (put_all (new_rows_from j f (suc k) rows)) (sym (append_assoc done (row ∷ []) rows))
        ∙ more (done ++ row ∷ []) (length-append done (row ∷ []) ∙ ap (λ n. n + 1) e ∙ (let q : k + 1 ≡ suc k = omega arith in q))
        ∙ append_assoc done (row ∷ []) (map (changed_or_same j f) rows)

    by : (b : Bool) → More → put_all (cond b (new_rows_from j f (suc k) rows) (record { number = k; item = f r } ∷ new_rows_from j f (suc k) rows)) (done ++ r ∷ rows) ≡ done ++ cond b r (f r) ∷ map (changed_or_same j f) rows
    by true more = next r more
    by false more =
        ap (put_all (new_rows_from j f (suc k) rows)) (ap (λ n. set (done ++ r ∷ rows) n (f r)) (sym e) ∙ set-append_seam done r rows (f r))
        ∙ next (f r) more

-- of all rows
pub put_rows : (j : ℕ) (f : SystemRow → SystemRow) (rows : List SystemRow) → put_all (new_rows_from j f 0 rows) rows ≡ map (changed_or_same j f) rows
put_rows j f rows = put_rows_from j f 0 rows [] refl
