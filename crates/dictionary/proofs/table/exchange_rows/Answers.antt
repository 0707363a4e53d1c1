use Rattle.std.proofs.Common.{◌≡◌, ◌≢◌, ◌+◌, ◌<◌, ◌≤◌, ℕ, List, [], ◌++◌, length, set, vec_capacity, sym, ◌∙◌, ap, subst, Some, None, append_assoc, arith}
use Rattle.std.specs.Prelude.{flat_map, slice_index_or}
use Rattle.std.proofs.lemmas.Result.{err_from_is_err_and}
use Rattle.std.proofs.lemmas.List.{length-set, length-map}
use Rattle.std.proofs.lemmas.List.Elements.{All-set}
use Rattle.rational.specs.Rational.{◌/ℚ◌, zero_ℚ, one_ℚ}
use Rattle.rational.specs.Linear.{Term, factor_of}
use Rattle.frac128.specs.declared.Op.TheVariants.{Over}
use Rattle.frac128.specs.Calculation.{Calculation, first_wide}
use Rattle.frac128.proofs.Calculations.{first_wide-past, first_wide-before}
use Rattle.certs.specs.Turns.{counted}
use Rattle.dictionary.specs.Rows.{terms_of, rows_of, row_work, without, quotients_of, IsRow, IsRowChanged}
use Rattle.dictionary.proofs.Changes.{inverse-nonzero}
use Rattle.dictionary.proofs.Tables.{rows_set, rows_at, rows-length, empty_row, quotients_row, no_entering, no_leaving, exchanged_rows}
use Rattle.dictionary.proofs.table.exchange_rows.Goals as goal

-- the operations of the leaving row
abbrev start : ℕ → List Term → Calculation
start J row = counted Over one_ℚ (factor_of row J) ++ flat_map (λ t. counted Over t.factor (factor_of row J)) (without J row)

abbrev rest : ℕ → List Term → List (List Term) → Calculation
rest J row rows = flat_map (row_work J (one_ℚ /ℚ factor_of row J) (quotients_of J row)) rows

pub split_row-requires : goal.split_row-requires
split_row-requires g c =
    let v = g.N.Exact.value in
    let m = g.N.Exact.most in
    let I = c.args.leaving in
    let J = c.args.entering in
    let rows = c.args.rows.now in
    let R = rows_of v rows in
    let x = c.index-rows-leaving.result in
    let row = slice_index_or R I [] in
    let p = factor_of row J in
    let taken : terms_of v c.swap.new.y.items ≡ row = ap (λ r. terms_of v r.items) c.swap.ensures.y_after ∙ sym (rows_at v rows I x c.requires.leaving) in
    let cleared : c.swap.new.x.items ≡ [] = ap (λ r. r.items) c.swap.ensures.x_after ∙ c.clear.ensures.items in
    let is_row : IsRow row = subst IsRow (sym (rows_at v rows I x c.requires.leaving)) (c.requires.rows I x c.requires.leaving) in
    record {
      row = subst IsRow (sym taken) is_row;
      nonzero = λ z. c.requires.nonzero (ap (λ y. factor_of y J) (sym taken) ∙ z);
    }

pub returns-in_err-inverse : goal.returns-in_err-inverse
returns-in_err-inverse g c =
    let v = g.N.Exact.value in
    let m = g.N.Exact.most in
    let I = c.args.leaving in
    let J = c.args.entering in
    let rows = c.args.rows.now in
    let R = rows_of v rows in
    let x = c.index-rows-leaving.result in
    let row = slice_index_or R I [] in
    let p = factor_of row J in
    let taken : terms_of v c.swap.new.y.items ≡ row = ap (λ r. terms_of v r.items) c.swap.ensures.y_after ∙ sym (rows_at v rows I x c.requires.leaving) in
    let cleared : c.swap.new.x.items ≡ [] = ap (λ r. r.items) c.swap.ensures.x_after ∙ c.clear.ensures.items in
    let is_row : IsRow row = subst IsRow (sym (rows_at v rows I x c.requires.leaving)) (c.requires.rows I x c.requires.leaving) in
    let e : first_wide m (start J row) ≡ Some c.in_err-inverse.field-0.0 = ap (λ z. first_wide m (start J z)) (sym taken) ∙ c.in_err-inverse.ensures.split in
    let q = err_from_is_err_and c.from_residual.result c.from_residual.ensures.1 in
    rw (q.1, q.2)
    (ap (first_wide m) (sym (append_assoc (counted Over one_ℚ p) (flat_map (λ t. counted Over t.factor p) (without J row)) (rest J row (set R I [])))) ∙ first_wide-before m (start J row) (rest J row (set R I [])) _ e)

pub change_rows-requires : goal.change_rows-requires
change_rows-requires g c =
    let v = g.N.Exact.value in
    let m = g.N.Exact.most in
    let I = c.args.leaving in
    let J = c.args.entering in
    let rows = c.args.rows.now in
    let R = rows_of v rows in
    let x = c.index-rows-leaving.result in
    let row = slice_index_or R I [] in
    let p = factor_of row J in
    let taken : terms_of v c.swap.new.y.items ≡ row = ap (λ r. terms_of v r.items) c.swap.ensures.y_after ∙ sym (rows_at v rows I x c.requires.leaving) in
    let cleared : c.swap.new.x.items ≡ [] = ap (λ r. r.items) c.swap.ensures.x_after ∙ c.clear.ensures.items in
    let is_row : IsRow row = subst IsRow (sym (rows_at v rows I x c.requires.leaving)) (c.requires.rows I x c.requires.leaving) in
    let done = c.in_ok-inverse.ensures.split in
    let inverse : v c.in_ok-inverse.inverse ≡ one_ℚ /ℚ p = done.1.0 ∙ ap (λ z. one_ℚ /ℚ factor_of z J) taken in
    let quotients : terms_of v c.split_row.new.row.items ≡ quotients_of J row = done.1.1 ∙ ap (quotients_of J) taken in
    let first : first_wide m (counted Over one_ℚ p ++ flat_map (λ t. counted Over t.factor p) (without J row)) ≡ None = ap (λ z. first_wide m (start J z)) (sym taken) ∙ done.0 in
    let given : terms_of v c.deref.result.now ≡ quotients_of J row = ap (terms_of v) c.deref.ensures.value ∙ quotients in
    record {
      rows = All-set (λ r. IsRow (terms_of v r.items)) rows I c.swap.new.x (subst (λ z. IsRow (terms_of v z)) (sym cleared) empty_row) c.requires.rows;
      leaving = All-set (λ r. factor_of (terms_of v r.items) I ≡ zero_ℚ) rows I c.swap.new.x (ap (λ z. factor_of (terms_of v z) I) cleared) c.requires.no_leaving;
      quotients = subst IsRow (sym given) (quotients_row J row is_row c.requires.nonzero);
      no_leaving = (let left : factor_of row I ≡ zero_ℚ = ap (λ z. factor_of z I) (rows_at v rows I x c.requires.leaving) ∙ c.requires.no_leaving I x c.requires.leaving in
          ap (λ z. factor_of z I) given ∙ no_leaving J row is_row c.requires.nonzero I c.requires.apart left);
      no_entering = ap (λ z. factor_of z J) given ∙ no_entering J row is_row c.requires.nonzero;
      apart = c.requires.apart;
      inverse = λ z. inverse-nonzero p c.requires.nonzero (sym inverse ∙ z);
      room = (let short = c.in_ok-inverse.ensures.shorter in
          let n = ap length c.deref.ensures.value in
          let h = sym (length-map c.swap.new.y.items (λ e. record { column = e.variable; factor = v e.factor })) ∙ ap length taken in
          All-set (λ r. factor_of (terms_of v r.items) J ≢ zero_ℚ → length r.items + length c.deref.result.now ≤ vec_capacity r) rows I c.swap.new.x
          (λ d. absurd (d (ap (λ z. factor_of (terms_of v z) J) cleared)))
          (λ k d l f. (let a = c.requires.room k d l f in omega (arith, a, short, n, h))));
      spare = All-set (λ r. factor_of (terms_of v r.items) J ≢ zero_ℚ → length r.items ≤ vec_capacity c.args.spare.now) rows I c.swap.new.x (λ d. absurd (d (ap (λ z. factor_of (terms_of v z) J) cleared))) c.requires.spare;
    }

pub returns-in_err-change_rows : goal.returns-in_err-change_rows
returns-in_err-change_rows g c =
    let v = g.N.Exact.value in
    let m = g.N.Exact.most in
    let I = c.args.leaving in
    let J = c.args.entering in
    let rows = c.args.rows.now in
    let R = rows_of v rows in
    let x = c.index-rows-leaving.result in
    let row = slice_index_or R I [] in
    let p = factor_of row J in
    let taken : terms_of v c.swap.new.y.items ≡ row = ap (λ r. terms_of v r.items) c.swap.ensures.y_after ∙ sym (rows_at v rows I x c.requires.leaving) in
    let cleared : c.swap.new.x.items ≡ [] = ap (λ r. r.items) c.swap.ensures.x_after ∙ c.clear.ensures.items in
    let is_row : IsRow row = subst IsRow (sym (rows_at v rows I x c.requires.leaving)) (c.requires.rows I x c.requires.leaving) in
    let done = c.in_ok-inverse.ensures.split in
    let inverse : v c.in_ok-inverse.inverse ≡ one_ℚ /ℚ p = done.1.0 ∙ ap (λ z. one_ℚ /ℚ factor_of z J) taken in
    let quotients : terms_of v c.split_row.new.row.items ≡ quotients_of J row = done.1.1 ∙ ap (quotients_of J) taken in
    let first : first_wide m (counted Over one_ℚ p ++ flat_map (λ t. counted Over t.factor p) (without J row)) ≡ None = ap (λ z. first_wide m (start J z)) (sym taken) ∙ done.0 in
    let given : terms_of v c.deref.result.now ≡ quotients_of J row = ap (terms_of v) c.deref.ensures.value ∙ quotients in
    let others : rows_of v (set rows I c.swap.new.x) ≡ set R I [] = rows_set v rows I c.swap.new.x ∙ ap (λ z. set R I (terms_of v z)) cleared in
    let e : first_wide m (rest J row (set R I [])) ≡ Some c.in_err-change_rows.field-0.0 =
    ap (λ z. first_wide m (rest J row z)) (sym others)
    ∙ ap (λ z. first_wide m (flat_map (row_work J z (quotients_of J row)) (rows_of v (set rows I c.swap.new.x)))) (sym inverse)
    ∙ ap (λ z. first_wide m (flat_map (row_work J (v c.in_ok-inverse.inverse) z) (rows_of v (set rows I c.swap.new.x)))) (sym given)
    ∙ c.in_err-change_rows.ensures in
    let q = err_from_is_err_and c.from_residual-in_err-change_rows.result c.from_residual-in_err-change_rows.ensures.1 in
    rw (q.1, q.2)
    (ap (first_wide m) (sym (append_assoc (counted Over one_ℚ p) (flat_map (λ t. counted Over t.factor p) (without J row)) (rest J row (set R I [])))) ∙ first_wide-past m (start J row) (rest J row (set R I [])) first ∙ e)

pub solve_row-requires : goal.solve_row-requires
solve_row-requires g c =
    let v = g.N.Exact.value in
    let m = g.N.Exact.most in
    let I = c.args.leaving in
    let J = c.args.entering in
    let rows = c.args.rows.now in
    let R = rows_of v rows in
    let x = c.index-rows-leaving.result in
    let row = slice_index_or R I [] in
    let p = factor_of row J in
    let taken : terms_of v c.swap.new.y.items ≡ row = ap (λ r. terms_of v r.items) c.swap.ensures.y_after ∙ sym (rows_at v rows I x c.requires.leaving) in
    let cleared : c.swap.new.x.items ≡ [] = ap (λ r. r.items) c.swap.ensures.x_after ∙ c.clear.ensures.items in
    let is_row : IsRow row = subst IsRow (sym (rows_at v rows I x c.requires.leaving)) (c.requires.rows I x c.requires.leaving) in
    let done = c.in_ok-inverse.ensures.split in
    let inverse : v c.in_ok-inverse.inverse ≡ one_ℚ /ℚ p = done.1.0 ∙ ap (λ z. one_ℚ /ℚ factor_of z J) taken in
    let quotients : terms_of v c.split_row.new.row.items ≡ quotients_of J row = done.1.1 ∙ ap (quotients_of J) taken in
    let first : first_wide m (counted Over one_ℚ p ++ flat_map (λ t. counted Over t.factor p) (without J row)) ≡ None = ap (λ z. first_wide m (start J z)) (sym taken) ∙ done.0 in
    record {
      row = subst IsRow (sym quotients) (quotients_row J row is_row c.requires.nonzero);
      new = (let left : factor_of row I ≡ zero_ℚ = ap (λ z. factor_of z I) (rows_at v rows I x c.requires.leaving) ∙ c.requires.no_leaving I x c.requires.leaving in
          ap (λ z. factor_of z I) quotients ∙ no_leaving J row is_row c.requires.nonzero I c.requires.apart left);
      nonzero = λ z. inverse-nonzero p c.requires.nonzero (sym inverse ∙ z);
      room = (let a = c.in_ok-inverse.ensures.shorter in
          let b = c.in_ok-inverse.ensures.capacity in
          let d = c.swap.new.y.ok.0 in
          let e = c.swap.new.y.ok.1 in
          omega (arith, a, b, d, e));
    }

pub returns : goal.returns
returns g c =
    let v = g.N.Exact.value in
    let m = g.N.Exact.most in
    let I = c.args.leaving in
    let J = c.args.entering in
    let rows = c.args.rows.now in
    let R = rows_of v rows in
    let x = c.index-rows-leaving.result in
    let row = slice_index_or R I [] in
    let p = factor_of row J in
    let taken : terms_of v c.swap.new.y.items ≡ row = ap (λ r. terms_of v r.items) c.swap.ensures.y_after ∙ sym (rows_at v rows I x c.requires.leaving) in
    let cleared : c.swap.new.x.items ≡ [] = ap (λ r. r.items) c.swap.ensures.x_after ∙ c.clear.ensures.items in
    let is_row : IsRow row = subst IsRow (sym (rows_at v rows I x c.requires.leaving)) (c.requires.rows I x c.requires.leaving) in
    let done = c.in_ok-inverse.ensures.split in
    let inverse : v c.in_ok-inverse.inverse ≡ one_ℚ /ℚ p = done.1.0 ∙ ap (λ z. one_ℚ /ℚ factor_of z J) taken in
    let quotients : terms_of v c.split_row.new.row.items ≡ quotients_of J row = done.1.1 ∙ ap (quotients_of J) taken in
    let first : first_wide m (counted Over one_ℚ p ++ flat_map (λ t. counted Over t.factor p) (without J row)) ≡ None = ap (λ z. first_wide m (start J z)) (sym taken) ∙ done.0 in
    let given : terms_of v c.deref.result.now ≡ quotients_of J row = ap (terms_of v) c.deref.ensures.value ∙ quotients in
    let others : rows_of v (set rows I c.swap.new.x) ≡ set R I [] = rows_set v rows I c.swap.new.x ∙ ap (λ z. set R I (terms_of v z)) cleared in
    let changed = c.in_ok-change_rows.ensures in
    let e : first_wide m (rest J row (set R I [])) ≡ None =
    ap (λ z. first_wide m (rest J row z)) (sym others)
    ∙ ap (λ z. first_wide m (flat_map (row_work J z (quotients_of J row)) (rows_of v (set rows I c.swap.new.x)))) (sym inverse)
    ∙ ap (λ z. first_wide m (flat_map (row_work J (v c.in_ok-inverse.inverse) z) (rows_of v (set rows I c.swap.new.x)))) (sym given)
    ∙ changed.0 in
    let rows2 = c.change_rows.new.rows in
    let z = terms_of v c.swap-2.new.x.items in
    let put : z ≡ terms_of v c.solve_row.new.row.items = ap (λ r. terms_of v r.items) c.swap-2.ensures.x_after in
    let many : length rows2 ≡ length rows = c.change_rows.auto.rows ∙ length-set rows I c.swap.new.x in
    let Q = terms_of v c.split_row.new.row.items in
    let same : terms_of v c.deref.result.now ≡ Q = ap (terms_of v) c.deref.ensures.value in
    let each : (r : ℕ) → r < length R → IsRowChanged I J (v c.in_ok-inverse.inverse) Q (slice_index_or (set R I []) r []) (slice_index_or (rows_of v rows2) r []) =
    λ r l.
    subst (λ y. IsRowChanged I J (v c.in_ok-inverse.inverse) y (slice_index_or (set R I []) r []) (slice_index_or (rows_of v rows2) r [])) same
    (subst (λ y. IsRowChanged I J (v c.in_ok-inverse.inverse) (terms_of v c.deref.result.now) (slice_index_or y r []) (slice_index_or (rows_of v rows2) r [])) others
    (changed.1 r (subst (λ n. r < n) (rows-length v rows ∙ sym (length-set rows I c.swap.new.x)) l))) in (
      ap (first_wide m) (sym (append_assoc (counted Over one_ℚ p) (flat_map (λ t. counted Over t.factor p) (without J row)) (rest J row (set R I [])))) ∙ first_wide-past m (start J row) (rest J row (set R I [])) first ∙ e,
      rw (rows_set v rows2 J c.swap-2.new.x)
          (exchanged_rows I J c.requires.apart R (rows_of v rows2) (subst (λ n. I < n) (sym (rows-length v rows)) c.requires.leaving) (subst (λ n. J < n) (sym (rows-length v rows)) c.requires.entering) (v c.in_ok-inverse.inverse) Q z
          (rows-length v rows2 ∙ many ∙ sym (rows-length v rows)) inverse quotients each (subst IsRow (sym put) c.solve_row.ensures.row) (ap (λ y. factor_of y I) put ∙ c.solve_row.ensures.own) (λ k d. ap (λ y. factor_of y k) put ∙ c.solve_row.ensures.others k d)),
    )
