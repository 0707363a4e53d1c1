use Rattle.std.proofs.Common.{◌≡◌, ◌≢◌, ◌+◌, ◌<◌, ◌≤◌, List, [], ◌++◌, true, true≢false, length, get_or, set, take, drop, map, vec_capacity, refl, sym, ◌∙◌, ap, subst, Some, arith}
use Rattle.std.specs.Prelude.{All, slice_index_or}
use Rattle.std.specs.Option.{option_map}
use Rattle.std.proofs.lemmas.List.{map-set}
use Rattle.rational.specs.Rational.{zero_ℚ}
use Rattle.rational.specs.Linear.{Term, factor_of}
use Rattle.frac128.specs.Calculation.{first_wide}
use Rattle.certs.specs.System.{is_basic}
use Rattle.certs.specs.System.Place.{Basic, AtZero}
use Rattle.certs.specs.Turns.{CanPivot, exchanged, pivot_operations}
use Rattle.certs.proofs.Tableaus.{basic_below, exchanged-length, pivot_law}
use Rattle.dictionary.specs.declared.places.Place.TheVariants.{Basic as IsBasic}
use Rattle.dictionary.specs.Layouts.{basis_of, place_of_code, side_of}
use Rattle.dictionary.specs.Rows.{bounds_of, terms_of, rows_of, rows_work, IsRow, AreSparse, AreRowsExchanged}
use Rattle.dictionary.specs.Sound.{AreForgotten, AreValues, IsSound}
use Rattle.dictionary.specs.Value.{DictionaryValue, table_of, tableau_of}
use Rattle.dictionary.proofs.Changes.{quotient-nonzero}
use Rattle.dictionary.proofs.Kept.{pivoted_places, pivoted_same, values_stay}
use Rattle.dictionary.proofs.Pivots.{pivot_work, pivoted_factor, sparse_after}
use Rattle.dictionary.proofs.Sounds.{sound_after, sound_lost}
use Rattle.dictionary.proofs.Standing.{basis-length}
use Rattle.dictionary.proofs.Tables.{rows_at, rows-length, rows_same, sparse_row, basic_absent, on_ok}
use Rattle.dictionary.proofs.Terms.{refilled, terms-length}
use Rattle.dictionary.proofs.dictionaries.Dictionary.pivot.Goals as goal

pub index-requires : goal.index-requires
index-requires g c =
    let v = g.N.Exact.value in
    let m = g.N.Exact.most in
    let d = c.self.inside in
    let I = c.args.leaving in
    let J = c.args.entering in
    let side = side_of c.args.upper in
    let basis = basis_of d.places.items in
    let R = rows_of v d.rows.items in
    let can = subst (λ d. CanPivot (tableau_of d) I side J) (sym c.self.view_is) c.requires.can in
    let u : d.usable ≡ true = subst (λ d. d.usable ≡ true) (sym c.self.view_is) c.requires.usable in
    let s : AreSparse basis R = c.self.invariant.0.sparse u in
    let many : length d.rows.items ≡ length basis = sym (rows-length v d.rows.items) ∙ s.long in
    let l = basic_below basis I can.basic in
    let n = d.rows.ok.0 in
    omega (arith, l, n, many)

pub make_room-room-requires : goal.make_room-room-requires
make_room-room-requires g c =
    let v = g.N.Exact.value in
    let m = g.N.Exact.most in
    let d = c.self.inside in
    let I = c.args.leaving in
    let J = c.args.entering in
    let side = side_of c.args.upper in
    let basis = basis_of d.places.items in
    let R = rows_of v d.rows.items in
    let can = subst (λ d. CanPivot (tableau_of d) I side J) (sym c.self.view_is) c.requires.can in
    let u : d.usable ≡ true = subst (λ d. d.usable ≡ true) (sym c.self.view_is) c.requires.usable in
    let s : AreSparse basis R = c.self.invariant.0.sparse u in
    let many : length d.rows.items ≡ length basis = sym (rows-length v d.rows.items) ∙ s.long in
    let all : All (λ r. IsRow (terms_of v r.items)) d.rows.items = λ k e l. subst IsRow (rows_at v d.rows.items k e l) (sparse_row basis R s k) in
    subst (All (λ r. IsRow (terms_of v r.items))) (sym c.deref_mut.ensures.value) all

pub returns-then-is_err-clause-done : goal.returns-then-is_err-clause-done
returns-then-is_err-clause-done g c =
    let v = g.N.Exact.value in
    let m = g.N.Exact.most in
    let d = c.self.inside in
    let I = c.args.leaving in
    let J = c.args.entering in
    let side = side_of c.args.upper in
    let basis = basis_of d.places.items in
    let R = rows_of v d.rows.items in
    let can = subst (λ d. CanPivot (tableau_of d) I side J) (sym c.self.view_is) c.requires.can in
    let u : d.usable ≡ true = subst (λ d. d.usable ≡ true) (sym c.self.view_is) c.requires.usable in
    let s : AreSparse basis R = c.self.invariant.0.sparse u in
    let many : length d.rows.items ≡ length basis = sym (rows-length v d.rows.items) ∙ s.long in
    let rows1 = c.make_room-room.new.rows in
    let taken : take d.rows.len (rows1 ++ drop (length rows1) d.rows.items) ≡ rows1 = refilled rows1 d.rows.items d.rows.len (c.make_room-room.auto.rows ∙ ap length c.deref_mut.ensures.value ∙ sym d.rows.ok.0) in
    let same : rows_of v rows1 ≡ R = rows_same v rows1 d.rows.items (c.make_room-room.ensures.same ∙ ap (map (λ r. r.items)) c.deref_mut.ensures.value) in
    let kept : rows_of v (take d.rows.len (rows1 ++ drop (length rows1) d.rows.items)) ≡ R = ap (rows_of v) taken ∙ same in
    let V : List (List Term) → DictionaryValue =
    λ r. record {
      columns = d.columns;
      objective = d.objective;
      limits = map (λ b. record { lower = option_map v b.lower; upper = option_map v b.upper }) d.bounds.items;
      basis = basis;
      rows = r;
      usable = d.usable;
    } in
    ap V kept ∙ c.self.view_is

pub invariant_of-self : goal.invariant_of-self
invariant_of-self g c =
    let v = g.N.Exact.value in
    let m = g.N.Exact.most in
    let d = c.self.inside in
    let I = c.args.leaving in
    let J = c.args.entering in
    let side = side_of c.args.upper in
    let basis = basis_of d.places.items in
    let R = rows_of v d.rows.items in
    let can = subst (λ d. CanPivot (tableau_of d) I side J) (sym c.self.view_is) c.requires.can in
    let u : d.usable ≡ true = subst (λ d. d.usable ≡ true) (sym c.self.view_is) c.requires.usable in
    let s : AreSparse basis R = c.self.invariant.0.sparse u in
    let many : length d.rows.items ≡ length basis = sym (rows-length v d.rows.items) ∙ s.long in
    let rows1 = c.make_room-room.new.rows in
    let taken : take d.rows.len (rows1 ++ drop (length rows1) d.rows.items) ≡ rows1 = refilled rows1 d.rows.items d.rows.len (c.make_room-room.auto.rows ∙ ap length c.deref_mut.ensures.value ∙ sym d.rows.ok.0) in
    let same : rows_of v rows1 ≡ R = rows_same v rows1 d.rows.items (c.make_room-room.ensures.same ∙ ap (map (λ r. r.items)) c.deref_mut.ensures.value) in
    let kept : rows_of v (take d.rows.len (rows1 ++ drop (length rows1) d.rows.items)) ≡ R = ap (rows_of v) taken ∙ same in
    subst (λ r. IsSound (length d.bounds.items) basis r d.objective d.usable × (d.usable ≡ true → AreValues m v (table_of (bounds_of v d.bounds.items) d.objective basis r) d.values.items)) (sym kept) c.self.invariant

pub forget-requires : goal.forget-requires
forget-requires g c =
    let v = g.N.Exact.value in
    let d = c.self.inside in
    let basis = basis_of d.places.items in
    let R = rows_of v d.rows.items in
    let u : d.usable ≡ true = subst (λ d. d.usable ≡ true) (sym c.self.view_is) c.requires.usable in
    let s : AreSparse basis R = c.self.invariant.0.sparse u in
    let rows1 = c.make_room-room.new.rows in
    let taken : take d.rows.len (rows1 ++ drop (length rows1) d.rows.items) ≡ rows1 = refilled rows1 d.rows.items d.rows.len (c.make_room-room.auto.rows ∙ ap length c.deref_mut.ensures.value ∙ sym d.rows.ok.0) in
    let same : rows_of v rows1 ≡ R = rows_same v rows1 d.rows.items (c.make_room-room.ensures.same ∙ ap (map (λ r. r.items)) c.deref_mut.ensures.value) in
    let kept : rows_of v (take d.rows.len (rows1 ++ drop (length rows1) d.rows.items)) ≡ R = ap (rows_of v) taken ∙ same in
    record {
      rows = subst (All (λ r. IsRow (terms_of v r.items))) (sym (c.deref.ensures.value ∙ taken)) (λ k e l. subst IsRow (ap (λ r. slice_index_or r k []) (sym same) ∙ rows_at v rows1 k e l) (sparse_row basis R s k));
      long = ap length c.deref_mut-2.ensures.value ∙ (c.self.invariant.1 u).long ∙ sym s.long ∙ ap length (sym kept) ∙ rows-length v (take d.rows.len (rows1 ++ drop (length rows1) d.rows.items)) ∙ ap length (sym c.deref.ensures.value);
    }

pub exchange_rows-changed-requires : goal.exchange_rows-changed-requires
exchange_rows-changed-requires g c =
    let v = g.N.Exact.value in
    let m = g.N.Exact.most in
    let d = c.self.inside in
    let I = c.args.leaving in
    let J = c.args.entering in
    let side = side_of c.args.upper in
    let basis = basis_of d.places.items in
    let R = rows_of v d.rows.items in
    let can = subst (λ d. CanPivot (tableau_of d) I side J) (sym c.self.view_is) c.requires.can in
    let u : d.usable ≡ true = subst (λ d. d.usable ≡ true) (sym c.self.view_is) c.requires.usable in
    let s : AreSparse basis R = c.self.invariant.0.sparse u in
    let many : length d.rows.items ≡ length basis = sym (rows-length v d.rows.items) ∙ s.long in
    let rows1 = c.make_room-room.new.rows in
    let taken : take d.rows.len (rows1 ++ drop (length rows1) d.rows.items) ≡ rows1 = refilled rows1 d.rows.items d.rows.len (c.make_room-room.auto.rows ∙ ap length c.deref_mut.ensures.value ∙ sym d.rows.ok.0) in
    let same : rows_of v rows1 ≡ R = rows_same v rows1 d.rows.items (c.make_room-room.ensures.same ∙ ap (map (λ r. r.items)) c.deref_mut.ensures.value) in
    let kept : rows_of v (take d.rows.len (rows1 ++ drop (length rows1) d.rows.items)) ≡ R = ap (rows_of v) taken ∙ same in
    let rows' = c.deref_mut-3.result.now in
    let is : rows' ≡ rows1 = c.deref_mut-3.ensures.value ∙ taken in
    let RR : rows_of v rows' ≡ R = ap (rows_of v) is ∙ same in
    let long : length rows' ≡ length basis = sym (rows-length v rows') ∙ ap length RR ∙ s.long in
    let ok = sym c.is_err.ensures.value ∙ c.if-is_err.false in
    record {
      rows = λ k e l. subst IsRow (ap (λ r. slice_index_or r k []) (sym RR) ∙ rows_at v rows' k e l) (sparse_row basis R s k);
      no_leaving = λ k e l. ap (λ r. factor_of r I) (sym (rows_at v rows' k e l) ∙ ap (λ r. slice_index_or r k []) RR) ∙ basic_absent basis R s I can.basic k;
      leaving = subst (λ n. I < n) (sym long) (basic_below basis I can.basic);
      entering = subst (λ n. J < n) (sym long) can.known;
      apart = λ e. true≢false (sym can.basic ∙ ap (is_basic basis) e ∙ can.nonbasic);
      nonzero = λ z. can.nonzero (ap (λ r. factor_of (slice_index_or r I []) J) (sym RR) ∙ z);
      room = (let P = All (λ r. factor_of (terms_of v r.items) J ≢ zero_ℚ → length r.items + c.len-count.result ≤ vec_capacity r) in
          let h : P rows' = subst P (sym is) (on_ok c.make_room-room.result (P rows1) ok c.make_room-room.ensures.room) in
          let x = c.index.result.now in
          let n : length (slice_index_or (rows_of v rows') I []) ≡ c.len-count.result =
          ap (λ r. length (slice_index_or r I [])) RR ∙ ap length (rows_at v d.rows.items I x (subst (λ n. I < n) (sym many) (basic_below basis I can.basic)) ∙ ap (λ r. terms_of v r.items) (sym c.index.ensures))
          ∙ terms-length v x.items ∙ sym x.ok.0 ∙ sym c.len-count.ensures in
          λ k e l f. (let a = h k e l f in omega (arith, a, n)));
      spare = (let P = All (λ r. factor_of (terms_of v r.items) J ≢ zero_ℚ → length r.items ≤ vec_capacity c.make_room-room.new.spare) in
          subst P (sym is) (on_ok c.make_room-room.result (P rows1) ok c.make_room-room.ensures.spare));
    }

pub invariant_of-self-in-Err : goal.invariant_of-self-in-Err
invariant_of-self-in-Err g c =
    let v = g.N.Exact.value in
    let m = g.N.Exact.most in
    let d = c.self.inside in
    let I = c.args.leaving in
    let J = c.args.entering in
    let side = side_of c.args.upper in
    let basis = basis_of d.places.items in
    let R = rows_of v d.rows.items in
    let can = subst (λ d. CanPivot (tableau_of d) I side J) (sym c.self.view_is) c.requires.can in
    let u : d.usable ≡ true = subst (λ d. d.usable ≡ true) (sym c.self.view_is) c.requires.usable in
    let s : AreSparse basis R = c.self.invariant.0.sparse u in
    let many : length d.rows.items ≡ length basis = sym (rows-length v d.rows.items) ∙ s.long in
    (sound_lost (length d.bounds.items) basis R _ d.objective d.usable c.self.invariant.0, λ e. absurd (true≢false (sym e)))

pub returns-in-Err-clause-done : goal.returns-in-Err-clause-done
returns-in-Err-clause-done g c =
    let v = g.N.Exact.value in
    let m = g.N.Exact.most in
    let d = c.self.inside in
    let I = c.args.leaving in
    let J = c.args.entering in
    let side = side_of c.args.upper in
    let basis = basis_of d.places.items in
    let R = rows_of v d.rows.items in
    let can = subst (λ d. CanPivot (tableau_of d) I side J) (sym c.self.view_is) c.requires.can in
    let u : d.usable ≡ true = subst (λ d. d.usable ≡ true) (sym c.self.view_is) c.requires.usable in
    let s : AreSparse basis R = c.self.invariant.0.sparse u in
    let many : length d.rows.items ≡ length basis = sym (rows-length v d.rows.items) ∙ s.long in
    let rows1 = c.make_room-room.new.rows in
    let taken : take d.rows.len (rows1 ++ drop (length rows1) d.rows.items) ≡ rows1 = refilled rows1 d.rows.items d.rows.len (c.make_room-room.auto.rows ∙ ap length c.deref_mut.ensures.value ∙ sym d.rows.ok.0) in
    let same : rows_of v rows1 ≡ R = rows_same v rows1 d.rows.items (c.make_room-room.ensures.same ∙ ap (map (λ r. r.items)) c.deref_mut.ensures.value) in
    let kept : rows_of v (take d.rows.len (rows1 ++ drop (length rows1) d.rows.items)) ≡ R = ap (rows_of v) taken ∙ same in
    let rows' = c.deref_mut-3.result.now in
    let is : rows' ≡ rows1 = c.deref_mut-3.ensures.value ∙ taken in
    let RR : rows_of v rows' ≡ R = ap (rows_of v) is ∙ same in
    let long : length rows' ≡ length basis = sym (rows-length v rows') ∙ ap length RR ∙ s.long in
    let p = factor_of (slice_index_or R I []) J in
    let nonzero = quotient-nonzero p can.nonzero in
    let limits = map (λ b. record { lower = option_map v b.lower; upper = option_map v b.upper }) d.bounds.items in
    let work = pivot_work basis R s I J side can.basic can.nonbasic can.known nonzero limits d.objective in (
      subst (λ d. first_wide m (pivot_operations (tableau_of d) I J) ≡ Some c.in-Err.wide) c.self.view_is (ap (first_wide m) (sym work) ∙ ap (λ r. first_wide m (rows_work I J r)) (sym RR) ∙ c.in-Err.ensures),
      refl,
    )

pub invariant_of-self-2 : goal.invariant_of-self-2
invariant_of-self-2 g c =
    let v = g.N.Exact.value in
    let m = g.N.Exact.most in
    let d = c.self.inside in
    let I = c.args.leaving in
    let J = c.args.entering in
    let side = side_of c.args.upper in
    let basis = basis_of d.places.items in
    let R = rows_of v d.rows.items in
    let can = subst (λ d. CanPivot (tableau_of d) I side J) (sym c.self.view_is) c.requires.can in
    let u : d.usable ≡ true = subst (λ d. d.usable ≡ true) (sym c.self.view_is) c.requires.usable in
    let s : AreSparse basis R = c.self.invariant.0.sparse u in
    let many : length d.rows.items ≡ length basis = sym (rows-length v d.rows.items) ∙ s.long in
    let rows1 = c.make_room-room.new.rows in
    let taken : take d.rows.len (rows1 ++ drop (length rows1) d.rows.items) ≡ rows1 = refilled rows1 d.rows.items d.rows.len (c.make_room-room.auto.rows ∙ ap length c.deref_mut.ensures.value ∙ sym d.rows.ok.0) in
    let same : rows_of v rows1 ≡ R = rows_same v rows1 d.rows.items (c.make_room-room.ensures.same ∙ ap (map (λ r. r.items)) c.deref_mut.ensures.value) in
    let kept : rows_of v (take d.rows.len (rows1 ++ drop (length rows1) d.rows.items)) ≡ R = ap (rows_of v) taken ∙ same in
    let rows' = c.deref_mut-3.result.now in
    let is : rows' ≡ rows1 = c.deref_mut-3.ensures.value ∙ taken in
    let RR : rows_of v rows' ≡ R = ap (rows_of v) is ∙ same in
    let long : length rows' ≡ length basis = sym (rows-length v rows') ∙ ap length RR ∙ s.long in
    let p = factor_of (slice_index_or R I []) J in
    let nonzero = quotient-nonzero p can.nonzero in
    let rows2 = c.exchange_rows-changed.new.rows in
    let filled : take d.rows.len (rows2 ++ drop (length rows2) (take d.rows.len (rows1 ++ drop (length rows1) d.rows.items))) ≡ rows2 =
    refilled rows2 (take d.rows.len (rows1 ++ drop (length rows1) d.rows.items)) d.rows.len (c.exchange_rows-changed.auto.rows ∙ long ∙ sym many ∙ sym d.rows.ok.0) in
    let changed : AreRowsExchanged I J R (rows_of v rows2) = subst (λ r. AreRowsExchanged I J r (rows_of v rows2)) RR c.in_default.ensures.1 in
    let next : basis_of (set (set d.places.items I c.limit_place.result) J IsBasic) ≡ exchanged basis I side J =
    map-set place_of_code (set d.places.items I c.limit_place.result) J IsBasic ∙ ap (λ z. set z J Basic) (map-set place_of_code d.places.items I c.limit_place.result ∙ ap (set basis I) c.limit_place.ensures) in
    let values = c.forget.new.values in
    let left : take d.values.len (values ++ drop (length values) d.values.items) ≡ values =
    refilled values d.values.items d.values.len (c.forget.auto.values ∙ ap length c.deref_mut-2.ensures.value ∙ sym d.values.ok.0) in
    let forgotten : AreForgotten R J d.values.items values =
    subst (λ r. AreForgotten r J d.values.items values) (ap (rows_of v) c.deref.ensures.value ∙ kept) (subst (λ o. AreForgotten (rows_of v c.deref.result.now) J o values) c.deref_mut-2.ensures.value c.forget.ensures) in (
      subst (λ r. IsSound (length d.bounds.items) (basis_of (set (set d.places.items I c.limit_place.result) J IsBasic)) r d.objective true) (ap (rows_of v) (sym filled))
          (sound_after (length d.bounds.items) basis (basis_of (set (set d.places.items I c.limit_place.result) J IsBasic)) R (rows_of v rows2) d.objective d.usable true I J side c.self.invariant.0 can.known can.limited next
          (sparse_after basis R s I J side can.basic can.nonbasic can.known nonzero (rows_of v rows2) changed)),
      λ e. values_stay m (bounds_of v d.bounds.items) d.objective basis _ R _ J s (ap length next ∙ exchanged-length basis I J side)
          (λ w n a. ap (λ b. get_or b w AtZero) next ∙ pivoted_places basis R s I J side can.basic can.nonbasic w n a)
          (λ w b a.
          (let z = pivoted_same basis R s I J side can.basic can.nonbasic (rows_of v rows2) can.nonzero changed w b a in
          (ap (λ b. is_basic b w) next ∙ z.0, λ k. ap (λ r. factor_of (slice_index_or (rows_of v r) w []) k) filled ∙ z.1 k)))
          v d.values.items _ (rw left forgotten) (c.self.invariant.1 u),
    )

pub returns-clause-done : goal.returns-clause-done
returns-clause-done g c =
    let v = g.N.Exact.value in
    let m = g.N.Exact.most in
    let d = c.self.inside in
    let I = c.args.leaving in
    let J = c.args.entering in
    let side = side_of c.args.upper in
    let basis = basis_of d.places.items in
    let R = rows_of v d.rows.items in
    let can = subst (λ d. CanPivot (tableau_of d) I side J) (sym c.self.view_is) c.requires.can in
    let u : d.usable ≡ true = subst (λ d. d.usable ≡ true) (sym c.self.view_is) c.requires.usable in
    let s : AreSparse basis R = c.self.invariant.0.sparse u in
    let many : length d.rows.items ≡ length basis = sym (rows-length v d.rows.items) ∙ s.long in
    let rows1 = c.make_room-room.new.rows in
    let taken : take d.rows.len (rows1 ++ drop (length rows1) d.rows.items) ≡ rows1 = refilled rows1 d.rows.items d.rows.len (c.make_room-room.auto.rows ∙ ap length c.deref_mut.ensures.value ∙ sym d.rows.ok.0) in
    let same : rows_of v rows1 ≡ R = rows_same v rows1 d.rows.items (c.make_room-room.ensures.same ∙ ap (map (λ r. r.items)) c.deref_mut.ensures.value) in
    let kept : rows_of v (take d.rows.len (rows1 ++ drop (length rows1) d.rows.items)) ≡ R = ap (rows_of v) taken ∙ same in
    let rows' = c.deref_mut-3.result.now in
    let is : rows' ≡ rows1 = c.deref_mut-3.ensures.value ∙ taken in
    let RR : rows_of v rows' ≡ R = ap (rows_of v) is ∙ same in
    let long : length rows' ≡ length basis = sym (rows-length v rows') ∙ ap length RR ∙ s.long in
    let p = factor_of (slice_index_or R I []) J in
    let nonzero = quotient-nonzero p can.nonzero in
    let limits = map (λ b. record { lower = option_map v b.lower; upper = option_map v b.upper }) d.bounds.items in
    let rows2 = c.exchange_rows-changed.new.rows in
    let filled : take d.rows.len (rows2 ++ drop (length rows2) (take d.rows.len (rows1 ++ drop (length rows1) d.rows.items))) ≡ rows2 =
    refilled rows2 (take d.rows.len (rows1 ++ drop (length rows1) d.rows.items)) d.rows.len (c.exchange_rows-changed.auto.rows ∙ long ∙ sym many ∙ sym d.rows.ok.0) in
    let changed : AreRowsExchanged I J R (rows_of v rows2) = subst (λ r. AreRowsExchanged I J r (rows_of v rows2)) RR c.in_default.ensures.1 in
    let next : basis_of (set (set d.places.items I c.limit_place.result) J IsBasic) ≡ exchanged basis I side J =
    map-set place_of_code (set d.places.items I c.limit_place.result) J IsBasic ∙ ap (λ z. set z J Basic) (map-set place_of_code d.places.items I c.limit_place.result ∙ ap (set basis I) c.limit_place.ensures) in
    let work = pivot_work basis R s I J side can.basic can.nonbasic can.known nonzero limits d.objective in
    rw (← c.self.view_is) (
      ap (first_wide m) (sym work) ∙ ap (λ r. first_wide m (rows_work I J r)) (sym RR) ∙ c.in_default.ensures.0,
      (
        record {
          limits = refl;
          objective = refl;
          basis = next;
          factor = λ r k b l e.
              ap (λ z. factor_of (slice_index_or (rows_of v z) r []) k) filled
              ∙ pivoted_factor basis R s I J side can.basic can.nonbasic can.known nonzero (rows_of v rows2) changed r k (ap (λ z. is_basic z r) (sym next) ∙ b) (ap (λ z. is_basic z k) (sym next) ∙ e);
        },
        refl,
      ),
    )

pub returns-clause-system : goal.returns-clause-system
returns-clause-system g c = λ system of. pivot_law system (tableau_of c.args.self.now) _ c.args.leaving (side_of c.args.upper) c.args.entering of c.requires.can (returns-clause-done g c).1.0

pub index_mut-requires : goal.index_mut-requires
index_mut-requires g c =
    let v = g.N.Exact.value in
    let m = g.N.Exact.most in
    let d = c.self.inside in
    let I = c.args.leaving in
    let J = c.args.entering in
    let side = side_of c.args.upper in
    let basis = basis_of d.places.items in
    let R = rows_of v d.rows.items in
    let can = subst (λ d. CanPivot (tableau_of d) I side J) (sym c.self.view_is) c.requires.can in
    let u : d.usable ≡ true = subst (λ d. d.usable ≡ true) (sym c.self.view_is) c.requires.usable in
    let s : AreSparse basis R = c.self.invariant.0.sparse u in
    let many : length d.rows.items ≡ length basis = sym (rows-length v d.rows.items) ∙ s.long in
    let l = basic_below basis I can.basic in
    let n = basis-length d.places.items in
    let o = d.places.ok.0 in
    omega (arith, l, n, o)

pub index_mut-requires-2 : goal.index_mut-requires-2
index_mut-requires-2 g c =
    let v = g.N.Exact.value in
    let m = g.N.Exact.most in
    let d = c.self.inside in
    let I = c.args.leaving in
    let J = c.args.entering in
    let side = side_of c.args.upper in
    let basis = basis_of d.places.items in
    let R = rows_of v d.rows.items in
    let can = subst (λ d. CanPivot (tableau_of d) I side J) (sym c.self.view_is) c.requires.can in
    let u : d.usable ≡ true = subst (λ d. d.usable ≡ true) (sym c.self.view_is) c.requires.usable in
    let s : AreSparse basis R = c.self.invariant.0.sparse u in
    let many : length d.rows.items ≡ length basis = sym (rows-length v d.rows.items) ∙ s.long in
    let l = can.known in
    let n = basis-length d.places.items in
    let o = d.places.ok.0 in
    omega (arith, l, n, o)
