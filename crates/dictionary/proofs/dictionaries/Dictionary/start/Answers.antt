use Rattle.std.proofs.Common.{◌≡◌, ◌+◌, ◌≤◌, refl, sym, ◌∙◌, ap, subst, ℕ, [], length, map, is_some, cond, true, arith}
use Rattle.std.proofs.lemmas.Grind.{common_steps}
use Rattle.std.specs.Prelude.{All, slice_index_or}
use Rattle.std.specs.Option.{option_map}
use Rattle.rational.specs.Linear.{factor_of}
use Rattle.lp_model.specs.declared.parts.Row.{Row}
use Rattle.certs.specs.Rows.{row_of}
use Rattle.certs.specs.System.{Limits, SystemRow, LinearSystem}
use Rattle.certs.specs.Tableau.{all_limits, start_basis, IsTableauOf, IsWellFormedSystem}
use Rattle.certs.proofs.Starts.{length_limits}
use Rattle.dictionary.specs.declared.places.Bounds.{Bounds}
use Rattle.dictionary.specs.Layouts.{basis_of}
use Rattle.dictionary.specs.Rows.{rows_of}
use Rattle.dictionary.specs.Sound.{IsSound}
use Rattle.dictionary.specs.Starts.{FitSystem, FitLimits, FitForm}
use Rattle.dictionary.proofs.Begins.{rows, start_is_sound, start_is_of, limits_made, basis_made, bounds_many, rows_made}
use Rattle.dictionary.proofs.Formed.{unmapped}
use Rattle.dictionary.proofs.Kept.{none_kept}
use Rattle.dictionary.proofs.Standing.{basis-length}
use Rattle.dictionary.proofs.dictionaries.Dictionary.start.Goals as goal

pub all_bounds-requires-clause-rows : goal.all_bounds-requires-clause-rows
all_bounds-requires-clause-rows g c =
    let fit = subst (FitSystem g.N.Exact.most) (sym c.system.view_is) c.requires.fits in
    subst (All (λ (r : Row). FitLimits g.N.Exact.most (row_of r).limits)) (sym c.deref-2.ensures.value) (unmapped (λ (r : SystemRow). FitLimits g.N.Exact.most r.limits) row_of c.system.inside.rows.items fit.row_limits)

pub start_places-requires : goal.start_places-requires
start_places-requires g c =
    let v = g.N.Exact.value in
    let d = c.system.inside in
    let S : LinearSystem = record { columns = d.columns.items; rows = map row_of d.rows.items; objective = d.objective } in
    let view : Bounds _ → Limits = λ b. record { lower = option_map v b.lower; upper = option_map v b.upper } in
    let many : c.len-columns.result ≡ length d.columns.items = c.len-columns.ensures ∙ d.columns.ok.0 in
    let limits : map view c.in_ok-bounds.bounds.items ≡ all_limits S = limits_made S d.columns.items d.rows.items d.objective _ c.deref.result.now c.deref-2.result.now c.is_some.result refl c.deref.ensures.value c.deref-2.ensures.value c.is_some.ensures c.in_ok-bounds.ensures in
    let bounded = bounds_many S view c.in_ok-bounds.bounds.items limits in
    at_most _ _ (length S.columns) (length S.rows + cond (is_some S.objective) 1 0) many (ap length c.deref-3.ensures.value ∙ bounded)
  where
    at_most : (a b n k : ℕ) → a ≡ n → b ≡ n + k → a ≤ b
    at_most a b n k e f = omega arith

pub start_rows-requires-clause-fits : goal.start_rows-requires-clause-fits
start_rows-requires-clause-fits g c =
    let d = c.system.inside in
    let S : LinearSystem = record { columns = d.columns.items; rows = map row_of d.rows.items; objective = d.objective } in
    let fit : FitSystem g.N.Exact.most S = subst (FitSystem g.N.Exact.most) (sym c.system.view_is) c.requires.fits in
    subst (All (λ (r : Row). FitForm g.N.Exact.most r.terms)) (sym c.deref-4.ensures.value) (unmapped (λ (r : SystemRow). FitForm g.N.Exact.most r.terms) row_of d.rows.items fit.row_forms)

pub invariant_of-result : goal.invariant_of-result
invariant_of-result g c =
    let v = g.N.Exact.value in
    let d = c.system.inside in
    let S : LinearSystem = record { columns = d.columns.items; rows = map row_of d.rows.items; objective = d.objective } in
    let view : Bounds _ → Limits = λ b. record { lower = option_map v b.lower; upper = option_map v b.upper } in
    let many : c.len-columns.result ≡ length d.columns.items = c.len-columns.ensures ∙ d.columns.ok.0 in
    let limits : map view c.in_ok-bounds.bounds.items ≡ all_limits S = limits_made S d.columns.items d.rows.items d.objective _ c.deref.result.now c.deref-2.result.now c.is_some.result refl c.deref.ensures.value c.deref-2.ensures.value c.is_some.ensures c.in_ok-bounds.ensures in
    let bounded = bounds_many S view c.in_ok-bounds.bounds.items limits in
    let basis : basis_of c.in_ok-places.places.items ≡ start_basis S = basis_made S view c.in_ok-bounds.bounds.items c.deref-3.result.now c.len-columns.result _ c.deref-3.ensures.value limits many c.in_ok-places.ensures in
    let made : rows_of v c.in_ok-rows.rows.items ≡ rows S = rows_made S _ c.len-columns.result c.deref-4.result.now d.rows.items d.objective d.columns.items refl c.deref-4.ensures.value many c.in_ok-rows.ensures in
    let formed : IsWellFormedSystem S = subst IsWellFormedSystem (sym c.system.view_is) c.requires.formed in
    let fit : FitSystem g.N.Exact.most S = subst (FitSystem g.N.Exact.most) (sym c.system.view_is) c.requires.fits in
    let places = c.in_ok-places.places in (
      subst (λ b. IsSound (length c.in_ok-bounds.bounds.items) b (rows_of v c.in_ok-rows.rows.items) c.is_some-2.result true) (sym basis)
          (subst (λ r. IsSound (length c.in_ok-bounds.bounds.items) (start_basis S) r c.is_some-2.result true) (sym made)
          (start_is_sound S formed (length c.in_ok-bounds.bounds.items) c.is_some-2.result (bounded ∙ sym (length_limits S)) fit.few c.is_some-2.ensures)),
      λ u. none_kept g.N.Exact.most v _ c.in_ok-values.values.items c.len.result c.in_ok-values.ensures (c.len.ensures ∙ places.ok.0 ∙ sym (basis-length places.items)),
    )

pub returns : goal.returns
returns g c =
    let v = g.N.Exact.value in
    let d = c.system.inside in
    let S : LinearSystem = record { columns = d.columns.items; rows = map row_of d.rows.items; objective = d.objective } in
    let view : Bounds _ → Limits = λ b. record { lower = option_map v b.lower; upper = option_map v b.upper } in
    let many : c.len-columns.result ≡ length d.columns.items = c.len-columns.ensures ∙ d.columns.ok.0 in
    let limits : map view c.in_ok-bounds.bounds.items ≡ all_limits S = limits_made S d.columns.items d.rows.items d.objective _ c.deref.result.now c.deref-2.result.now c.is_some.result refl c.deref.ensures.value c.deref-2.ensures.value c.is_some.ensures c.in_ok-bounds.ensures in
    let bounded = bounds_many S view c.in_ok-bounds.bounds.items limits in
    let basis : basis_of c.in_ok-places.places.items ≡ start_basis S = basis_made S view c.in_ok-bounds.bounds.items c.deref-3.result.now c.len-columns.result _ c.deref-3.ensures.value limits many c.in_ok-places.ensures in
    let made : rows_of v c.in_ok-rows.rows.items ≡ rows S = rows_made S _ c.len-columns.result c.deref-4.result.now d.rows.items d.objective d.columns.items refl c.deref-4.ensures.value many c.in_ok-rows.ensures in
    let formed : IsWellFormedSystem S = subst IsWellFormedSystem (sym c.system.view_is) c.requires.formed in
    let fit : FitSystem g.N.Exact.most S = subst (FitSystem g.N.Exact.most) (sym c.system.view_is) c.requires.fits in
    rw (← c.system.view_is) (
      subst (λ r. IsTableauOf S (record { limits = map view c.in_ok-bounds.bounds.items; objective = c.is_some-2.result; basis = basis_of c.in_ok-places.places.items; factor = λ i k. factor_of (slice_index_or r i []) k })) (sym made)
          (start_is_of S formed _ _ _ limits c.is_some-2.ensures basis),
      (basis, (many, refl)),
    )

pub all_bounds-requires-clause-columns : goal.all_bounds-requires-clause-columns
all_bounds-requires-clause-columns g c = grind (arith, common_steps)

pub overflow_cast-result : goal.overflow_cast-result
overflow_cast-result g c = grind (arith, common_steps)
