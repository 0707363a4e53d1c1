use Rattle.std.proofs.Common.{◌≡◌, ◌<◌, true, List, [], ◌++◌, length, get_or, set, take, drop, map, refl, sym, ◌∙◌, ap, subst, arith}
use Rattle.std.proofs.lemmas.Grind.{common_steps}
use Rattle.std.proofs.lemmas.List.{map-set, length-set, get_or_read, get_or-set_other}
use Rattle.certs.specs.System.Place.{AtZero}
use Rattle.certs.specs.System.{Place}
use Rattle.certs.specs.Turns.{other_place}
use Rattle.certs.specs.Tableau.{Tableau, IsTableauOf}
use Rattle.std.specs.Prelude.{All, slice_index_or}
use Rattle.rational.specs.Linear.{factor_of}
use Rattle.std.specs.Option.{option_map}
use Rattle.dictionary.specs.Rows.{bounds_of, rows_of, terms_of, IsRow}
use Rattle.certs.proofs.Tableaus.{flip_law}
use Rattle.dictionary.specs.declared.places.Place.TheVariants.{Basic as IsBasic}
use Rattle.dictionary.specs.Layouts.{basis_of, place_of_code}
use Rattle.dictionary.specs.Sound.{AreForgotten, AreValues, IsSound}
use Rattle.dictionary.specs.Value.{table_of, tableau_of}
use Rattle.dictionary.proofs.Kept.{values_stay}
use Rattle.dictionary.proofs.Sounds.{sound_same, turned_basic}
use Rattle.dictionary.proofs.Standing.{basis_at, basis-length}
use Rattle.dictionary.proofs.Tables.{rows_at, rows-length, sparse_row}
use Rattle.dictionary.proofs.Terms.{refilled}
use Rattle.dictionary.proofs.dictionaries.Dictionary.flip.Goals as goal

pub invariant_of-self : goal.invariant_of-self
invariant_of-self g c =
    let d = c.self.inside in
    let k = c.args.nonbasic in
    let basis = basis_of d.places.items in
    let l : k < length basis = subst (λ d. k < length d.basis) (sym c.self.view_is) c.requires.known in
    let lp : k < length d.places.items = subst (λ n. k < n) (basis-length d.places.items) l in
    let read : c.index.result.now ≡ get_or d.places.items k IsBasic = get_or_read d.places.items k c.index.result.now lp c.index.ensures IsBasic in
    let p : place_of_code c.other_limit.result ≡ other_place (get_or basis k AtZero) = c.other_limit.ensures ∙ ap (λ q. other_place (place_of_code q)) read ∙ ap other_place (sym (basis_at d.places.items k lp)) in
    let e = map-set place_of_code d.places.items k c.other_limit.result in
    let next = set basis k (place_of_code c.other_limit.result) in
    let v = g.N.Exact.value in
    let R = rows_of v d.rows.items in
    let values = c.forget.new.values in
    let filled : take d.values.len (values ++ drop (length values) d.values.items) ≡ values =
    refilled values d.values.items d.values.len (c.forget.auto.values ∙ ap length c.deref_mut.ensures.value ∙ sym d.values.ok.0) in
    let basic = turned_basic basis k (place_of_code c.other_limit.result) l p in
    let long = length-set basis k (place_of_code c.other_limit.result) in
    let rows : rows_of v c.deref.result.now ≡ R = ap (rows_of v) c.deref.ensures.value in
    subst (λ b. IsSound (length d.bounds.items) b R d.objective d.usable × (d.usable ≡ true → AreValues g.N.Exact.most v (table_of (bounds_of v d.bounds.items) d.objective b R) (take d.values.len (values ++ drop (length values) d.values.items)))) (sym e) (
      sound_same (length d.bounds.items) basis next R d.objective d.usable long basic c.self.invariant.0,
      λ u. values_stay g.N.Exact.most (bounds_of v d.bounds.items) d.objective basis next R R k (c.self.invariant.0.sparse u) long
          (λ w n a. get_or-set_other basis k w (place_of_code c.other_limit.result) AtZero a)
          (λ w b a. (basic w ∙ b, λ z. refl)) v d.values.items _
          (rw filled (subst (λ r. AreForgotten r k d.values.items values) rows (subst (λ o. AreForgotten (rows_of v c.deref.result.now) k o values) c.deref_mut.ensures.value c.forget.ensures)))
          (c.self.invariant.1 u),
    )

pub forget-requires : goal.forget-requires
forget-requires g c =
    let v = g.N.Exact.value in
    let d = c.self.inside in
    let u = subst (λ d. d.usable ≡ true) (sym c.self.view_is) c.requires.usable in
    let s = c.self.invariant.0.sparse u in
    record {
      rows = subst (All (λ r. IsRow (terms_of v r.items))) (sym c.deref.ensures.value) (λ k e l. subst IsRow (rows_at v d.rows.items k e l) (sparse_row (basis_of d.places.items) (rows_of v d.rows.items) s k));
      long = ap length c.deref_mut.ensures.value ∙ (c.self.invariant.1 u).long ∙ sym s.long ∙ rows-length v d.rows.items ∙ ap length (sym c.deref.ensures.value);
    }

pub returns-clause-turned : goal.returns-clause-turned
returns-clause-turned g c =
    let d = c.self.inside in
    let k = c.args.nonbasic in
    let basis = basis_of d.places.items in
    let l : k < length basis = subst (λ d. k < length d.basis) (sym c.self.view_is) c.requires.known in
    let lp : k < length d.places.items = subst (λ n. k < n) (basis-length d.places.items) l in
    let read : c.index.result.now ≡ get_or d.places.items k IsBasic = get_or_read d.places.items k c.index.result.now lp c.index.ensures IsBasic in
    let p : place_of_code c.other_limit.result ≡ other_place (get_or basis k AtZero) = c.other_limit.ensures ∙ ap (λ q. other_place (place_of_code q)) read ∙ ap other_place (sym (basis_at d.places.items k lp)) in
    let e = map-set place_of_code d.places.items k c.other_limit.result ∙ ap (set basis k) p in
    let v = g.N.Exact.value in
    let T : List Place → Tableau =
    λ b. record {
      limits = map (λ b. record { lower = option_map v b.lower; upper = option_map v b.upper }) d.bounds.items;
      objective = d.objective;
      basis = b;
      factor = λ i k. factor_of (slice_index_or (rows_of v d.rows.items) i []) k;
    } in
    rw (← c.self.view_is) (ap T e)

pub returns-clause-system : goal.returns-clause-system
returns-clause-system g c = λ system of. subst (IsTableauOf system) (sym (returns-clause-turned g c)) (flip_law system (tableau_of c.args.self.now) c.args.nonbasic of c.requires.nonbasic c.requires.lower c.requires.upper)

pub index-requires : goal.index-requires
index-requires g c = grind (arith, common_steps)

pub other_limit-requires : goal.other_limit-requires
other_limit-requires g c = grind (arith, common_steps)

pub index_mut-requires : goal.index_mut-requires
index_mut-requires g c = grind (arith, common_steps)

pub returns-clause-columns : goal.returns-clause-columns
returns-clause-columns g c = grind (arith, common_steps)

pub returns-clause-usable : goal.returns-clause-usable
returns-clause-usable g c = grind (arith, common_steps)
