use Rattle.std.proofs.Common.{◌≡◌, ◌+◌, refl, sym, ◌∙◌, ap, subst, length, arith}
use Rattle.std.specs.Prelude.{All}
use Rattle.frac128.specs.Limit.{limit}
use Rattle.certs.specs.declared.evidence.Share.{Share}
use Rattle.certs.specs.Combination.{IsFrom}
use Rattle.certs.specs.System.{LinearSystem, alternative_system, bounding}
use Rattle.certs.proofs.Feasible.{limited_is}
use Rattle.alt_polyhedron.proofs.Variables.{system_columns}
use Rattle.dictionary.specs.Value.{tableau_of}
use Rattle.simplex.specs.Duals.{objective_multiple}
use Rattle.unbounded.proofs.Settled.{narrow_values, settled}
use Rattle.alt_polyhedron.specs.Reading.{IsPriceRead}
use Rattle.alt_polyhedron.proofs.Least.{TableLaws, cheapest_set, shares_are, shares_of_set}
use Rattle.alt_polyhedron.proofs.Ending.{size_is}
use Rattle.alt_polyhedron.proofs.pricing.cheapest_at.Goals as goal

pub point_of-requires-clause-columns : goal.point_of-requires-clause-columns
point_of-requires-clause-columns c =
    let model = c.args.model.now in
    let set = c.args.set.now.members in
    let system : LinearSystem = alternative_system model set in
    let now = c.args.dictionary.now in
    let all = limited_is system (tableau_of now) c.requires.stands.is_of in
    let count = c.requires.columns in
    let first = system_columns model set in
    omega (arith, all, count, first)

pub point_of-requires-clause-settled : goal.point_of-requires-clause-settled
point_of-requires-clause-settled c = settled (alternative_system c.args.model.now c.args.set.now.members) (tableau_of c.args.dictionary.now) c.requires.stands.is_of c.requires.stands.within

pub point_of-requires-clause-narrow : goal.point_of-requires-clause-narrow
point_of-requires-clause-narrow c =
    narrow_values (alternative_system c.args.model.now c.args.set.now.members) (tableau_of c.args.dictionary.now) c.requires.stands.is_of c.requires.stands.within limit c.requires.stands.ended.1.1

pub support-requires : goal.support-requires
support-requires c =
    ap length c.as_slice-2.ensures ∙ c.in_ok-values.ensures.values.0 ∙ c.requires.columns ∙ sym (ap length (c.as_slice.ensures.value ∙ c.in_ok-members.ensures.members))

pub used_members-requires : goal.used_members-requires
used_members-requires c =
    let model = c.args.model.now in
    let set = c.args.set.now.members in
    let now = c.args.dictionary.now in
    let laws : TableLaws = record { terms = c.tableau_is_table.ensures; last = c.last_table_is_irreducible.ensures; cheapest = c.last_table_is_cheapest.ensures } in
    let formed = c.row_count-rows.ensures.well_formed in
    let combo = c.in_ok-combo.combo in
    let is =
    shares_are laws model set now formed c.requires.stands c.as_slice.result.now c.as_slice-2.result.now c.in_ok-values.values.values combo.shares
    c.in_ok-combo.ensures (c.as_slice.ensures.value ∙ c.in_ok-members.ensures.members) c.as_slice-2.ensures c.in_ok-values.ensures.values.1 c.requires.columns in
    subst (All (λ (s : Share). IsFrom set s.source)) (sym is) (shares_of_set laws model set now formed c.requires.stands)

pub total_of-total-requires-clause-rows : goal.total_of-total-requires-clause-rows
total_of-total-requires-clause-rows c =
    let size = size_is c.tableau_is_table.ensures c.args.model.now c.args.set.now.members c.args.dictionary.now c.requires.stands in
    let first = c.requires.columns in
    let count = c.column_count.ensures.count in
    omega (arith, size, first, count)

pub price_of-requires-clause-rows : goal.price_of-requires-clause-rows
price_of-requires-clause-rows c =
    let size = size_is c.tableau_is_table.ensures c.args.model.now c.args.set.now.members c.args.dictionary.now c.requires.stands in
    let first = c.requires.columns in
    let count = c.column_count-2.ensures.count in
    omega (arith, size, first, count)

pub returns : goal.returns
returns c =
    let model = c.args.model.now in
    let set = c.args.set.now.members in
    let now = c.args.dictionary.now in
    let laws : TableLaws = record { terms = c.tableau_is_table.ensures; last = c.last_table_is_irreducible.ensures; cheapest = c.last_table_is_cheapest.ensures } in
    let formed = c.row_count-rows.ensures.well_formed in
    let combo = c.in_ok-combo.combo in
    let price = c.in_ok-price.price in
    let t = tableau_of now in
    let is =
    shares_are laws model set now formed c.requires.stands c.as_slice.result.now c.as_slice-2.result.now c.in_ok-values.values.values combo.shares
    c.in_ok-combo.ensures (c.as_slice.ensures.value ∙ c.in_ok-members.ensures.members) c.as_slice-2.ensures c.in_ok-values.ensures.values.1 c.requires.columns in
    let sum : c.total_of-total.result ≡ objective_multiple t (length (bounding model set) + length model.columns) =
    c.total_of-total.ensures
    ∙ ap (λ k. objective_multiple t (k + c.column_count.result)) c.requires.columns
    ∙ ap (λ k. objective_multiple t (length (bounding model set) + k)) c.column_count.ensures.count in
    let read : IsPriceRead t (length (bounding model set)) (length model.columns) price.values =
    subst (λ k. IsPriceRead t (length (bounding model set)) k price.values) c.column_count-2.ensures.count
    (subst (λ k. IsPriceRead t k c.column_count-2.result price.values) c.requires.columns c.in_ok-price.ensures) in
    cheapest_set laws model set now formed c.requires.stands c.args.set.now c.in_ok-used.used combo c.total_of-total.result price refl c.requires.same c.stands_in_order.ensures.in_order is c.in_ok-used.ensures sum read
