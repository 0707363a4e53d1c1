use Rattle.std.proofs.Common.{◌∙◌, ap, map}
use Rattle.rational.specs.Rational.{neg_ℚ}
use Rattle.lp_model.specs.declared.members.Member.{Member}
use Rattle.certs.specs.Rows.{row_of}
use Rattle.certs.specs.System.{member_cost, terms_from}
use Rattle.relaxation.specs.Origins.{from_zero}
use Rattle.alt_polyhedron.specs.Forms.{rows_of}
use Rattle.alt_polyhedron.proofs.Terms.{system_made}
use Rattle.alt_polyhedron.proofs.systems.alternative_system.Goals as goal

pub returns : goal.returns
returns c =
    let model = c.args.model.now in
    let members = c.in_ok-members.members.items in
    system_made model c.args.set.now.members members c.in_ok-columns.columns.items (map row_of c.in_ok-rows.rows.items) c.in_ok-objective.objective
    c.in_ok-members.ensures.members
    (c.in_ok-columns.ensures ∙ ap (map (λ (m : Member). from_zero)) c.as_slice.ensures.value)
    (c.in_ok-rows.ensures ∙ ap (rows_of model) c.as_slice-2.ensures.value)
    (c.in_ok-objective.ensures ∙ ap (terms_from 0 (λ m. neg_ℚ (member_cost model m))) c.as_slice-3.ensures.value)
