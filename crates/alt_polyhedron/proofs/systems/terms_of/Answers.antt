use Rattle.std.proofs.Common.{◌++◌, sym, ◌∙◌, ap, get_or}
use Rattle.lp_model.specs.declared.members.Member.TheVariants.{RowLo}
use Rattle.alt_polyhedron.specs.Forms.{count_by, term_by}
use Rattle.alt_polyhedron.proofs.Terms.{terms_more}
use Rattle.alt_polyhedron.proofs.systems.terms_of.Goals as goal

pub loop-variable-preserved : goal.loop-variable-preserved
loop-variable-preserved c =
    let f = count_by c.args.model.now c.args.form in
    let members = c.args.members.now in
    let i = c.loop-variable.variable in
    c.in_ok-push_term.ensures
    ∙ ap (λ q. c.loop-variable.terms.items ++ term_by i q) c.count.ensures
    ∙ ap (λ z. z ++ term_by i (f (get_or members i (RowLo 0)))) c.loop-variable.invariant
    ∙ sym (terms_more f members i (RowLo 0) c.loop-variable-test.true)
