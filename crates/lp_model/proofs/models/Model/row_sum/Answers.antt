use Rattle.std.proofs.Common.{ap, sym, subst, ◌∙◌}
use Rattle.lp_model.specs.Program.{NamedRow}
use Rattle.lp_model.specs.Shown.{IsKept}
use Rattle.lp_model.proofs.Held.{known_terms}
use Rattle.lp_model.proofs.models.Model.row_sum.Goals as goal

pub value_of-requires : goal.value_of-requires
value_of-requires c =
    known_terms c.args.self.now c.args.index _ c.as_slice.result.now (subst IsKept c.self.view_is c.self.invariant) c.requires.in_range c.requires.counted
    (c.as_slice.ensures ∙ sym (ap (λ (r : NamedRow). r.terms) c.row.ensures))
