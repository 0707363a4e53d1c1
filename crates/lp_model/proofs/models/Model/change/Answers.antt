use Rattle.std.proofs.Common.{◌∙◌, sym, ap, subst}
use Rattle.lp_model.specs.Edits.{done, on_target, IsKnownTarget}
use Rattle.lp_model.proofs.Changed.{both_there}
use Rattle.lp_model.proofs.models.Model.change.Goals as goal

pub returns-in-BothSides-clause-made : goal.returns-in-BothSides-clause-made
returns-in-BothSides-clause-made c =
    c.change_both.ensures.made
    ∙ sym (both_there c.args.self.now c.in-BothSides.row c.args.change (subst (IsKnownTarget c.args.self.now) c.in-BothSides.is c.requires.known) c.requires.own)
    ∙ ap (on_target (done c.args.change) c.args.self.now) (sym c.in-BothSides.is)
