use Rattle.std.proofs.Common.{sym, ap, subst}
use Rattle.lp_model.specs.Program.{Program}
use Rattle.lp_model.specs.Edits.{IsKnownEdit}
use Rattle.report_text.proofs.Histories.{goes_on}
use Rattle.report_text.proofs.history.History.edit.Goals as goal

pub invariant_of-self-else-not-made : goal.invariant_of-self-else-not-made
invariant_of-self-else-not-made c =
    goes_on c.self.inside.model c.args.edit c.self.inside.formers.items _ c.edit_goes_back.ensures c.row_count-rows.ensures.well_formed (subst (λ (p : Program). IsKnownEdit p c.args.edit) (sym (ap (λ v. v.held.model) c.self.view_is)) c.requires.known) c.self.invariant c.keep.ensures.kept _ c.apply-made.ensures.made
