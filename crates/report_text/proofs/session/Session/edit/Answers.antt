use Rattle.std.proofs.Common.{◌≡◌, sym, ap, subst, true}
use Rattle.lp_model.specs.declared.edits.Edit.{Edit}
use Rattle.report_text.specs.History.{HistoryValue, IsEdited}
use Rattle.report_text.proofs.Taken.{edits_by}
use Rattle.report_text.proofs.session.Session.edit.Goals as goal

edited_so : (inside old : HistoryValue) (asked edit : Edit) (new : HistoryValue) → inside ≡ old → asked ≡ edit → IsEdited inside asked true new → IsEdited old edit true new
edited_so inside old asked edit new view is h = subst (λ v. IsEdited v edit true new) view (subst (λ e. IsEdited inside e true new) is h)

pub returns-then-edit-clause-edited : goal.returns-then-edit-clause-edited
returns-then-edit-clause-edited c =
    edits_by c.args.self.now.held c.args.edit.now c.in-Some.index (sym c.in-Some.ensures.place) c.in-Some.ensures.within c.edit.new.self.held
    (edited_so c.self.inside.history.held c.args.self.now.held c.edit_at.result _ c.edit.new.self.held (ap (λ v. v.held) c.self.view_is) c.edit_at.ensures c.if-edit.ensures.edited)
