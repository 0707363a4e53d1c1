-- Calls take a session from what commands made of a program to what one command more makes of it.
use Rattle.std.proofs.Common.{◌≡◌, ◌<◌, refl, sym, ◌∙◌, ap, subst, ℕ, Bool, true, false, true≢false, cond, List, [], ◌∷◌, ◌++◌, length, arith, Option, Some, None, option_map, Result, Ok, Err, is_ok}
use Rattle.std.specs.Prelude.{option_to_list}
use Rattle.lp_model.specs.Program.{Program}
use Rattle.lp_model.specs.declared.edits.Edit.{Edit}
use Rattle.lp_model.specs.declared.edits.Former.{Former}
use Rattle.lp_model.specs.Edits.{edited, former_of, IsKnownEdit}
use Rattle.lp_model.proofs.TakenBack.{back_law}
use Rattle.report_text.specs.History.{HistoryValue, Make, changes, without_last, standing, history_of, IsEdited, IsUndone, IsUndoneOf}
use Rattle.report_text.proofs.Changing.{one_edit}
use Rattle.report_text.proofs.Histories.{IsAlong, undone_along}
use Rattle.report_text.specs.declared.report.Command.{Command}
use Rattle.report_text.specs.declared.report.NamedEdit.{NamedEdit}
use Rattle.report_text.specs.declared.report.Refusal.{Refusal}
use Rattle.report_text.specs.declared.report.Answer.TheVariants.{Done, Refused}
use Rattle.report_text.specs.Edits.{edit_at, names_row, place_of, named_edit, edit_answer, undo_answer}
use Rattle.report_text.specs.Turns.{actions_of, after, edits_after, answer_after}
use Rattle.report_text.specs.declared.session.EditStop.{EditStop}
use Rattle.report_text.specs.declared.session.UndoStop.{UndoStop}
use Rattle.report_text.specs.Session.{session_at, EditsBy, IsPlaceIn, UndoesBy, Takes}
use Rattle.report_text.proofs.Unchanged.{same_names, named_edit_same}
use Rattle.report_text.proofs.Standing.{edits_after-push, session_along, known_at, named_known}

-- ---- the edit of the row or column that was found
named_here : (model : Program) (e : NamedEdit) (i : ℕ) → place_of model (names_row e.kind) e.name ≡ Some i → named_edit model e ≡ Some (edit_at e.kind i)
named_here model e i is = ap (option_map (edit_at e.kind)) is

module _ (old : HistoryValue) (e : NamedEdit) (i : ℕ) (found : place_of old.model (names_row e.kind) e.name ≡ Some i) (there : IsPlaceIn old.model (names_row e.kind) i) (new : HistoryValue) where
  pub edits_by : IsEdited old (edit_at e.kind i) true new → EditsBy old e (Ok tt) new
  edits_by h = (edit_at e.kind i, (named_here old.model e i found, ((one_edit back_law old.model (edit_at e.kind i) (known_at old.model e.kind i there)).1 h.0, h.1)))

  pub edits_nothing : IsEdited old (edit_at e.kind i) false new → EditsBy old e (Err EditStop.NoChange) new
  edits_nothing h = (edit_at e.kind i, (named_here old.model e i found, (h.0, h.1)))

-- ---- what becomes of the session after commands
-- what does nothing to the edits that stand
pub session_stays : (first : Program) (before : List Command) (c : Command) → standing first (edits_after first before) (actions_of first c) ≡ edits_after first before → session_at first before ≡ session_at first (before ++ c ∷ [])
session_stays first before c e = ap (history_of first) (sym e ∙ sym (edits_after-push first before c))

-- the edit that is named is the same before and after other edits
module _ (first : Program) (before : List Command) (old : HistoryValue) (is : old ≡ session_at first before) (e : NamedEdit) where
  model_is : old.model ≡ after first before
  model_is = ap (λ (v : HistoryValue). v.model) is

  named_is : named_edit first e ≡ named_edit old.model e
  named_is = sym (named_edit_same first (after first before) (same_names first before) e) ∙ ap (λ p. named_edit p e) (sym model_is)

  -- an unknown name
  unknown_stays : named_edit old.model e ≡ None → standing first (edits_after first before) (actions_of first (Command.Edit e)) ≡ edits_after first before
  unknown_stays none = ap (λ (o : Option Edit). standing first (edits_after first before) (option_to_list (option_map Make o))) (named_is ∙ none)

  unknown_answer : named_edit old.model e ≡ None → answer_after first before (Command.Edit e) ≡ Some (Refused Refusal.UnknownName)
  unknown_answer none = ap (λ o. Some (edit_answer (after first before) o)) (named_is ∙ none)

  -- an edit that was made, or one that makes no other program
  module _ (edit : Edit) (named : named_edit old.model e ≡ Some edit) (b : Bool) (makes : changes (after first before) edit ≡ b) where
    edit_stands : standing first (edits_after first before) (actions_of first (Command.Edit e)) ≡ cond b (edit ∷ edits_after first before) (edits_after first before)
    edit_stands =
        ap (λ (o : Option Edit). standing first (edits_after first before) (option_to_list (option_map Make o))) (named_is ∙ named)
        ∙ ap (λ t. cond t (edit ∷ edits_after first before) (edits_after first before)) makes

    edit_answers : answer_after first before (Command.Edit e) ≡ Some (cond b Done (Refused Refusal.NoChange))
    edit_answers = ap (λ o. Some (edit_answer (after first before) o)) (named_is ∙ named) ∙ ap (λ t. Some (cond t Done (Refused Refusal.NoChange))) makes

-- one that makes the same program does not make another
no_other : (model : Program) (edit : Edit) (b : Bool) → IsKnownEdit model edit → edited model edit ≡ model → changes model edit ≡ b → changes model edit ≡ false
no_other model edit true known same e = absurd ((one_edit back_law model edit known).0 e same)
no_other model edit false known same e = e

-- ---- an edit is taken
pub edit_taken : (old : HistoryValue) (e : NamedEdit) (new : HistoryValue) → EditsBy old e (Ok tt) new → Takes old (Command.Edit e) (Some Done) new
edit_taken old e new h = record {
  goes_on = λ first before is.
      let makes : changes (after first before) h.0 ≡ true = subst (λ p. changes p h.0 ≡ true) (model_is first before old is e) h.1.1.0 in
      h.1.1.1
      ∙ ap (λ (v : HistoryValue). record { model = edited v.model h.0; formers = former_of v.model h.0 ∷ v.formers }) is
      ∙ ap (history_of first) (sym (edits_after-push first before (Command.Edit e) ∙ edit_stands first before old is e h.0 h.1.0 true makes));
  answers = λ first before is. sym (edit_answers first before old is e h.0 h.1.0 true (subst (λ p. changes p h.0 ≡ true) (model_is first before old is e) h.1.1.0));
}

pub unknown_taken : (old : HistoryValue) (e : NamedEdit) (new : HistoryValue) → EditsBy old e (Err EditStop.UnknownName) new → Takes old (Command.Edit e) (Some (Refused Refusal.UnknownName)) new
unknown_taken old e new h = record {
  goes_on = λ first before is. h.1 ∙ is ∙ session_stays first before (Command.Edit e) (unknown_stays first before old is e h.0);
  answers = λ first before is. sym (unknown_answer first before old is e h.0);
}

pub same_taken : (old : HistoryValue) (e : NamedEdit) (new : HistoryValue) → EditsBy old e (Err EditStop.NoChange) new → Takes old (Command.Edit e) (Some (Refused Refusal.NoChange)) new
same_taken old e new h =
    let none : changes old.model h.0 ≡ false = no_other old.model h.0 (changes old.model h.0) (named_known old.model e h.0 h.1.0) h.1.1.0 refl in
    record {
      goes_on = λ first before is.
          h.1.1.1 ∙ is ∙ session_stays first before (Command.Edit e) (edit_stands first before old is e h.0 h.1.0 false (subst (λ p. changes p h.0 ≡ false) (model_is first before old is e) none));
      answers = λ first before is. sym (edit_answers first before old is e h.0 h.1.0 false (subst (λ p. changes p h.0 ≡ false) (model_is first before old is e) none));
    }

-- ---- an undo is taken
undone_by : (first : Program) (edits : List Edit) (was : Bool) (new : HistoryValue) → IsUndone (history_of first edits) was new → Some (cond was Done (Refused Refusal.NothingToUndo)) ≡ Some (undo_answer edits)
undone_by first [] was new h = ap (λ b. Some (cond b Done (Refused Refusal.NothingToUndo))) h.0
undone_by first (edit ∷ edits) was new h = ap (λ b. Some (cond b Done (Refused Refusal.NothingToUndo))) h.0

undo_taken_by : (old : HistoryValue) (was : Bool) (new : HistoryValue) → IsUndone old was new → Takes old Command.Undo (Some (cond was Done (Refused Refusal.NothingToUndo))) new
undo_taken_by old was new h = record {
  goes_on = λ first before is.
      (undone_along back_law first (edits_after first before) old was new (subst (IsAlong first (edits_after first before)) (sym is) (session_along first before)) h).is
      ∙ ap (history_of first) (sym (edits_after-push first before Command.Undo));
  answers = λ first before is. undone_by first (edits_after first before) was new (subst (λ v. IsUndone v was new) is h);
}

pub undo_taken : (old new : HistoryValue) → UndoesBy old (Ok tt) new → Takes old Command.Undo (Some Done) new
undo_taken old new h = undo_taken_by old true new h

pub nothing_undone : (old new : HistoryValue) (stop : UndoStop) → UndoesBy old (Err stop) new → Takes old Command.Undo (Some (Refused Refusal.NothingToUndo)) new
nothing_undone old new UndoStop.NothingToUndo h = undo_taken_by old false new h

-- ---- all is taken back
-- some edits of the program stand
pub record StandsOn (first : Program) (value : HistoryValue) : Type 0 where
  pub edits : List Edit
  pub along : IsAlong first edits value

pub stands_after : (first : Program) (before : List Command) (value : HistoryValue) → value ≡ session_at first before → StandsOn first value
stands_after first before value is = subst (StandsOn first) (sym is) (record { edits = edits_after first before; along = session_along first before })

pub stands_undone : (first : Program) (old : HistoryValue) (was : Bool) (new : HistoryValue) → StandsOn first old → IsUndone old was new → StandsOn first new
stands_undone first old was new h undone = record { edits = without_last h.edits; along = undone_along back_law first h.edits old was new h.along undone }

-- an undo tells whether it finds an edit
pub undone_is : (old : HistoryValue) (r : Result (Unit {0}) UndoStop) (was : Bool) (new : HistoryValue) → was ≡ is_ok r → UndoesBy old r new → IsUndone old was new
undone_is old (Ok done) was new e h = subst (λ b. IsUndone old b new) (sym e) h
undone_is old (Err UndoStop.NothingToUndo) was new e h = subst (λ b. IsUndone old b new) (sym e) h

-- where it finds nothing, none stands
no_edits_left : (first : Program) (edits : List Edit) (new : HistoryValue) → IsUndone (history_of first edits) false new → new ≡ history_of first []
no_edits_left first [] new h = h.1
no_edits_left first (edit ∷ edits) new h = absurd (true≢false (sym h.0))

pub none_left : (first : Program) (old new : HistoryValue) → StandsOn first old → IsUndone old false new → new ≡ history_of first []
none_left first old new h undone = no_edits_left first h.edits new (subst (λ v. IsUndone v false new) h.along.is undone)

-- and where it finds something, one less is kept
fewer_formers : (model : Program) (formers : List Former) (new : HistoryValue) → IsUndoneOf model formers true new → length new.formers < length formers
fewer_formers model [] new h = absurd (true≢false h.0)
fewer_formers model (former ∷ formers) new h = let same : length new.formers ≡ length formers = ap (λ (v : HistoryValue). length v.formers) h.1 in omega arith

pub fewer_left : (old new : HistoryValue) → IsUndone old true new → length new.formers < length old.formers
fewer_left old new h = fewer_formers old.model old.formers new h
