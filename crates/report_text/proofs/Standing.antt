-- Which edits stand after commands: each of them is of a row or column that there is, and keeps a program well formed.
use Rattle.std.proofs.Common.{◌≡◌, ◌<◌, refl, sym, ◌∙◌, ap, subst, ℕ, Bool, true, false, cond, List, [], ◌∷◌, ◌++◌, append-nil, Option, Some, None, option_map}
use Rattle.std.specs.Prelude.{All, flat_map, option_to_list, bytes_eq}
use Rattle.std.proofs.lemmas.Bool.{cond_both}
use Rattle.std.proofs.lemmas.Grind.{flat_map-append}
use Rattle.std.proofs.lemmas.List.{length-map}
use Rattle.std.proofs.lemmas.List.Elements.{All-nil, All-cons, All-head, All-tail}
use Rattle.std.proofs.lemmas.List.Quantifiers.{position-Some}
use Rattle.lp_model.specs.declared.parts.Weight.TheVariants.{Soft, Rigid}
use Rattle.lp_model.specs.Program.{Program, NamedRow, NamedColumn, IsWellFormed}
use Rattle.lp_model.specs.Shown.{row_names, column_names}
use Rattle.lp_model.specs.declared.members.Member.TheVariants.{RowLo, RowUp, Lower, Upper, Whole}
use Rattle.lp_model.specs.declared.edits.Target.{Target}
use Rattle.lp_model.specs.declared.edits.Target.TheVariants.{OneMember, BothSides}
use Rattle.lp_model.specs.declared.edits.Edit.{Edit}
use Rattle.lp_model.specs.declared.edits.Edit.TheVariants.{Drop, Keep, SetSide, SetBound, SetMark, Weigh}
use Rattle.lp_model.specs.Edits.{IsFitting, IsKnownTarget, IsKnownEdit}
use Rattle.lp_model.proofs.Edited.{edit_law}
use Rattle.lp_model.proofs.TakenBack.{back_law}
use Rattle.report_text.specs.History.{Action, Make, changes, after_edits, without_last, standing, formers_of}
use Rattle.report_text.proofs.Histories.{AreKnown, IsAlong}
use Rattle.report_text.specs.declared.report.Command.{Command}
use Rattle.report_text.specs.declared.report.TargetKind.{TargetKind}
use Rattle.report_text.specs.declared.report.EditKind.{EditKind}
use Rattle.report_text.specs.declared.report.NamedEdit.{NamedEdit}
use Rattle.report_text.specs.Edits.{edit_at, names_row, place_of, named_edit}
use Rattle.report_text.specs.Form.{IsCommand, IsNamedEdit, IsEditKind}
use Rattle.report_text.specs.Turns.{actions_of, after, edits_after}
use Rattle.report_text.specs.Session.{session_at, put_all_back, first_of, IsSessionAt, IsPlaceIn, SameNames}
use Rattle.report_text.proofs.Unchanged.{same_after_edits, rows_same, columns_same}

-- ---- commands one after another
standing-append : (start : Program) (edits : List Edit) (actions more : List Action) → standing start edits (actions ++ more) ≡ standing start (standing start edits actions) more
standing-append start edits [] more = refl
standing-append start edits (Make edit ∷ actions) more = standing-append start (cond (changes (after_edits start edits) edit) (edit ∷ edits) edits) actions more
standing-append start edits (Action.Undo ∷ actions) more = standing-append start (without_last edits) actions more

-- one command more does what it does to the edits that stand before it
pub edits_after-push : (first : Program) (before : List Command) (c : Command) → edits_after first (before ++ c ∷ []) ≡ standing first (edits_after first before) (actions_of first c)
edits_after-push first before c =
    ap (standing first []) (flat_map-append (actions_of first) before (c ∷ []) ∙ ap (λ l. flat_map (actions_of first) before ++ l) (append-nil (actions_of first c)))
    ∙ standing-append first [] (flat_map (actions_of first) before) (actions_of first c)

-- what holds of no edits, and stays where an edit is made and where one is taken back, holds of those that stand
module _ (first : Program) (Allowed : Command → Type 0) (Holds : List Edit → Type 0)
    (less : (edit : Edit) (edits : List Edit) → Holds (edit ∷ edits) → Holds edits)
    (more : (e : NamedEdit) (edit : Edit) (edits : List Edit) → Allowed (Command.Edit e) → named_edit first e ≡ Some edit → Holds edits → Holds (edit ∷ edits)) where
  holds_without : (edits : List Edit) → Holds edits → Holds (without_last edits)
  holds_without [] h = h
  holds_without (edit ∷ edits) h = less edit edits h

  holds_named : (e : NamedEdit) (named : Option Edit) (edits : List Edit) → Allowed (Command.Edit e) → named_edit first e ≡ named → Holds edits → Holds (standing first edits (option_to_list (option_map Make named)))
  holds_named e None edits allowed is h = h
  holds_named e (Some edit) edits allowed is h = cond_both (changes (after_edits first edits) edit) (edit ∷ edits) edits Holds (λ t. more e edit edits allowed is h) (λ t. h)

  holds_command : (c : Command) (edits : List Edit) → Allowed c → Holds edits → Holds (standing first edits (actions_of first c))
  holds_command (Command.Edit e) edits allowed h = holds_named e (named_edit first e) edits allowed refl h
  holds_command Command.Undo edits allowed h = holds_without edits h
  holds_command c edits allowed h = h

  holds_standing : (before : List Command) (edits : List Edit) → All Allowed before → Holds edits → Holds (standing first edits (flat_map (actions_of first) before))
  holds_standing [] edits allowed h = h
  holds_standing (c ∷ before) edits allowed h =
      subst Holds (sym (standing-append first edits (actions_of first c) (flat_map (actions_of first) before)))
      (holds_standing before (standing first edits (actions_of first c)) (All-tail Allowed c before allowed) (holds_command c edits (All-head Allowed c before allowed) h))

-- ---- each edit that stands is of a row or column that there is
target_known : (model : Program) (t : TargetKind) (i : ℕ) → IsPlaceIn model (names_row (EditKind.Drop t)) i → IsKnownEdit model (edit_at (EditKind.Drop t) i)
target_known model TargetKind.Row i h = h
target_known model TargetKind.RowLo i h = h
target_known model TargetKind.RowUp i h = h
target_known model TargetKind.Lower i h = h
target_known model TargetKind.Upper i h = h
target_known model TargetKind.Whole i h = h

pub known_at : (model : Program) (kind : EditKind) (i : ℕ) → IsPlaceIn model (names_row kind) i → IsKnownEdit model (edit_at kind i)
known_at model (EditKind.Drop t) i h = target_known model t i h
known_at model (EditKind.Keep t) i h = target_known model t i h
known_at model (EditKind.Weigh t w) i h = target_known model t i h
known_at model (EditKind.SetSide side v) i h = h
known_at model (EditKind.SetBound side v) i h = h
known_at model (EditKind.SetMark whole) i h = h

-- a name that is found stands at a row or column that there is
place_within : (model : Program) (of_row : Bool) (name : List ℕ) (i : ℕ) → place_of model of_row name ≡ Some i → IsPlaceIn model of_row i
place_within model true name i e = subst (λ n. i < n) (length-map model.rows (λ (r : NamedRow). r.name)) (position-Some (bytes_eq name) (row_names model) i [] e).0
place_within model false name i e = subst (λ n. i < n) (length-map model.columns (λ (c : NamedColumn). c.name)) (position-Some (bytes_eq name) (column_names model) i [] e).0

known_by : (model : Program) (kind : EditKind) (place : Option ℕ) (edit : Edit) → ((i : ℕ) → place ≡ Some i → IsPlaceIn model (names_row kind) i) → option_map (edit_at kind) place ≡ Some edit → IsKnownEdit model edit
known_by model kind None edit within e = absurd (let no : ⊥ = cc in no)
known_by model kind (Some i) edit within e = let same : edit_at kind i ≡ edit = cc in subst (IsKnownEdit model) same (known_at model kind i (within i refl))

pub named_known : (model : Program) (e : NamedEdit) (edit : Edit) → named_edit model e ≡ Some edit → IsKnownEdit model edit
named_known model e edit h = known_by model e.kind (place_of model (names_row e.kind) e.name) edit (place_within model (names_row e.kind) e.name) h

-- after edits as before them
known_target : (first model : Program) (same : SameNames first model) (target : Target) → IsKnownTarget first target → IsKnownTarget model target
known_target first model same (BothSides i) h = subst (λ n. i < n) (sym (rows_same first model same)) h
known_target first model same (OneMember (RowLo i)) h = subst (λ n. i < n) (sym (rows_same first model same)) h
known_target first model same (OneMember (RowUp i)) h = subst (λ n. i < n) (sym (rows_same first model same)) h
known_target first model same (OneMember (Lower j)) h = subst (λ n. j < n) (sym (columns_same first model same)) h
known_target first model same (OneMember (Upper j)) h = subst (λ n. j < n) (sym (columns_same first model same)) h
known_target first model same (OneMember (Whole j)) h = subst (λ n. j < n) (sym (columns_same first model same)) h

known_same : (first model : Program) (same : SameNames first model) (edit : Edit) → IsKnownEdit first edit → IsKnownEdit model edit
known_same first model same (Drop target) h = known_target first model same target h
known_same first model same (Keep target) h = known_target first model same target h
known_same first model same (Weigh target w) h = known_target first model same target h
known_same first model same (SetSide i side number) h = subst (λ n. i < n) (sym (rows_same first model same)) h
known_same first model same (SetBound j side number) h = subst (λ n. j < n) (sym (columns_same first model same)) h
known_same first model same (SetMark j whole) h = subst (λ n. j < n) (sym (columns_same first model same)) h

known_after : (first : Program) (edits : List Edit) (edit : Edit) → IsKnownEdit first edit → IsKnownEdit (after_edits first edits) edit
known_after first edits edit h = known_same first (after_edits first edits) (same_after_edits first edits) edit h

-- so the edits that stand are made one after another of a program that has what they name
pub edits_known : (first : Program) (before : List Command) → AreKnown first (edits_after first before)
edits_known first before =
    holds_standing first (λ c. Unit {0}) (AreKnown first) (λ edit edits h. h.1)
    (λ e edit edits allowed is h. (known_after first edits edit (named_known first e edit is), h)) before [] (λ i d l. tt) tt

-- and the session is along them
pub session_along : (first : Program) (before : List Command) → IsAlong first (edits_after first before) (session_at first before)
session_along first before = record { known = edits_known first before; is = refl }

-- ---- all that was changed is put back
all_back : (start : Program) (edits : List Edit) → AreKnown start edits → put_all_back (after_edits start edits) (formers_of start edits) ≡ start
all_back start [] known = refl
all_back start (edit ∷ edits) known = ap (λ p. put_all_back p (formers_of start edits)) (back_law (after_edits start edits) edit known.0).same ∙ all_back start edits known.1

pub first_of_session : (first : Program) (before : List Command) → first_of (session_at first before) ≡ first
first_of_session first before = all_back first (edits_after first before) (edits_known first before)

pub session_is_at : (first : Program) (before : List Command) → IsSessionAt (session_at first before) before
session_is_at first before = ap (λ p. session_at p before) (sym (first_of_session first before))

-- ---- the program after commands is well formed
fitting_at : (kind : EditKind) (i : ℕ) → IsEditKind kind → IsFitting (edit_at kind i)
fitting_at (EditKind.Drop t) i h = tt
fitting_at (EditKind.Keep t) i h = tt
fitting_at (EditKind.Weigh t (Soft v)) i h = h.1.1
fitting_at (EditKind.Weigh t Rigid) i h = tt
fitting_at (EditKind.SetSide side v) i h = tt
fitting_at (EditKind.SetBound side v) i h = tt
fitting_at (EditKind.SetMark whole) i h = tt

fitting_by : (kind : EditKind) (place : Option ℕ) (edit : Edit) → IsEditKind kind → option_map (edit_at kind) place ≡ Some edit → IsFitting edit
fitting_by kind None edit h e = absurd (let no : ⊥ = cc in no)
fitting_by kind (Some i) edit h e = let same : edit_at kind i ≡ edit = cc in subst IsFitting same (fitting_at kind i h)

pub named_fitting : (model : Program) (e : NamedEdit) (edit : Edit) → IsNamedEdit e → named_edit model e ≡ Some edit → IsFitting edit
named_fitting model e edit h is = fitting_by e.kind (place_of model (names_row e.kind) e.name) edit h.kind is

formed_after : (start : Program) (edits : List Edit) → IsWellFormed start → All IsFitting edits → IsWellFormed (after_edits start edits)
formed_after start [] formed fitting = formed
formed_after start (edit ∷ edits) formed fitting =
    edit_law (after_edits start edits) edit (formed_after start edits formed (All-tail IsFitting edit edits fitting)) (All-head IsFitting edit edits fitting)

pub after_well_formed : (first : Program) (before : List Command) → IsWellFormed first → All IsCommand before → IsWellFormed (after first before)
after_well_formed first before formed commands =
    formed_after first (edits_after first before) formed
    (holds_standing first IsCommand (All IsFitting) (λ edit edits h. All-tail IsFitting edit edits h)
    (λ e edit edits named is h. All-cons IsFitting edit edits (named_fitting first e edit named is) h) before [] commands (All-nil IsFitting))
