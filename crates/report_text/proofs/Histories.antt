-- A history keeps what its edits changed, so that what is put back is the program before each of them.
use Rattle.std.proofs.Common.{◌≡◌, ◌≢◌, refl, sym, ◌∙◌, ap, subst, Bool, true, false, cond, List, [], ◌∷◌, ◌++◌, reverse}
use Rattle.std.proofs.lemmas.List.{reverse-append}
use Rattle.lp_model.specs.Program.{Program, IsWellFormed}
use Rattle.lp_model.specs.declared.edits.Edit.{Edit}
use Rattle.lp_model.specs.declared.edits.Former.{Former}
use Rattle.lp_model.specs.Edits.{edited, former_of, put_back, IsKnownEdit, BackLaw}
use Rattle.report_text.specs.History.{Action, Make, Undo, changes, after_edits, without_last, standing, formers_of, history_of, HistoryValue, GoesBack, IsEdited, IsUndone, IsUndoneOf, IsReached, HistoryLaw}
use Rattle.report_text.proofs.Changing.{one_edit}

-- each edit is of a row or column that there is
abbrev pub AreKnown : Program → List Edit → Type 0
AreKnown start [] = Unit {0}
AreKnown start (edit ∷ edits) = IsKnownEdit (after_edits start edits) edit × AreKnown start edits

-- the history in which these edits stand, each of which is known
pub record IsAlong (start : Program) (edits : List Edit) (value : HistoryValue) : Type 0 where
  pub known : AreKnown start edits
  pub is : value ≡ history_of start edits

-- an edit that was made stands then, and one that was refused does not
pub edited_along : (back : BackLaw) (start : Program) (edits : List Edit) (old : HistoryValue) (edit : Edit) (accepted : Bool) (new : HistoryValue)
    → IsAlong start edits old → IsKnownEdit old.model edit → IsEdited old edit accepted new
    → (accepted ≡ changes (after_edits start edits) edit) × IsAlong start (cond (changes (after_edits start edits) edit) (edit ∷ edits) edits) new
edited_along back start edits old edit true new along known h =
    let model : old.model ≡ after_edits start edits = ap (λ (v : HistoryValue). v.model) along.is in
    let there : IsKnownEdit (after_edits start edits) edit = subst (λ p. IsKnownEdit p edit) model known in
    let yes : changes (after_edits start edits) edit ≡ true = (one_edit back (after_edits start edits) edit there).1 (subst (λ p. edited p edit ≢ p) model h.0) in (
      sym yes,
      subst (λ b. IsAlong start (cond b (edit ∷ edits) edits) new) (sym yes) (record {
        known = (there, along.known);
        is = h.1 ∙ ap (λ (v : HistoryValue). record { model = edited v.model edit; formers = former_of v.model edit ∷ v.formers }) along.is;
      }),
    )
edited_along back start edits old edit false new along known h =
    let model : old.model ≡ after_edits start edits = ap (λ (v : HistoryValue). v.model) along.is in
    let there : IsKnownEdit (after_edits start edits) edit = subst (λ p. IsKnownEdit p edit) model known in
    let same : edited (after_edits start edits) edit ≡ after_edits start edits = subst (λ p. edited p edit ≡ p) model h.0 in
    let no : changes (after_edits start edits) edit ≡ false = no_change (changes (after_edits start edits) edit) refl same there in
    (sym no, subst (λ b. IsAlong start (cond b (edit ∷ edits) edits) new) (sym no) (subst (IsAlong start edits) (sym h.1) along))
  where
    no_change : (b : Bool) → changes (after_edits start edits) edit ≡ b → edited (after_edits start edits) edit ≡ after_edits start edits → IsKnownEdit (after_edits start edits) edit → changes (after_edits start edits) edit ≡ false
    no_change true e same there = absurd ((one_edit back (after_edits start edits) edit there).0 e same)
    no_change false e same there = e

-- an undo takes the last one away
pub undone_along : (back : BackLaw) (start : Program) (edits : List Edit) (old : HistoryValue) (was : Bool) (new : HistoryValue)
    → IsAlong start edits old → IsUndone old was new → IsAlong start (without_last edits) new
undone_along back start [] old was new along h =
    let none : IsUndoneOf old.model [] was new = subst (λ fs. IsUndoneOf old.model fs was new) (ap (λ (v : HistoryValue). v.formers) along.is) h in
    record { known = tt; is = none.1 ∙ ap (λ (v : HistoryValue). record { model = v.model; formers = [] }) along.is }
undone_along back start (edit ∷ edits) old was new along h =
    let before : Program = after_edits start edits in
    let one : IsUndoneOf old.model (former_of before edit ∷ formers_of start edits) was new = subst (λ fs. IsUndoneOf old.model fs was new) (ap (λ (v : HistoryValue). v.formers) along.is) h in
    record {
      known = along.known.1;
      is = one.1 ∙ ap (λ (v : HistoryValue). record { model = put_back v.model (former_of before edit); formers = formers_of start edits }) along.is ∙ ap (λ p. record { model = p; formers = formers_of start edits }) (back before edit along.known.0).same;
    }

module _ (back : BackLaw) (start : Program) where
  reached : (actions : List Action) (edits : List Edit) (old new : HistoryValue) → IsAlong start edits old → IsReached old actions new → IsAlong start (standing start edits actions) new
  reached [] edits old new along h = subst (IsAlong start edits) (sym h) along
  reached (Make edit ∷ actions) edits old new along h =
      let next = edited_along back start edits old edit h.1.0 h.1.1.0 along h.0 h.1.1.1.0 in
      reached actions (cond (changes (after_edits start edits) edit) (edit ∷ edits) edits) h.1.1.0 new next.1 h.1.1.1.1
  reached (Undo ∷ actions) edits old new along h = reached actions (without_last edits) h.1.0 new (undone_along back start edits old h.0 h.1.0 along h.1.1.0) h.1.1.1

pub history_law_by : BackLaw → HistoryLaw
history_law_by back start actions new h = (reached back start actions [] (history_of start []) new (record { known = tt; is = refl }) h).is

-- what an edit changed is put back first
pub goes_on : (model : Program) (edit : Edit) (items more : List Former) → BackLaw → IsWellFormed model → IsKnownEdit model edit → GoesBack model (reverse items)
    → more ≡ items ++ former_of model edit ∷ [] → (new : Program) → new ≡ edited model edit → GoesBack new (reverse more)
goes_on model edit items more back formed known h e new is =
    let taken = back model edit known in
    let last : reverse more ≡ former_of model edit ∷ reverse items = ap reverse e ∙ reverse-append items (former_of model edit ∷ []) in
    let all : GoesBack (edited model edit) (former_of model edit ∷ reverse items) =
    (taken.known, (subst IsWellFormed (sym taken.same) formed, subst (λ p. GoesBack p (reverse items)) (sym taken.same) h)) in
    subst (λ p. GoesBack p (reverse more)) (sym is) (subst (GoesBack (edited model edit)) (sym last) all)
