-- Edits of a program one after another, and undos: what stands after them.
use Rattle.std.specs.Prelude.{◌≡◌, ◌≢◌, ◌↔◌, ◌==◌, ◌&&◌, not, cond, ℕ, ◌+◌, Bool, true, false, List, [], ◌∷◌, length, ⊤}
use Rattle.lp_model.specs.Program.{Program, IsWellFormed}
use Rattle.lp_model.specs.declared.edits.Edit.{Edit}
use Rattle.lp_model.specs.declared.edits.Former.{Former}
use Rattle.lp_model.specs.declared.edits.Former.TheVariants.{Sides, Bounds}
use Rattle.lp_model.specs.contracts.edits.PartPartialEq.TheImpl.{ghosts as part_test}
use Rattle.lp_model.specs.contracts.parts.ColumnPartialEq.TheImpl.{ghosts as column_test}
use Rattle.lp_model.specs.Edits.{edited, former_of, put_back, IsKnownFormer, IsKnownEdit}

-- ---- what is asked, as mathematics: no former program, and nothing that is put back
-- whether the same stands in the same place
abbrev pub is_same_former : Former → Former → Bool
is_same_former (Sides i lo up) (Sides k low high) = (i == k) && (part_test.eq lo low && part_test.eq up high)
is_same_former (Bounds j a) (Bounds k b) = (j == k) && column_test.eq a b
is_same_former _ _ = false

-- whether an edit makes another program: what it changes does not stand there as before
abbrev pub changes : Program → Edit → Bool
changes model edit = not (is_same_former (former_of model edit) (former_of (edited model edit) edit))

-- what is done to a program: an edit, or the last one that stands is taken back
pub data Action : Type 0 where
  Make : Edit → Action
  Undo : Action

-- what edits make of a program, of which the last one stands first
abbrev pub after_edits : Program → List Edit → Program
after_edits start [] = start
after_edits start (edit ∷ edits) = edited (after_edits start edits) edit

-- all but the last one
abbrev pub without_last : List Edit → List Edit
without_last [] = []
without_last (edit ∷ edits) = edits

-- Which edits stand after actions, the last one first, where these stood before: an edit that makes another program is accepted, one that makes the same is not; an undo takes the last one away.
abbrev pub standing : Program → List Edit → List Action → List Edit
standing start edits [] = edits
standing start edits (Make edit ∷ actions) = standing start (cond (changes (after_edits start edits) edit) (edit ∷ edits) edits) actions
standing start edits (Undo ∷ actions) = standing start (without_last edits) actions

-- the program after actions is what the edits that stand make of the first one
abbrev pub after_actions : Program → List Action → Program
after_actions start actions = after_edits start (standing start [] actions)

-- the test of an edit tells whether it makes another program
abbrev pub ChangesLaw : Type 0
ChangesLaw = (model : Program) (edit : Edit) → IsKnownEdit model edit → (changes model edit ≡ true) ↔ (edited model edit ≢ model)

-- ---- what the code keeps: the program, and what each edit changed, the last one first
pub record HistoryValue : Type 0 where
  pub model : Program
  pub formers : List Former

-- and for how many edits more there is room
pub record RoomyHistory : Type 0 where
  pub held : HistoryValue
  pub spare : ℕ

-- for how many edits there is room in all, those that stand among them
abbrev pub room_of : RoomyHistory → ℕ
room_of history = length history.held.formers + history.spare

-- each of them can be put back
abbrev pub GoesBack : Program → List Former → Type 0
GoesBack model [] = ⊤
GoesBack model (former ∷ formers) = IsKnownFormer model former × (IsWellFormed (put_back model former) × GoesBack (put_back model former) formers)

-- an edit was made of another program, and what it changed is kept; or nothing was changed
abbrev pub IsEdited : HistoryValue → Edit → Bool → HistoryValue → Type 0
IsEdited old edit true new =
    (edited old.model edit ≢ old.model) × (new ≡ record { model = edited old.model edit; formers = former_of old.model edit ∷ old.formers })
IsEdited old edit false new = (edited old.model edit ≡ old.model) × (new ≡ old)

-- the last former is put back, or there is none
abbrev pub IsUndoneOf : Program → List Former → Bool → HistoryValue → Type 0
IsUndoneOf model [] undone new = (undone ≡ false) × (new ≡ record { model = model; formers = [] })
IsUndoneOf model (former ∷ formers) undone new = (undone ≡ true) × (new ≡ record { model = put_back model former; formers = formers })

abbrev pub IsUndone : HistoryValue → Bool → HistoryValue → Type 0
IsUndone old undone new = IsUndoneOf old.model old.formers undone new

-- ---- what calls make of a program, one after another, by what each of them ensures
abbrev pub IsReached : HistoryValue → List Action → HistoryValue → Type 0
IsReached old [] new = new ≡ old
IsReached old (Make edit ∷ actions) new =
    IsKnownEdit old.model edit × ((made : Bool) × ((next : HistoryValue) × (IsEdited old edit made next × IsReached next actions new)))
IsReached old (Undo ∷ actions) new = (undone : Bool) × ((next : HistoryValue) × (IsUndone old undone next × IsReached next actions new))

-- what edits changed, the last one first, where they were made of a program one after another
abbrev pub formers_of : Program → List Edit → List Former
formers_of start [] = []
formers_of start (edit ∷ edits) = former_of (after_edits start edits) edit ∷ formers_of start edits

-- the history of a program in which these edits stand
abbrev pub history_of : Program → List Edit → HistoryValue
history_of start edits = record { model = after_edits start edits; formers = formers_of start edits }

-- from a program of which nothing was edited yet they reach its history after the actions
abbrev pub HistoryLaw : Type 0
HistoryLaw = (start : Program) (actions : List Action) (new : HistoryValue) → IsReached (history_of start []) actions new → new ≡ history_of start (standing start [] actions)
