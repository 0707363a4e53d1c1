-- Edits by name: which edit of a program is asked for, and what is answered.
use Rattle.std.specs.Prelude.{ℕ, Bool, true, false, cond, List, [], ◌∷◌, Option, Some, None, option_map, position, bytes_eq}
use Rattle.lp_model.specs.Program.{Program}
use Rattle.lp_model.specs.Shown.{row_names, column_names}
use Rattle.lp_model.specs.declared.members.Member.TheVariants.{RowLo, RowUp, Lower, Upper, Whole}
use Rattle.lp_model.specs.declared.edits.Target.{Target}
use Rattle.lp_model.specs.declared.edits.Target.TheVariants.{OneMember, BothSides}
use Rattle.lp_model.specs.declared.edits.Edit.{Edit}
use Rattle.report_text.specs.History.{changes}
use Rattle.report_text.specs.declared.report.TargetKind.{TargetKind}
use Rattle.report_text.specs.declared.report.EditKind.{EditKind}
use Rattle.report_text.specs.declared.report.NamedEdit.{NamedEdit}
use Rattle.report_text.specs.declared.report.Refusal.{Refusal}
use Rattle.report_text.specs.declared.report.Answer.{Answer}
use Rattle.report_text.specs.declared.report.Answer.TheVariants.{Done, Refused}

-- ---- which edit it is
-- whether it is of a row, rather than of a column
abbrev pub is_of_row : TargetKind → Bool
is_of_row TargetKind.Row = true
is_of_row TargetKind.RowLo = true
is_of_row TargetKind.RowUp = true
is_of_row _ = false

abbrev pub names_row : EditKind → Bool
names_row (EditKind.Drop t) = is_of_row t
names_row (EditKind.Keep t) = is_of_row t
names_row (EditKind.Weigh t w) = is_of_row t
names_row (EditKind.SetSide side v) = true
names_row (EditKind.SetBound side v) = false
names_row (EditKind.SetMark whole) = false

-- what is edited of the row or the column with this number
abbrev pub target_at : ℕ → TargetKind → Target
target_at i TargetKind.Row = BothSides i
target_at i TargetKind.RowLo = OneMember (RowLo i)
target_at i TargetKind.RowUp = OneMember (RowUp i)
target_at i TargetKind.Lower = OneMember (Lower i)
target_at i TargetKind.Upper = OneMember (Upper i)
target_at i TargetKind.Whole = OneMember (Whole i)

-- the edit of it
abbrev pub edit_at : EditKind → ℕ → Edit
edit_at (EditKind.Drop t) i = Edit.Drop (target_at i t)
edit_at (EditKind.Keep t) i = Edit.Keep (target_at i t)
edit_at (EditKind.Weigh t w) i = Edit.Weigh (target_at i t) w
edit_at (EditKind.SetSide side v) i = Edit.SetSide i side v
edit_at (EditKind.SetBound side v) i = Edit.SetBound i side v
edit_at (EditKind.SetMark whole) i = Edit.SetMark i whole

-- the number of the row, or of the column, with a name
abbrev pub place_of : Program → Bool → List ℕ → Option ℕ
place_of model true name = position (bytes_eq name) (row_names model)
place_of model false name = position (bytes_eq name) (column_names model)

-- the edit, where the program has what it names
abbrev pub named_edit : Program → NamedEdit → Option Edit
named_edit model e = option_map (edit_at e.kind) (place_of model (names_row e.kind) e.name)

-- ---- what is answered
-- an edit of a program as it stands: an unknown name is looked at before no change
abbrev pub edit_answer : Program → Option Edit → Answer
edit_answer model None = Refused Refusal.UnknownName
edit_answer model (Some edit) = cond (changes model edit) Done (Refused Refusal.NoChange)

-- an undo, by the edits that stand
abbrev pub undo_answer : List Edit → Answer
undo_answer [] = Refused Refusal.NothingToUndo
undo_answer (edit ∷ edits) = Done
