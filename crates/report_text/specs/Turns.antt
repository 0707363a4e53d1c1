-- What goes by the commands before each entry: the program as they edited it.
use Rattle.std.specs.Prelude.{List, [], ◌∷◌, ◌++◌, map, flat_map, Option, Some, None, option_map, option_to_list}
use Rattle.lp_model.specs.Program.{Program}
use Rattle.lp_model.specs.declared.edits.Edit.{Edit as OneEdit}
use Rattle.report_text.specs.History.{Action, Make, standing, after_edits}
use Rattle.report_text.specs.declared.report.Command.{Command}
use Rattle.report_text.specs.declared.report.Command.TheVariants.{Edit, Undo}
use Rattle.report_text.specs.declared.report.Entry.{Entry}
use Rattle.report_text.specs.declared.report.Answer.{Answer}
use Rattle.report_text.specs.Edits.{named_edit, edit_answer, undo_answer}

-- what a command does to a program whose rows and columns have these names: the edit, where what it names is there; an undo; or nothing
abbrev pub actions_of : Program → Command → List Action
actions_of first (Edit e) = option_to_list (option_map Make (named_edit first e))
actions_of first Undo = Action.Undo ∷ []
actions_of first _ = []

-- which edits stand after commands, the last one first
abbrev pub edits_after : Program → List Command → List OneEdit
edits_after first before = standing first [] (flat_map (actions_of first) before)

-- the program after commands: what the edits that stand make of the first one
abbrev pub after : Program → List Command → Program
after first before = after_edits first (edits_after first before)

-- what an edit or an undo is answered after commands; the other commands have answers of their own
abbrev pub answer_after : Program → List Command → Command → Option Answer
answer_after first before (Edit e) = Some (edit_answer (after first before) (named_edit first e))
answer_after first before Undo = Some (undo_answer (edits_after first before))
answer_after first before _ = None

-- the commands of entries
abbrev pub entry_commands : List Entry → List Command
entry_commands entries = map (λ e. e.command) entries

-- what is made of each entry and the commands before it, one after another; some commands stand before the first entry
abbrev pub gathered : {A : Type 0} → (List Command → Entry → List A) → List Command → List Entry → List A
gathered make before [] = []
gathered make before (e ∷ entries) = make before e ++ gathered make (before ++ e.command ∷ []) entries

-- a fact of each entry and the commands before it
abbrev pub AllEntries : (List Command → Entry → Type 0) → List Command → List Entry → Type 0
AllEntries Holds before [] = Unit {0}
AllEntries Holds before (e ∷ entries) = Holds before e × AllEntries Holds (before ++ e.command ∷ []) entries
