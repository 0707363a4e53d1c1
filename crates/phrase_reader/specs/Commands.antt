-- What a line of a script says.
use Rattle.std.specs.Prelude.{◌≡◌, ℕ, ◌<◌, ◌≤◌, Bool, true, false, cond, List, [], ◌∷◌, length, codes, Option, Some, None, option_map, find}
use Rattle.std.specs.List.{list_any}
use Rattle.std.specs.Option.{option_and_then}
use Rattle.std.specs.Str.{bytes_eq}
use Rattle.lane_scan.specs.Bytes.{is_foreign}
use Rattle.rational.specs.Rational.{ℚ}
use Rattle.lp_model.specs.declared.members.Side.{Side}
use Rattle.lp_model.specs.declared.members.Side.TheVariants.{Lo, Up}
use Rattle.text_fields.specs.declared.faults.TextKind.{TextKind}
use Rattle.text_fields.specs.declared.faults.FieldStop.{FieldStop}
use Rattle.text_fields.specs.declared.faults.FieldStop.TheVariants.{Text as FieldText, Memory as FieldMemory}
use Rattle.text_fields.specs.Fields.{fields_of, field_fault}
use Rattle.report_text.specs.declared.report.Command.{Command}
use Rattle.report_text.specs.declared.report.Command.TheVariants.{Check, Iis, Unbounded, Relax, Reduce, Edit, Undo, Pivots, Nodes}
use Rattle.report_text.specs.declared.report.Method.{Method}
use Rattle.report_text.specs.declared.report.Method.TheVariants.{Deletion, Additive, Sensitivity, Elastic, Alternative}
use Rattle.report_text.specs.declared.report.TargetKind.{TargetKind}
use Rattle.report_text.specs.declared.report.TargetKind.TheVariants.{Row, RowLo, RowUp, Lower, Upper, Whole}
use Rattle.report_text.specs.declared.report.EditKind.{EditKind}
use Rattle.report_text.specs.declared.report.EditKind.TheVariants.{Drop, Keep, Weigh, SetSide, SetBound, SetMark}
use Rattle.phrase_reader.specs.declared.commands.CommandStop.{CommandStop}
use Rattle.phrase_reader.specs.declared.commands.CommandStop.TheVariants.{Bad, Memory}
use Rattle.report_text.specs.Grammar.{method_word, target_word, side_word, mark_word, command_words, command_text, lone_commands}
use Rattle.report_text.specs.Form.{is_word, IsCommand}
use Rattle.phrase_reader.specs.Numerals.{budget_of, limit_in, weight_in}

-- ---- what single words name
-- the method that a word names
abbrev pub method_of : List ℕ → Option Method
method_of word = find (λ m. bytes_eq word (method_word m)) (Deletion ∷ Additive ∷ Sensitivity ∷ Elastic ∷ Alternative ∷ [])

-- what has a weight: all but a mark
abbrev pub weighed_target : List ℕ → Option TargetKind
weighed_target word = find (λ t. bytes_eq word (target_word t)) (Row ∷ RowLo ∷ RowUp ∷ Lower ∷ Upper ∷ [])

-- what may be dropped, or kept
abbrev pub target_in : List ℕ → Option TargetKind
target_in word = find (λ t. bytes_eq word (target_word t)) (Row ∷ RowLo ∷ RowUp ∷ Lower ∷ Upper ∷ Whole ∷ [])

-- the lower or the upper side or bound
abbrev pub side_in : List ℕ → Option Side
side_in word = find (λ s. bytes_eq word (side_word s)) (Lo ∷ Up ∷ [])

-- whether a column is to be whole
abbrev pub mark_in : List ℕ → Option Bool
mark_in word = find (λ m. bytes_eq word (mark_word m)) (true ∷ false ∷ [])

-- ---- edits: the word for what has the name stands before the name
-- what is dropped or kept
abbrev pub moving : List ℕ → List ℕ → Option EditKind
moving first second =
    cond (bytes_eq first (codes "drop")) (option_map Drop (target_in second))
    (cond (bytes_eq first (codes "keep")) (option_map Keep (target_in second)) None)

-- what is weighed, and how much
abbrev pub weighing : List ℕ → List ℕ → List ℕ → Option EditKind
weighing first second last = cond (bytes_eq first (codes "weight")) (option_and_then (λ t. option_map (Weigh t) (weight_in last)) (weighed_target second)) None

-- a side of a row, or a bound of a column, that is set
abbrev pub set_of : List ℕ → Side → Option ℚ → Option EditKind
set_of word side v =
    cond (bytes_eq word (codes "row")) (Some (SetSide side v))
    (cond (bytes_eq word (codes "column")) (Some (SetBound side v)) None)

abbrev pub setting : List ℕ → List ℕ → List ℕ → List ℕ → Option EditKind
setting first second side last = cond (bytes_eq first (codes "set")) (option_and_then (λ s. option_and_then (set_of second s) (limit_in last)) (side_in side)) None

-- the edit of that kind of what has the name, which is a word
abbrev pub edit_of : Option EditKind → List ℕ → Option Command
edit_of kind name = cond (is_word name) (option_map (λ k. Edit (record { name = name; kind = k })) kind) None

-- ---- the words that are a command
-- what one word says
abbrev pub lone_command : List ℕ → Option Command
lone_command word = find (λ c. bytes_eq word (command_text c)) lone_commands

-- what two words say
abbrev pub iis_command : List ℕ → List ℕ → Option Command
iis_command first second = cond (bytes_eq first (codes "iis")) (option_map Iis (method_of second)) None

-- what two words behind `budget` say: of what it is, and how many
abbrev pub budget_behind : List ℕ → List ℕ → Option Command
budget_behind second third =
    cond (bytes_eq second (codes "pivots")) (option_map Pivots (budget_of third))
    (cond (bytes_eq second (codes "nodes")) (option_map Nodes (budget_of third)) None)

-- what three words say: a budget, a mark, or what is dropped or kept
abbrev pub three_command : List ℕ → List ℕ → List ℕ → Option Command
three_command first second third =
    cond (bytes_eq first (codes "budget")) (budget_behind second third)
    (cond (bytes_eq first (codes "mark")) (edit_of (option_map SetMark (mark_in third)) second)
    (edit_of (moving first second) third))

-- the command that words are, where they are one: the fields of a script's line, and what stands behind `command` in a report's
abbrev pub command_said : List (List ℕ) → Option Command
command_said [] = None
command_said (a ∷ []) = lone_command a
command_said (a ∷ b ∷ []) = iis_command a b
command_said (a ∷ b ∷ c ∷ []) = three_command a b c
command_said (a ∷ b ∷ c ∷ d ∷ []) = edit_of (weighing a b d) c
command_said (a ∷ b ∷ c ∷ d ∷ e ∷ []) = edit_of (setting a b d e) c
command_said (a ∷ b ∷ c ∷ d ∷ e ∷ f ∷ words) = None

-- ---- the lines of scripts
-- what is said, where there is no fault
abbrev pub unless_fault : Option TextKind → Option Command → Option Command
unless_fault None said = said
unless_fault (Some fault) said = None

-- the command that a line is: a line without a fault, by its fields
abbrev pub command_of : List ℕ → Option Command
command_of line = unless_fault (field_fault line) (command_said (fields_of line))

-- what stops the fields of a line, as a stop of its command
abbrev pub command_stop : FieldStop → CommandStop
command_stop (FieldText fault) = Bad
command_stop FieldMemory = Memory

-- why a line is not read as a command: it is none, or memory was refused
abbrev pub IsCommandStop : List ℕ → CommandStop → Type 0
IsCommandStop line Bad = command_of line ≡ None
IsCommandStop line Memory = Unit {0}

-- what holds of the commands of scripts
pub record CommandLaw : Type 0 where
  -- each is what its own words say
  pub said : (c : Command) → IsCommand c → command_said (command_words c) ≡ Some c
  -- and is read from its own text, where that is not too long for a line
  pub own : (c : Command) → IsCommand c → length (command_text c) ≤ 65536 → command_of (command_text c) ≡ Some c
  -- no line is another command
  pub built : (line : List ℕ) (c : Command) → command_of line ≡ Some c → IsCommand c
  -- a long line is none, and no line with a foreign byte is one
  pub long : (line : List ℕ) → 65536 < length line → command_of line ≡ None
  pub clean : (line : List ℕ) → list_any is_foreign line ≡ true → command_of line ≡ None
