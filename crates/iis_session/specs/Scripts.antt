-- What a script says.
use Rattle.std.specs.Prelude.{◌≡◌, ◌≢◌, ◌⊎◌, ℕ, ◌+◌, ◌≤◌, ◌==◌, ◌||◌, nat_le, Bool, true, false, cond, List, [], ◌∷◌, ◌++◌, length, flat_map, slice_index, Option, Some, None}
use Rattle.std.specs.List.{All, list_all}
use Rattle.lane_scan.specs.Bytes.{is_blank}
use Rattle.text_fields.specs.Lines.{lines_of}
use Rattle.text_fields.specs.Fields.{is_long}
use Rattle.report_text.specs.declared.report.Command.{Command}
use Rattle.report_text.specs.Form.{IsCommand}
use Rattle.phrase_reader.specs.Commands.{command_of}
use Rattle.iis_session.specs.declared.scripts.Saying.{Saying}
use Rattle.iis_session.specs.declared.scripts.Saying.TheVariants.{Nothing, Says, Bad}
use Rattle.iis_session.specs.declared.scripts.ScriptStop.{ScriptStop}
use Rattle.iis_session.specs.declared.scripts.ScriptStop.TheVariants.{BadLine, Memory}

-- the most commands that a script may have
abbrev pub most_commands : ℕ
most_commands = 10000

-- ---- a line
-- a line that begins with `#`
abbrev pub is_remark : List ℕ → Bool
is_remark line = slice_index line 0 == 35

-- a line of blanks alone
abbrev pub is_blank_line : List ℕ → Bool
is_blank_line line = list_all is_blank line

-- what a line says by the command that it is, if it is one
abbrev pub said_by : Option Command → Saying
said_by None = Bad
said_by (Some command) = Says command

-- what a line says: a long line is bad; a remark and a blank line say nothing; and another line is a command, or bad
abbrev pub saying_of : List ℕ → Saying
saying_of line = cond (is_long line) Bad (cond (is_remark line || is_blank_line line) Nothing (said_by (command_of line)))

-- ---- lines
-- the command that is said, if one is
abbrev pub command_in : Saying → List Command
command_in Nothing = []
command_in (Says command) = command ∷ []
command_in Bad = []

-- the commands of lines
abbrev pub commands_of : List (List ℕ) → List Command
commands_of lines = flat_map (λ line. command_in (saying_of line)) lines

-- whether what is said after so many commands is bad: it is none, or one too many
abbrev pub is_bad_after : ℕ → Saying → Bool
is_bad_after count Nothing = false
is_bad_after count (Says command) = nat_le most_commands count
is_bad_after count Bad = true

-- the number of the first bad line, where others stand in front of these
abbrev pub first_bad_behind : List (List ℕ) → List (List ℕ) → Option ℕ
first_bad_behind front [] = None
first_bad_behind front (line ∷ lines) =
    cond (is_bad_after (length (commands_of front)) (saying_of line)) (Some (length front + 1)) (first_bad_behind (front ++ line ∷ []) lines)

-- the number of the first bad line
abbrev pub first_bad : List (List ℕ) → Option ℕ
first_bad lines = first_bad_behind [] lines

-- ---- reading
-- the bytes are no script: the line is their first bad one; or memory was refused
abbrev pub IsScriptStop : List ℕ → ScriptStop → Type 0
IsScriptStop bytes (BadLine n) = first_bad (lines_of bytes) ≡ Some n
IsScriptStop bytes Memory = Unit {0}

-- what is said is right, and its command is appended
pub record Takes (saying : Saying) (old new : List Command) : Type 0 where
  pub right : is_bad_after (length old) saying ≡ false
  pub appended : new ≡ old ++ command_in saying

-- what is said is bad, and the stop has the line's number; or memory was refused
abbrev pub IsLineStop : ℕ → Saying → List Command → ScriptStop → Type 0
IsLineStop number saying old (BadLine n) = (is_bad_after (length old) saying ≡ true) × (n ≡ number)
IsLineStop number saying old Memory = Unit {0}

-- ---- laws
-- no line is bad, and there are not too many commands
pub record AreRight (lines : List (List ℕ)) : Type 0 where
  pub each : All (λ line. saying_of line ≢ Bad) lines
  pub few : length (commands_of lines) ≤ most_commands

-- the lines before this one are right, and it says what is no command, or holds the 10,001st
pub record IsFirstBad (lines : List (List ℕ)) (n : ℕ) : Type 0 where
  pub front : List (List ℕ)
  pub line : List ℕ
  pub rest : List (List ℕ)
  pub split : lines ≡ front ++ line ∷ rest
  pub number : n ≡ length front + 1
  pub before : AreRight front
  pub bad : (saying_of line ≡ Bad) ⊎ (length (commands_of (front ++ line ∷ [])) ≡ most_commands + 1)

-- what holds of the lines of scripts
pub record ScriptLaw : Type 0 where
  pub right : (lines : List (List ℕ)) → first_bad lines ≡ None → AreRight lines
  pub bad : (lines : List (List ℕ)) (n : ℕ) → first_bad lines ≡ Some n → IsFirstBad lines n
  pub built : (lines : List (List ℕ)) → All IsCommand (commands_of lines)
