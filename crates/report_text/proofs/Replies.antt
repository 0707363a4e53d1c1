-- Answers that come by replay: of edits and undos.
use Rattle.std.proofs.Common.{◌≡◌, refl, sym, subst, Bool, true, false, cond, List, [], ◌∷◌, Option, Some, None}
use Rattle.lp_model.specs.Program.{Program}
use Rattle.lp_model.specs.declared.edits.Edit.{Edit as OneEdit}
use Rattle.report_text.specs.History.{changes}
use Rattle.report_text.specs.declared.report.Command.{Command}
use Rattle.report_text.specs.declared.report.Command.TheVariants.{Edit, Undo}
use Rattle.report_text.specs.declared.report.NamedEdit.{NamedEdit}
use Rattle.report_text.specs.declared.report.Refusal.{Refusal}
use Rattle.report_text.specs.declared.report.Answer.{Answer}
use Rattle.report_text.specs.declared.report.Answer.TheVariants.{Done, Refused}
use Rattle.report_text.specs.Edits.{named_edit, edit_answer, undo_answer}
use Rattle.report_text.specs.Form.{can_answer}
use Rattle.report_text.specs.Grammar.{answer_phrases}
use Rattle.report_text.specs.Session.{IsReply}
use Rattle.report_text.specs.Turns.{actions_of, after, answer_after, edits_after}

-- a reply that the command may have
abbrev pub IsReplyTo : Command → Answer → Type 0
IsReplyTo command answer = IsReply answer × (can_answer command answer ≡ true)

edit_reply : (e : NamedEdit) (model : Program) (edit : Option OneEdit) → IsReplyTo (Edit e) (edit_answer model edit)
edit_reply e model None = (tt, refl)
edit_reply e model (Some edit) = by (changes model edit)
  where
    by : (b : Bool) → IsReplyTo (Edit e) (cond b Done (Refused Refusal.NoChange))
    by true = (tt, refl)
    by false = (tt, refl)

undo_reply : (edits : List OneEdit) → IsReplyTo Undo (undo_answer edits)
undo_reply [] = (tt, refl)
undo_reply (edit ∷ edits) = (tt, refl)

-- what comes by replay is one
pub reply_after : (first : Program) (before : List Command) (command : Command) (right : Answer) → answer_after first before command ≡ Some right → IsReplyTo command right
reply_after first before (Edit e) right is = subst (IsReplyTo (Edit e)) (cc) (edit_reply e (after first before) (named_edit first e))
reply_after first before Undo right is = subst (IsReplyTo Undo) (cc) (undo_reply (edits_after first before))
reply_after first before _ right is = absurd (cc)

-- a command that is answered otherwise does nothing to the program
pub nothing_done : (first : Program) (before : List Command) (command : Command) → answer_after first before command ≡ None → actions_of first command ≡ []
nothing_done first before (Edit e) is = absurd (cc)
nothing_done first before Undo is = absurd (cc)
nothing_done first before _ is = refl

-- a reply has one line, whatever the program is
pub reply_line : (now next : Program) (answer : Answer) → IsReply answer → answer_phrases now answer ≡ answer_phrases next answer
reply_line now next Done h = refl
reply_line now next (Refused r) h = refl
reply_line now next _ h = absurd h
