-- No line of a report whose answers are right fails.
use Rattle.std.proofs.Common.{◌≡◌, ◌+◌, refl, sym, subst, ℕ, Bool, false, not, ◌&&◌, cond, List, [], ◌∷◌, ◌++◌, Option, None, Some}
use Rattle.lp_model.specs.Program.{Program}
use Rattle.lp_model.specs.Members.{active_members}
use Rattle.certs.specs.Trees.{has_mark}
use Rattle.report_text.specs.Form.{asks_of}
use Rattle.report_text.specs.declared.report.Answer.{Answer}
use Rattle.report_text.specs.declared.report.Answer.TheVariants.{Done}
use Rattle.report_text.specs.declared.report.Command.{Command}
use Rattle.report_text.specs.declared.report.Command.TheVariants.{Check, Iis, Unbounded, Relax, Reduce, Edit, Undo, Pivots, Nodes}
use Rattle.report_text.specs.declared.report.Entry.{Entry}
use Rattle.report_text.specs.declared.report.Method.TheVariants.{Deletion, Additive, Sensitivity, Elastic, Alternative}
use Rattle.report_text.specs.Turns.{after, answer_after, AllEntries}
use Rattle.report_text.proofs.Replies.{reply_after}
use Rattle.analysis.specs.Right.{IsRightAfter, Right, RightAfter, RightBy, settings_in_force}
use Rattle.analysis.specs.Written.{report_of}
use Rattle.cert_check.specs.Trials.{Trial, answer_trials, claim_trials, entries_trials, entry_trials, on_line, paired_trials, reply_trials, said, same_note, settles, trials}
use Rattle.iis_run.specs.Again.{AcceptedAgainLaw}
use Rattle.iis_run.proofs.Unfailed.{AreUnfailed, nothing, joined}
use Rattle.iis_run.proofs.Outcome.{accepted_or_wide}
use Rattle.iis_run.proofs.Replied.{done_unfailed, notes_unfailed, reply_unfailed}
use Rattle.iis_run.proofs.Answered.{additive_passes, alternative_passes, checked_passes, deletion_passes, diagnosis_passes, elastic_passes, reduction_passes, relaxation_passes, sensitivity_passes}

-- ---- one entry
module _ (first : Program) (before : List Command) (n : ℕ) where
  -- what is claimed by an answer to a command that stands on line n
  abbrev claimed : Command → Answer → List Trial
  claimed command answer = claim_trials (after first before) (record { command = command; answer = answer; line = n })

  asked_unfailed : (command : Command) (answer : Answer) → Right (after first before) (settings_in_force before) command answer → AreUnfailed (claimed command answer)
  asked_unfailed Check answer h = checked_passes (after first before) n (settings_in_force before).budgets answer h
  asked_unfailed (Iis Deletion) answer h = deletion_passes (after first before) n (settings_in_force before).budgets answer h
  asked_unfailed (Iis Additive) answer h = additive_passes (after first before) n (settings_in_force before).budgets answer h
  asked_unfailed (Iis Sensitivity) answer h = sensitivity_passes (after first before) n (settings_in_force before).budgets answer h
  asked_unfailed (Iis Elastic) answer h = elastic_passes (after first before) n (settings_in_force before).budgets answer h
  asked_unfailed (Iis Alternative) answer h = alternative_passes (after first before) n (settings_in_force before).budgets answer h
  asked_unfailed Unbounded answer h = diagnosis_passes (after first before) n (settings_in_force before).budgets answer h
  asked_unfailed Relax answer h = relaxation_passes (after first before) n (settings_in_force before).budgets answer h
  asked_unfailed Reduce answer h = reduction_passes (after first before) n answer h
  asked_unfailed (Pivots most) answer h = done_unfailed (after first before) n Done answer h tt
  asked_unfailed (Nodes most) answer h = done_unfailed (after first before) n Done answer h tt
  asked_unfailed _ answer h = absurd h

  -- a command that is answered by replay needs no linear program
  replied_plain : (command : Command) (right : Answer) → answer_after first before command ≡ Some right → (asks_of command).linear ≡ false
  replied_plain (Edit e) right is = refl
  replied_plain Undo right is = refl
  replied_plain _ right is = absurd (cc)

  replied_unfailed : (command : Command) (right : Answer) → answer_after first before command ≡ Some right → AreUnfailed (claimed command right)
  replied_unfailed command right is =
      subst (λ (needs : Bool). AreUnfailed (cond (needs && settles right) (on_line (n + 1) (said (not (has_mark (active_members (after first before))))) ∷ []) [] ++ answer_trials (after first before) n right)) (sym (replied_plain command right is))
      (done_unfailed (after first before) n right right refl (reply_after first before command right is).0)

  answer_unfailed : (command : Command) (answer : Answer) → RightAfter first before command answer → AreUnfailed (entry_trials first before (record { command = command; answer = answer; line = n }))
  answer_unfailed command answer h = by (answer_after first before command) refl h
    where
      by : (reply : Option Answer) → answer_after first before command ≡ reply → RightBy reply (after first before) (settings_in_force before) command answer → AreUnfailed (claimed command answer ++ reply_trials reply n answer)
      by (Some right) e is =
          joined (claimed command answer) (reply_trials (Some right) n answer) (subst (λ (a : Answer). AreUnfailed (claimed command a)) (sym is) (replied_unfailed command right e))
          (reply_unfailed n right answer is (reply_after first before command right e).0)
      by None e is = joined (claimed command answer) [] (asked_unfailed command answer is) nothing

-- ---- all entries
entries_unfailed : (model : Program) (before : List Command) (entries : List Entry) → AllEntries (IsRightAfter model) before entries → AreUnfailed (entries_trials model before entries)
entries_unfailed model before [] h = nothing
entries_unfailed model before (e ∷ entries) h =
    let next = before ++ e.command ∷ [] in
    joined (entry_trials model before e) (entries_trials model next entries) (answer_unfailed model before e.line e.command e.answer h.0.right) (entries_unfailed model next entries h.1)

-- ---- the law
pub accepted_again : AcceptedAgainLaw
accepted_again model commands entries right =
    accepted_or_wide entries (trials model (report_of model entries))
    (joined (paired_trials same_note 2 model.notes model.notes) (entries_trials model [] entries) (notes_unfailed 2 model.notes) (entries_unfailed model [] entries right.each))
