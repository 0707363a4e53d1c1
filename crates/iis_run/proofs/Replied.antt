-- The trials of an edit or an undo that is answered right are not failed, and those of notes beside themselves.
use Rattle.std.proofs.Common.{◌≡◌, ◌+◌, refl, sym, subst, ℕ, true, List, [], ◌∷◌, Some, eq-eqb}
use Rattle.std.specs.Prelude.{All}
use Rattle.std.proofs.lemmas.List.Elements.{All-cons, All-nil}
use Rattle.lp_model.specs.declared.parts.Note.{Note}
use Rattle.lp_model.specs.declared.parts.Note.TheVariants.{LowerRemoved, LowerKept}
use Rattle.lp_model.specs.Program.{Program}
use Rattle.report_text.specs.contracts.report.RefusalPartialEq.TheImpl.{ghosts as refusal_test}
use Rattle.report_text.specs.declared.report.Answer.{Answer}
use Rattle.report_text.specs.declared.report.Answer.TheVariants.{Done, Refused}
use Rattle.report_text.specs.declared.report.Refusal.{Refusal}
use Rattle.report_text.specs.Session.{IsReply}
use Rattle.cert_check.specs.Trials.{said, answer_trials, paired_trials, reply_trials, same_note, same_reply}
use Rattle.iis_run.proofs.Unfailed.{AreUnfailed, nothing, alone, said_true, paired_unfailed}

-- ---- notes
note_itself : (note : Note) → same_note note note ≡ true
note_itself (LowerRemoved j) = eq-eqb j j refl
note_itself (LowerKept j) = eq-eqb j j refl

notes_themselves : (notes : List Note) → All (λ note. same_note note note ≡ true) notes
notes_themselves [] = All-nil (λ note. same_note note note ≡ true)
notes_themselves (note ∷ notes) = All-cons (λ k. same_note k k ≡ true) note notes (note_itself note) (notes_themselves notes)

pub notes_unfailed : (n : ℕ) (notes : List Note) → AreUnfailed (paired_trials same_note n notes notes)
notes_unfailed n notes = paired_unfailed same_note n notes (notes_themselves notes)

-- ---- answers to edits and undos
refusal_itself : (r : Refusal) → refusal_test.eq r r ≡ true
refusal_itself Refusal.UnknownName = refl
refusal_itself Refusal.NoChange = refl
refusal_itself Refusal.NothingToUndo = refl

reply_itself : (a : Answer) → IsReply a → same_reply a a ≡ true
reply_itself Done h = refl
reply_itself (Refused r) h = refusal_itself r
reply_itself _ h = absurd h

pub reply_unfailed : (n : ℕ) (right a : Answer) → a ≡ right → IsReply right → AreUnfailed (reply_trials (Some right) n a)
reply_unfailed n right a is h =
    subst (λ (b : Answer). AreUnfailed (reply_trials (Some right) n b)) (sym is)
    (alone (n + 1) (said (same_reply right right)) (said_true (same_reply right right) (reply_itself right h)))

-- nothing is tried of the program
no_trials : (model : Program) (n : ℕ) (a : Answer) → IsReply a → AreUnfailed (answer_trials model n a)
no_trials model n Done h = nothing
no_trials model n (Refused r) h = nothing
no_trials model n _ h = absurd h

pub done_unfailed : (model : Program) (n : ℕ) (right a : Answer) → a ≡ right → IsReply right → AreUnfailed (answer_trials model n a)
done_unfailed model n right a is h = subst (λ (b : Answer). AreUnfailed (answer_trials model n b)) (sym is) (no_trials model n right h)
