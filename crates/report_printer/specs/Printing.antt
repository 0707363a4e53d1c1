-- What can be printed, and the parts of a printed report.
use Rattle.std.specs.Prelude.{◌≡◌, ℕ, ◌<◌, List, [], ◌∷◌, ◌++◌, length, map, codes, Option, All}
use Rattle.lp_model.specs.declared.parts.Note.{Note}
use Rattle.lp_model.specs.Program.{Program}
use Rattle.rational.specs.Rational.{ℚ}
use Rattle.lp_model.specs.declared.members.Side.{Side}
use Rattle.certs.specs.Checks.{IsSetOf}
pub use Rattle.report_printer.specs.Evidence.{ended, IsKnownMember, IsKnownSource, IsKnownNode, IsKnownProof, IsKnownPoint, IsKnownRay, IsKnownBounded, IsKnownLeast, IsKnownPrice, IsKnownSite, IsKnownStop, IsKnownStep}
use Rattle.report_text.specs.declared.report.Core.{Core}
use Rattle.report_text.specs.declared.report.Answer.{Answer}
use Rattle.report_text.specs.declared.report.Answer.TheVariants.{Feasible, Infeasible, Irreducible, Unbounded as RunsAway, Bounded as BoundedBy, Least as LeastBy, RigidInfeasible as RigidRefuted, Reduced as ReducedTo, Done, Refused, NotLinear, Stopped}
use Rattle.report_text.specs.declared.report.Report.{Report}
use Rattle.report_text.specs.Turns.{after, gathered}
use Rattle.report_text.specs.Grammar.{joined, side_word, limit_word, entry_phrases, report_lines, phrases_text, text_of}
use Rattle.report_text.specs.declared.phrases.Phrase.{Phrase}
use Rattle.report_text.specs.Form.{IsAnswerFor}

-- behind a text stand words, with a blank between two of them
abbrev pub Adds : List ℕ → List (List ℕ) → List ℕ → Type 0
Adds old words new = new ≡ old ++ joined words

-- the words of an edit that sets a side of a row, or a bound of a column, by the word for which of them it is of
abbrev pub set_words : List ℕ → Side → Option ℚ → List ℕ → List (List ℕ)
set_words place side limit name = codes "set" ∷ place ∷ name ∷ side_word side ∷ limit_word limit ∷ []

-- ---- what can be printed
-- members of the program, points, a proof, and a price where it is told
pub record IsKnownCore (model : Program) (core : Core) : Type 0 where
  pub members : IsSetOf model core.members
  pub points : All (IsKnownPoint model) core.witnesses
  pub proof : IsKnownProof model core.proof
  pub price : IsKnownPrice model core.price

-- an answer of such parts
abbrev pub IsKnownAnswer : Program → Answer → Type 0
IsKnownAnswer model (Feasible p) = IsKnownPoint model p
IsKnownAnswer model (Infeasible set proof) = IsSetOf model set × IsKnownProof model proof
IsKnownAnswer model (Irreducible core) = IsKnownCore model core
IsKnownAnswer model (RunsAway p ray) = IsKnownPoint model p × IsKnownRay model ray
IsKnownAnswer model (BoundedBy b) = IsKnownBounded model b
IsKnownAnswer model (LeastBy p dual) = IsKnownLeast model p dual
IsKnownAnswer model (RigidRefuted set proof) = IsSetOf model set × IsKnownProof model proof
IsKnownAnswer model (ReducedTo r) = All (IsKnownStep model) r.steps
IsKnownAnswer model (NotLinear j) = j < length model.columns
IsKnownAnswer model (Stopped stop) = IsKnownStop model stop
IsKnownAnswer model _ = Unit {0}

-- ---- the parts of a report
-- what stands before the entries
abbrev pub head_phrases : List Note → List Phrase
head_phrases notes = Phrase.Head ∷ map Phrase.Note notes

-- ---- laws
-- what is in the form of an answer can be printed
abbrev pub CanPrintLaw : Type 0
CanPrintLaw = (model : Program) (answer : Answer) → IsAnswerFor model answer → IsKnownAnswer model answer

-- the text of a report is the head, the entries one after another, each by the program after the commands before it, and the foot
abbrev pub PartsLaw : Type 0
PartsLaw = (model : Program) (report : Report) → text_of (report_lines model report)
    ≡ phrases_text model (head_phrases report.notes) ++ (gathered (λ before e. phrases_text model (entry_phrases (after model before) e)) [] report.entries ++ phrases_text model (Phrase.Foot ∷ []))
