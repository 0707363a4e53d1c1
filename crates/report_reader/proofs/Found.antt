-- What is found in a phrase is what it says.
use Rattle.std.proofs.Common.{◌≡◌, refl, ap, ℕ, true, true≢false, sym, Some, List, ◌∷◌}
use Rattle.algebra.specs.Gcd.{gcd, gcd_within}
use Rattle.rational.specs.Rational.{ℚ, frac, zero_ℚ}
use Rattle.frac128.specs.declared.Op.TheVariants.{Plus}
use Rattle.lp_model.specs.Program.{Program}
use Rattle.phrase_reader.specs.Phrases.{IsPhraseFor}
use Rattle.report_text.specs.Form.{IsWithinLimit, IsOperation}
use Rattle.lp_model.specs.declared.parts.Note.{Note}
use Rattle.lp_model.specs.declared.members.Member.{Member}
use Rattle.certs.specs.declared.evidence.Branch.{Branch}
use Rattle.certs.specs.declared.evidence.Share.{Share}
use Rattle.certs.specs.declared.solving.SiteKind.{SiteKind}
use Rattle.frac128.specs.declared.Wide.{Wide as Operation}
use Rattle.reductions.specs.declared.steps.ReduceStep.{ReduceStep}
use Rattle.report_text.specs.declared.phrases.Phrase.{Phrase}
use Rattle.report_text.specs.declared.phrases.StopPhrase.{StopPhrase}
use Rattle.report_reader.specs.declared.cursor.Word.{Word}
use Rattle.report_reader.specs.declared.lists.Listing.{Listing}
use Rattle.report_reader.specs.declared.numbers.Number.{Number}
use Rattle.report_reader.specs.Things.{phrase_of, is_word, number_phrase, number_of, rounds_of, turn_of, left_of, site_of, operation_of, value_of, share_of, branch_of, step_of, note_of, member_phrase, member_of}

pub word_is : (w : Word) (q : Phrase) → is_word w q ≡ true → q ≡ phrase_of w
word_is Word.Head Phrase.Head h = refl
word_is Word.Feasible Phrase.Feasible h = refl
word_is Word.Infeasible Phrase.Infeasible h = refl
word_is Word.Irreducible Phrase.Irreducible h = refl
word_is Word.Unbounded Phrase.Unbounded h = refl
word_is Word.Bounded Phrase.Bounded h = refl
word_is Word.Least Phrase.Least h = refl
word_is Word.RigidInfeasible Phrase.RigidInfeasible h = refl
word_is Word.Reduced Phrase.Reduced h = refl
word_is Word.Wide (Phrase.Stop StopPhrase.Wide) h = refl
word_is Word.Spent (Phrase.Stop StopPhrase.Spent) h = refl
word_is Word.Nodes (Phrase.Stop StopPhrase.Nodes) h = refl
word_is Word.Point Phrase.Point h = refl
word_is Word.Ray Phrase.Ray h = refl
word_is Word.Dual Phrase.Dual h = refl
word_is Word.Price Phrase.Price h = refl
word_is Word.Proof Phrase.Proof h = refl
word_is Word.End Phrase.End h = refl
word_is w q h = absurd (true≢false (sym h))

pub word_itself : (w : Word) → is_word w (phrase_of w) ≡ true
word_itself Word.Head = refl
word_itself w = refl

pub rounds_finds : (q : Phrase) (x : ℕ) → rounds_of q ≡ Some x → q ≡ Phrase.Rounds x
rounds_finds (Phrase.Rounds n) x h = let same : n ≡ x = cc in ap (λ y. Phrase.Rounds y) same
rounds_finds q x h = absurd (cc)

pub turn_finds : (q : Phrase) (x : ℕ) → turn_of q ≡ Some x → q ≡ Phrase.Stop (StopPhrase.Step x)
turn_finds (Phrase.Stop (StopPhrase.Step n)) x h = let same : n ≡ x = cc in ap (λ y. Phrase.Stop (StopPhrase.Step y)) same
turn_finds q x h = absurd (cc)

pub left_finds : (q : Phrase) (x : ℕ × ℕ) → left_of q ≡ Some x → q ≡ Phrase.Left x.0 x.1
left_finds (Phrase.Left m n) x h = let same : (m, n) ≡ x = cc in ap (λ y. Phrase.Left y.0 y.1) same
left_finds q x h = absurd (cc)

pub site_finds : (q : Phrase) (x : SiteKind) → site_of q ≡ Some x → q ≡ Phrase.Stop (StopPhrase.Site x)
site_finds (Phrase.Stop (StopPhrase.Site n)) x h = let same : n ≡ x = cc in ap (λ y. Phrase.Stop (StopPhrase.Site y)) same
site_finds q x h = absurd (cc)

pub operation_finds : (q : Phrase) (x : Operation) → operation_of q ≡ Some x → q ≡ Phrase.Stop (StopPhrase.Operation x)
operation_finds (Phrase.Stop (StopPhrase.Operation n)) x h = let same : n ≡ x = cc in ap (λ y. Phrase.Stop (StopPhrase.Operation y)) same
operation_finds q x h = absurd (cc)

pub value_finds : (q : Phrase) (x : ℕ × ℚ) → value_of q ≡ Some x → q ≡ Phrase.Value x.0 x.1
value_finds (Phrase.Value j v) x h = let same : (j, v) ≡ x = cc in ap (λ y. Phrase.Value y.0 y.1) same
value_finds q x h = absurd (cc)

pub share_finds : (q : Phrase) (x : Share) → share_of q ≡ Some x → q ≡ Phrase.Use x
share_finds (Phrase.Use n) x h = let same : n ≡ x = cc in ap (λ y. Phrase.Use y) same
share_finds q x h = absurd (cc)

pub branch_finds : (q : Phrase) (x : Branch) → branch_of q ≡ Some x → q ≡ Phrase.Stop (StopPhrase.Branch x)
branch_finds (Phrase.Stop (StopPhrase.Branch n)) x h = let same : n ≡ x = cc in ap (λ y. Phrase.Stop (StopPhrase.Branch y)) same
branch_finds q x h = absurd (cc)

pub step_finds : (q : Phrase) (x : ReduceStep) → step_of q ≡ Some x → q ≡ Phrase.Reduction x
step_finds (Phrase.Reduction n) x h = let same : n ≡ x = cc in ap (λ y. Phrase.Reduction y) same
step_finds q x h = absurd (cc)

pub note_finds : (q : Phrase) (x : Note) → note_of q ≡ Some x → q ≡ Phrase.Note x
note_finds (Phrase.Note n) x h = let same : n ≡ x = cc in ap (λ y. Phrase.Note y) same
note_finds q x h = absurd (cc)

pub number_finds : (n : Number) (q : Phrase) (x : ℚ) → number_of n q ≡ Some x → q ≡ number_phrase n x
number_finds Number.Objective (Phrase.Objective v) x h = let same : v ≡ x = cc in ap Phrase.Objective same
number_finds Number.Bound (Phrase.Bound v) x h = let same : v ≡ x = cc in ap Phrase.Bound same
number_finds Number.Total (Phrase.Total v) x h = let same : v ≡ x = cc in ap Phrase.Total same
number_finds n q x h = absurd (cc)

pub number_says : (n : Number) (x : ℚ) → number_of n (number_phrase n x) ≡ Some x
number_says Number.Objective x = refl
number_says Number.Bound x = refl
number_says Number.Total x = refl

pub member_finds : (l : Listing) (q : Phrase) (x : Member) → member_of l q ≡ Some x → q ≡ member_phrase l x
member_finds Listing.Listed (Phrase.Member m) x h = let same : m ≡ x = cc in ap Phrase.Member same
member_finds Listing.LeftOut (Phrase.Stop (StopPhrase.Without m)) x h = let same : m ≡ x = cc in ap (λ n. Phrase.Stop (StopPhrase.Without n)) same
member_finds Listing.Enforced (Phrase.Stop (StopPhrase.Enforced m)) x h = let same : m ≡ x = cc in ap (λ n. Phrase.Stop (StopPhrase.Enforced n)) same
member_finds l q x h = absurd (cc)

pub member_says : (l : Listing) (x : Member) → member_of l (member_phrase l x) ≡ Some x
member_says Listing.Listed x = refl
member_says Listing.LeftOut x = refl
member_says Listing.Enforced x = refl

pub number_is : (model : Program) (n : Number) (x : ℚ) → IsPhraseFor model (number_phrase n x) → IsWithinLimit x
number_is model Number.Objective x h = h
number_is model Number.Bound x h = h
number_is model Number.Total x h = h

-- an operation that may stand in a stop
abbrev pub zeros : Operation
zeros = record { op = Plus; left = zero_ℚ; right = zero_ℚ }

pub zeros_fit : IsOperation zeros
unfolding frac gcd gcd_within
zeros_fit = record { left = refl; right = refl }

pub number_one : (n : Number) (a b : ℚ) (l m : List Phrase) → number_phrase n a ∷ l ≡ number_phrase n b ∷ m → a ≡ b
number_one Number.Objective a b l m e = let p : Phrase.Objective a ≡ Phrase.Objective b = cc in cc
number_one Number.Bound a b l m e = let p : Phrase.Bound a ≡ Phrase.Bound b = cc in cc
number_one Number.Total a b l m e = let p : Phrase.Total a ≡ Phrase.Total b = cc in cc
