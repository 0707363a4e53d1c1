-- What is asked of what is given, by its kind; and by the kinds of its line, what is asked of a phrase.
use Rattle.std.proofs.Common.{◌≡◌, ◌≢◌, refl, ◌≤◌, Bool, true, false, List, [], ◌∷◌, pos, unsigned_abs}
use Rattle.std.specs.Prelude.{neg_ℤ, ◌≤ℤ◌, ◌<ℤ◌, flat_map}
use Rattle.rational.specs.Rational.{zero_ℚ, ◌<ℚ◌}
use Rattle.frac128.specs.Limit.{limit}
use Rattle.lp_model.specs.Program.{Program}
use Rattle.lp_model.specs.declared.parts.Note.TheVariants.{LowerRemoved, LowerKept}
use Rattle.reductions.specs.declared.steps.ReduceStep.TheVariants.{Empty, Forcing}
use Rattle.report_text.specs.declared.report.Refusal.{Refusal}
use Rattle.report_text.specs.declared.phrases.Keyword.{Keyword}
use Rattle.report_text.specs.declared.phrases.Phrase.{Phrase}
use Rattle.report_text.specs.declared.phrases.StopPhrase.{StopPhrase}
use Rattle.report_text.specs.declared.table.Kind.{Kind}
use Rattle.report_text.specs.declared.table.Given.{Given}
use Rattle.report_text.specs.Grammar.{branch_keyword, kinds_of, words_at, keyword_of, given_of, details}
use Rattle.report_text.specs.Form.{IsNamedRow, IsNamedColumn, IsNamedMember, IsNamedSource, IsWithinLimit, IsCount}
use Rattle.phrase_reader.specs.Phrases.{IsPhraseFor}

-- the part of a kind names what there is, by a word, and its number fits
abbrev pub IsFit : Program → Given → Kind → Type 0
IsFit model g Kind.Row = IsNamedRow model g.row
IsFit model g Kind.Column = IsNamedColumn model g.column
IsFit model g Kind.Member = IsNamedMember model g.member
IsFit model g Kind.Source = IsNamedSource model g.source
IsFit model g Kind.Fraction = IsWithinLimit g.value
IsFit model g Kind.Nonzero = IsWithinLimit g.value × (g.value ≢ zero_ℚ)
IsFit model g Kind.Positive = (zero_ℚ <ℚ g.value) × IsWithinLimit g.value
IsFit model g Kind.Right = IsWithinLimit g.right
IsFit model g Kind.Whole = unsigned_abs g.at ≤ limit
IsFit model g Kind.Split = (neg_ℤ (pos limit) ≤ℤ g.at) × (g.at <ℤ pos limit)
IsFit model g Kind.Count = IsCount g.count
IsFit model g Kind.Second = IsCount g.second
IsFit model g k = Unit {0}

-- those of all kinds do
abbrev pub AreFit : Program → Given → List Kind → Type 0
AreFit model g [] = Unit {0}
AreFit model g (k ∷ ks) = IsFit model g k × AreFit model g ks

-- the same as a phrase says it: nothing of words that stand as they are, and the last without more
abbrev pub AreSo : Program → Given → List Kind → Type 0
AreSo model g [] = Unit {0}
AreSo model g (Kind.Word w ∷ ks) = AreSo model g ks
AreSo model g (k ∷ []) = IsFit model g k
AreSo model g (k ∷ l ∷ ks) = IsFit model g k × AreSo model g (l ∷ ks)

pub fit_so : (model : Program) (g : Given) (ks : List Kind) → AreFit model g ks → AreSo model g ks
fit_so model g [] h = tt
fit_so model g (Kind.Word w ∷ ks) h = fit_so model g ks h.1
fit_so model g (k ∷ []) h = h.0
fit_so model g (k ∷ l ∷ ks) h = (h.0, fit_so model g (l ∷ ks) h.1)

pub so_fit : (model : Program) (g : Given) (ks : List Kind) → AreSo model g ks → AreFit model g ks
so_fit model g [] h = tt
so_fit model g (Kind.Word w ∷ ks) h = (tt, so_fit model g ks h)
so_fit model g (k ∷ []) h = (h, tt)
so_fit model g (k ∷ l ∷ ks) h = (h.0, so_fit model g (l ∷ ks) h.1)

-- what is asked of a phrase is asked of what is given of it
pub phrase_fits : (model : Program) (p : Phrase) → IsPhraseFor model p → AreSo model (given_of p) (kinds_of (keyword_of p))
phrase_fits model (Phrase.Command c) h = tt
phrase_fits model (Phrase.Note (LowerRemoved j)) h = (h, tt)
phrase_fits model (Phrase.Note (LowerKept j)) h = (h, tt)
phrase_fits model (Phrase.Use s) h = (h.named, (h.positive, h.fits))
phrase_fits model (Phrase.Refused Refusal.UnknownName) h = tt
phrase_fits model (Phrase.Reduction (Empty i)) h = h
phrase_fits model (Phrase.Reduction (Forcing i side)) h = (h, tt)
phrase_fits model (Phrase.Stop (StopPhrase.Operation o)) h = (tt, (h.left, h.right))
phrase_fits model (Phrase.Stop (StopPhrase.Branch b)) h = by b.upper
  where
    by : (upper : Bool) → AreSo model (given_of (Phrase.Stop (StopPhrase.Branch b))) (kinds_of (branch_keyword upper))
    by true = (h.named, h.fits)
    by false = (h.named, h.fits)
phrase_fits model p h = h

-- the words of a phrase but a command go by the kinds of its line
pub by_kinds : (model : Program) (p : Phrase) → keyword_of p ≢ Keyword.Command → details model p ≡ flat_map (words_at model (given_of p)) (kinds_of (keyword_of p))
by_kinds model (Phrase.Command c) other = absurd (other refl)
by_kinds model (Phrase.Stop (StopPhrase.Branch b)) other = by b.upper
  where
    by : (upper : Bool) → details model (Phrase.Stop (StopPhrase.Branch b)) ≡ flat_map (words_at model (given_of (Phrase.Stop (StopPhrase.Branch b)))) (kinds_of (branch_keyword upper))
    by true = refl
    by false = refl
by_kinds model p other = refl
