-- What the words of a line say, by the kinds of what stands behind its keyword.
use Rattle.std.specs.Prelude.{◌≡◌, ⊤, ℕ, ◌^◌, ◌≤◌, ◌==◌, nat_lt, Bool, true, false, ◌&&◌, ℤ, pos, int_lt, unsigned_abs, List, [], ◌∷◌, codes, Option, Some, None, option_map, cond, find, position, IfSome, decimal}
use Rattle.std.specs.Fmt.{signed_decimal}
use Rattle.std.specs.Option.{option_and_then}
use Rattle.std.specs.Str.{bytes_eq}
use Rattle.rational.specs.Rational.{ℚ, zero_ℚ, eq_ℚ, lt_q}
use Rattle.frac128.specs.declared.Op.{Op}
use Rattle.frac128.specs.declared.Op.TheVariants.{Plus, Minus, Times, Over}
use Rattle.frac128.specs.Limit.{limit}
use Rattle.frac128.specs.Printed.{printed}
use Rattle.frac128.specs.Literal.{number_of}
use Rattle.lp_model.specs.Program.{Program}
use Rattle.lp_model.specs.Shown.{row_names, column_names}
use Rattle.lp_model.specs.declared.members.Side.{Side}
use Rattle.lp_model.specs.declared.members.Side.TheVariants.{Lo, Up}
use Rattle.lp_model.specs.declared.members.Member.{Member}
use Rattle.lp_model.specs.declared.members.Member.TheVariants.{RowLo, RowUp, Lower, Upper, Whole}
use Rattle.certs.specs.declared.evidence.Source.{Source}
use Rattle.certs.specs.declared.evidence.Source.TheVariants.{Member as Of, Below, Above}
use Rattle.certs.specs.declared.solving.SiteKind.{SiteKind}
use Rattle.certs.specs.declared.solving.SiteKind.TheVariants.{Settle, Improve, Stretch, Relax, Alternative}
use Rattle.report_text.specs.declared.phrases.Keyword.{Keyword}
use Rattle.report_text.specs.declared.phrases.Phrase.{Phrase}
use Rattle.report_text.specs.declared.table.Kind.{Kind}
use Rattle.report_text.specs.declared.table.Given.{Given}
use Rattle.report_text.specs.declared.report.Command.{Command}
use Rattle.report_text.specs.declared.report.Command.TheVariants.{Edit, Pivots, Nodes}
use Rattle.report_text.specs.declared.report.EditKind.{EditKind}
use Rattle.report_text.specs.declared.table.TheConstants.{KEYWORDS}
use Rattle.report_text.specs.Grammar.{limit_word, weight_word, met_word, site_word, op_word, noted_word, word_text, keyword_text, keyword_of, kinds_of, no_given, phrase_by, details}
use Rattle.report_text.specs.Form.{is_word, IsWithinLimit, IsCount}
use Rattle.phrase_reader.specs.Phrases.{IsPhraseFor}
use Rattle.phrase_reader.specs.Numerals.{fraction_in}

-- a result is the one element that something is said of, and none where there is no such element
pub record Finds {X : Type 0} (Is : X → Type 0) (result : Option X) : Type 0 where
  pub found : IfSome result Is
  pub all : (x : X) → Is x → result ≡ Some x

-- ---- single words
-- the row, or the column, of the name
abbrev pub row_in : Program → List ℕ → Option ℕ
row_in model name = cond (is_word name) (position (bytes_eq name) (row_names model)) None

abbrev pub column_in : Program → List ℕ → Option ℕ
column_in model name = cond (is_word name) (position (bytes_eq name) (column_names model)) None

-- the member of that kind with the name
abbrev pub member_in : Program → List ℕ → List ℕ → Option Member
member_in model kind name =
    cond (bytes_eq kind (codes "rowlo")) (option_map RowLo (row_in model name))
    (cond (bytes_eq kind (codes "rowup")) (option_map RowUp (row_in model name))
    (cond (bytes_eq kind (codes "lower")) (option_map Lower (column_in model name))
    (cond (bytes_eq kind (codes "upper")) (option_map Upper (column_in model name))
    (cond (bytes_eq kind (codes "whole")) (option_map Whole (column_in model name)) None))))

-- where a share comes from, by the word and the name
abbrev pub source_in : Program → List ℕ → List ℕ → Option Source
source_in model word name =
    cond (bytes_eq word (codes "below")) (option_map Below (column_in model name))
    (cond (bytes_eq word (codes "above")) (option_map Above (column_in model name))
    (option_map Of (member_in model word name)))

-- the side of a row that is met, the kind of a site, that of an operation, and whether a bound was kept
abbrev pub met_in : List ℕ → Option Side
met_in word = find (λ s. bytes_eq word (met_word s)) (Lo ∷ Up ∷ [])

abbrev pub site_in : List ℕ → Option SiteKind
site_in word = find (λ k. bytes_eq word (site_word k)) (Settle ∷ Improve ∷ Stretch ∷ Relax ∷ Alternative ∷ [])

abbrev pub op_in : List ℕ → Option Op
op_in word = find (λ o. bytes_eq word (op_word o)) (Plus ∷ Minus ∷ Times ∷ Over ∷ [])

abbrev pub noted_in : List ℕ → Option Bool
noted_in word = find (λ b. bytes_eq word (noted_word b)) (true ∷ false ∷ [])

-- a number that is not 0, and one above 0
abbrev pub nonzero : ℚ → Option ℚ
nonzero v = cond (eq_ℚ v zero_ℚ) None (Some v)

abbrev pub positive : ℚ → Option ℚ
positive v = cond (lt_q zero_ℚ v) (Some v) None

-- the numerator of a whole number, and one below the limit
abbrev pub numerator : ℚ → Option ℤ
numerator v = cond (v.den == 1) (Some v.num) None

abbrev pub below_limit : ℤ → Option ℤ
below_limit k = cond (int_lt k (pos limit)) (Some k) None

-- the whole number that is printed so
abbrev pub whole_in : List ℕ → Option ℤ
whole_in word = option_and_then numerator (fraction_in word)

-- the count that is printed so
abbrev pub count_as : List ℕ → ℕ → Option ℕ
count_as word n = cond (nat_lt n (2 ^ 64) && bytes_eq word (decimal n)) (Some n) None

abbrev pub count_in : List ℕ → Option ℕ
count_in word = count_as word (number_of word)

-- ---- lines, by kinds
-- what is given with the word of a kind
abbrev pub word_in : Program → Kind → List ℕ → Given → Option Given
word_in model (Kind.Word w) word g = cond (bytes_eq word (word_text w)) (Some g) None
word_in model Kind.Row word g = option_map (λ i. record g { row = i }) (row_in model word)
word_in model Kind.Column word g = option_map (λ j. record g { column = j }) (column_in model word)
word_in model Kind.Member word g = None
word_in model Kind.Source word g = None
word_in model Kind.Side word g = option_map (λ s. record g { side = s }) (met_in word)
word_in model Kind.Site word g = option_map (λ k. record g { site = k }) (site_in word)
word_in model Kind.Op word g = option_map (λ o. record g { op = o }) (op_in word)
word_in model Kind.Noted word g = option_map (λ b. record g { kept = b }) (noted_in word)
word_in model Kind.Fraction word g = option_map (λ v. record g { value = v }) (fraction_in word)
word_in model Kind.Nonzero word g = option_map (λ v. record g { value = v }) (option_and_then nonzero (fraction_in word))
word_in model Kind.Positive word g = option_map (λ v. record g { value = v }) (option_and_then positive (fraction_in word))
word_in model Kind.Right word g = option_map (λ v. record g { right = v }) (fraction_in word)
word_in model Kind.Whole word g = option_map (λ k. record g { at = k }) (whole_in word)
word_in model Kind.Split word g = option_map (λ k. record g { at = k }) (option_and_then below_limit (whole_in word))
word_in model Kind.Count word g = option_map (λ n. record g { count = n }) (count_in word)
word_in model Kind.Second word g = option_map (λ n. record g { second = n }) (count_in word)

-- what is given with the words of a kind, and the words behind them
abbrev pub kind_in : Program → Kind → List (List ℕ) → Given → Option (Given × List (List ℕ))
kind_in model k [] g = None
kind_in model Kind.Member (kind ∷ name ∷ ws) g = option_map (λ m. (record g { member = m }, ws)) (member_in model kind name)
kind_in model Kind.Source (word ∷ name ∷ ws) g = option_map (λ s. (record g { source = s }, ws)) (source_in model word name)
kind_in model k (word ∷ ws) g = option_map (λ h. (h, ws)) (word_in model k word g)

-- what is given with words, by their kinds
abbrev pub given_in : Program → List Kind → List (List ℕ) → Given → Option Given
given_in model [] [] g = Some g
given_in model [] (word ∷ ws) g = None
given_in model (k ∷ ks) ws g = option_and_then (λ r. given_in model ks r.1 r.0) (kind_in model k ws g)

-- a word may be of the kind: that of one that stands as it is
abbrev pub starts : Kind → List ℕ → Bool
starts (Kind.Word w) word = bytes_eq word (word_text w)
starts k word = true

-- words may be of such kinds, by the first
abbrev pub fits : List Kind → List (List ℕ) → Bool
fits [] [] = true
fits [] (word ∷ ws) = false
fits (k ∷ ks) [] = false
fits (k ∷ ks) (word ∷ ws) = starts k word

-- the word is this keyword's, and the words behind it may be
abbrev pub begins : List ℕ → List (List ℕ) → Keyword → Bool
begins first ws k = bytes_eq first (keyword_text k) && fits (kinds_of k) ws

-- what words say behind a keyword
abbrev pub row_said : Program → List (List ℕ) → Keyword → Option Phrase
row_said model ws k = option_and_then (phrase_by k) (given_in model (kinds_of k) ws no_given)

-- what a word and those behind it say, where it is not that of a command
abbrev pub line_said : Program → List ℕ → List (List ℕ) → Option Phrase
line_said model first ws = option_and_then (row_said model ws) (find (begins first ws) KEYWORDS)

-- ---- commands
-- the phrase has this keyword and these words behind it
pub record IsSpelled (model : Program) (k : Keyword) (words : List (List ℕ)) (p : Phrase) : Type 0 where
  pub form : IsPhraseFor model p
  pub keyword : keyword_of p ≡ k
  pub behind : words ≡ details model p

-- the fraction is printed so
abbrev pub IsFractionSaid : List ℕ → ℚ → Type 0
IsFractionSaid text q = IsWithinLimit q × (text ≡ printed q)

-- The whole number is printed so, in decimal without leading zeros, with a `-` where it is negative. Its magnitude is that of a fraction's part.
abbrev pub IsWholeSaid : List ℕ → ℤ → Type 0
IsWholeSaid text k = (unsigned_abs k ≤ limit) × (text ≡ signed_decimal k)

-- the count is printed so, in decimal without leading zeros
abbrev pub IsCountSaid : List ℕ → ℕ → Type 0
IsCountSaid text n = IsCount n × (text ≡ decimal n)

-- the number of an edit, where it has one, is printed so
abbrev pub IsPlainEdit : List ℕ → EditKind → Type 0
IsPlainEdit word (EditKind.Weigh t w) = word ≡ weight_word w
IsPlainEdit word (EditKind.SetSide side v) = word ≡ limit_word v
IsPlainEdit word (EditKind.SetBound side v) = word ≡ limit_word v
IsPlainEdit word kind = ⊤

-- the number of a command, where it has one, is printed so
abbrev pub IsPlain : List ℕ → Command → Type 0
IsPlain word (Edit e) = IsPlainEdit word e.kind
IsPlain word (Pivots n) = word ≡ decimal n
IsPlain word (Nodes n) = word ≡ decimal n
IsPlain word c = ⊤
