-- The lines of phrases by the rows of the table.
use Rattle.std.specs.Prelude.{ℕ, ◌<◌, List, [], ◌∷◌, ◌++◌, length, flat_map}
use Rattle.lp_model.specs.Program.{Program}
use Rattle.report_text.specs.declared.phrases.Phrase.{Phrase}
use Rattle.report_text.specs.declared.table.Kind.{Kind}
use Rattle.report_text.specs.declared.table.Given.{Given}
use Rattle.report_text.specs.Grammar.{Line, spelled, keyword_text, keyword_of, kinds_of, words_at, given_of}
use Rattle.report_text.specs.Form.{IsWithinLimit, IsCount}
use Rattle.report_printer.specs.Evidence.{IsKnownMember, IsKnownSource}

-- words behind others, each behind a blank
abbrev pub behind : List (List ℕ) → List ℕ
behind [] = []
behind (word ∷ []) = 32 ∷ word
behind (word ∷ next ∷ words) = 32 ∷ (word ++ behind (next ∷ words))

-- the line of a phrase that is no command, by its row
abbrev pub row_line : Program → Phrase → Line
row_line model p = spelled (keyword_text (keyword_of p)) (flat_map (words_at model (given_of p)) (kinds_of (keyword_of p)))

-- the row or the column that is given is there
abbrev pub IsThere : Program → Given → Kind → Type 0
IsThere model g Kind.Row = g.row < length model.rows
IsThere model g Kind.Column = g.column < length model.columns
IsThere model g Kind.Member = IsKnownMember model g.member
IsThere model g Kind.Source = IsKnownSource model g.source
IsThere model g k = Unit {0}

abbrev pub AreThere : Program → Given → List Kind → Type 0
AreThere model g [] = Unit {0}
AreThere model g (k ∷ ks) = IsThere model g k × AreThere model g ks

-- those of a phrase are
abbrev pub IsKnownPhrase : Program → Phrase → Type 0
IsKnownPhrase model p = AreThere model (given_of p) (kinds_of (keyword_of p))

-- fractions within the limit, and counts of 64 bits
pub record IsGivenWithin (g : Given) : Type 0 where
  pub value : IsWithinLimit g.value
  pub right : IsWithinLimit g.right
  pub count : IsCount g.count
  pub second : IsCount g.second
