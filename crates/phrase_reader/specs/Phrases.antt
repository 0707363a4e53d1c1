-- What a line says, by the names of a program.
use Rattle.std.specs.Prelude.{◌≡◌, ◌≢◌}
use Rattle.rational.specs.Rational.{zero_ℚ}
use Rattle.lp_model.specs.Program.{Program, noted_column}
use Rattle.certs.specs.declared.evidence.Node.TheVariants.{Split}
use Rattle.report_text.specs.declared.phrases.Phrase.{Phrase}
use Rattle.report_text.specs.declared.phrases.StopPhrase.{StopPhrase}
use Rattle.report_text.specs.Grammar.{Line, phrase_line}
use Rattle.report_text.specs.Form.{IsNamedBranch, IsNamedColumn, IsNamedMember, IsWithinLimit, IsUse, IsNodeFor, IsCommand, IsCount, IsOperation, IsStepFor}

-- the numbers of what is said of a stop fit, and names are words
abbrev pub IsStopPhrase : Program → StopPhrase → Type 0
IsStopPhrase model (StopPhrase.Without m) = IsNamedMember model m
IsStopPhrase model (StopPhrase.Enforced m) = IsNamedMember model m
IsStopPhrase model (StopPhrase.Branch b) = IsNamedBranch model b
IsStopPhrase model (StopPhrase.Step k) = IsCount k
IsStopPhrase model (StopPhrase.Operation o) = IsOperation o
IsStopPhrase model (StopPhrase.Large size) = IsCount size
IsStopPhrase model _ = Unit {0}

-- its names are words of the program, its numbers fit, a value of a point is not 0, a weight is above 0 and a budget within its bound
abbrev pub IsPhraseFor : Program → Phrase → Type 0
IsPhraseFor model (Phrase.Note note) = IsNamedColumn model (noted_column note)
IsPhraseFor model (Phrase.Value j v) = IsNamedColumn model j × (IsWithinLimit v × (v ≢ zero_ℚ))
IsPhraseFor model (Phrase.Objective v) = IsWithinLimit v
IsPhraseFor model (Phrase.Bound v) = IsWithinLimit v
IsPhraseFor model (Phrase.Total v) = IsWithinLimit v
IsPhraseFor model (Phrase.Rounds n) = IsCount n
IsPhraseFor model (Phrase.NotLinear j) = IsNamedColumn model j
IsPhraseFor model (Phrase.Member m) = IsNamedMember model m
IsPhraseFor model (Phrase.Use s) = IsUse model s
IsPhraseFor model (Phrase.Command c) = IsCommand c
IsPhraseFor model (Phrase.Stop s) = IsStopPhrase model s
IsPhraseFor model (Phrase.Split j k) = IsNodeFor model (Split j k)
IsPhraseFor model (Phrase.Reduction s) = IsStepFor model s
IsPhraseFor model (Phrase.Left rows columns) = IsCount rows × IsCount columns
IsPhraseFor model _ = Unit {0}

-- the line says it
pub record Says (model : Program) (line : Line) (p : Phrase) : Type 0 where
  pub form : IsPhraseFor model p
  pub text : line ≡ phrase_line model p
