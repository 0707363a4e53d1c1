-- What is read of the lines of a report: things of the grammar, each a kind with its values.
use Rattle.std.specs.Prelude.{◌≡◌, ◌≢◌, ◌⊎◌, ℕ, ◌+◌, ◌<◌, Bool, true, false, ◌&&◌, ◌||◌, List, [], ◌∷◌, ◌++◌, length, map, Option, Some, None, cond, All, Result, Ok, Err}
use Rattle.phrase_reader.specs.Parts.{parts}
use Rattle.phrase_reader.specs.Phrases.{IsPhraseFor, Says}
use Rattle.lp_model.specs.Program.{Program, IsWellFormed}
use Rattle.report_text.specs.declared.phrases.Phrase.{Phrase}
use Rattle.report_text.specs.Grammar.{Line, phrase_line, lines_of}
use Rattle.report_reader.specs.declared.reader.ReportStop.{ReportStop}
use Rattle.report_reader.specs.declared.reader.ReportStop.TheVariants.{BadLine, Truncated, Memory}
use Rattle.report_reader.specs.declared.cursor.Cursor.{Cursor}

-- a kind of thing: its values, what is asked of one, what it says, and whether a phrase behind it goes on with it
pub record Kind : Type 1 where
  pub Value : Type 0
  pub IsFor : Value → Type 0
  pub said : Value → List Phrase
  pub goes_on : Value → Phrase → Bool

-- one phrase that is known
abbrev pub word : Phrase → Kind
word p = record { Value = Unit {0}; IsFor = λ done. Unit {0}; said = λ done. p ∷ []; goes_on = λ done q. false }

-- one phrase of a value
abbrev pub one : (X : Type 0) → (X → Phrase) → (X → Type 0) → Kind
one X say Is = record { Value = X; IsFor = Is; said = λ x. say x ∷ []; goes_on = λ x q. false }

-- whether there is nothing in a list
abbrev pub is_none : List Phrase → Bool
is_none [] = true
is_none (p ∷ ps) = false

-- a thing, and then another
abbrev pub both : Kind → Kind → Kind
both X Y = record {
  Value = X.Value × Y.Value;
  IsFor = λ v. X.IsFor v.0 × Y.IsFor v.1;
  said = λ v. X.said v.0 ++ Y.said v.1;
  goes_on = λ v q. Y.goes_on v.1 q || (X.goes_on v.0 q && is_none (Y.said v.1));
}

-- the element that comes next in a list: what the phrase says, where that may follow what is there
abbrev pub next_in : {X : Type 0} → (List X → X → Bool) → List X → Option X → Option X
next_in may xs None = None
next_in may xs (Some x) = cond (may xs x) (Some x) None

-- whether there is one
abbrev pub is_there : {X : Type 0} → Option X → Bool
is_there None = false
is_there (Some x) = true

-- elements of one phrase each, where one may follow those before it
abbrev pub list : (X : Type 0) → (X → Phrase) → (Phrase → Option X) → (List X → X → Bool) → (List X → Type 0) → Kind
list X say find may Are = record { Value = List X; IsFor = Are; said = λ xs. map say xs; goes_on = λ xs q. is_there (next_in may xs (find q)) }

-- ---- what is read
-- whether a list begins with a phrase that passes a test
abbrev pub begins : (Phrase → Bool) → List Phrase → Bool
begins test [] = false
begins test (q ∷ rest) = test q

-- some thing of the kind begins with these phrases
pub record IsFrontOf (kind : Kind) (said : List Phrase) : Type 0 where
  pub value : kind.Value
  pub form : kind.IsFor value
  pub more : List Phrase
  pub is : kind.said value ≡ said ++ more

-- no thing of the kind goes on with this phrase, and none ends before it, unless a phrase that goes on with it stands there
abbrev pub IsWrong : Kind → List Phrase → Phrase → Type 0
IsWrong kind said q = (value : kind.Value) (more rest : List Phrase) → kind.IsFor value → kind.said value ++ more ≡ said ++ q ∷ rest → begins (kind.goes_on value) more ≡ true

-- line number n, of lines whose first has this number, is the first with which no thing of the kind goes on
pub record IsBad (model : Program) (kind : Kind) (lines : List Line) (first n : ℕ) : Type 0 where
  pub said : List Phrase
  pub line : Line
  pub back : List Line
  pub cut : lines ≡ lines_of model said ++ line ∷ back
  pub whole : back ≢ []
  pub number : n ≡ first + length said
  pub each : All (IsPhraseFor model) said
  pub right : IsFrontOf kind said
  pub wrong : (q : Phrase) → Says model line q → IsWrong kind said q

-- the whole lines are the front of a thing of the kind
pub record IsCut (model : Program) (kind : Kind) (lines : List Line) : Type 0 where
  pub said : List Phrase
  pub last : Line
  pub cut : lines ≡ lines_of model said ++ last ∷ []
  pub each : All (IsPhraseFor model) said
  pub right : IsFrontOf kind said

-- why reading stops within a thing of the kind
abbrev pub IsStop : Program → Kind → List Line → ℕ → ReportStop → Type 0
IsStop model kind lines first (BadLine n) = IsBad model kind lines first n
IsStop model kind lines first Truncated = IsCut model kind lines
IsStop model kind lines first Memory = Unit {0}

-- the line that says a phrase, and the parts of the bytes behind it
abbrev pub lines_from : Program → Phrase → List ℕ → List Line
lines_from model p rest = phrase_line model p ∷ parts 10 rest

-- a thing is read, and these lines are left, whose first has this number
pub record IsPassed (model : Program) (kind : Kind) (lines : List Line) (first : ℕ) (value : kind.Value) (left : List Line) (next : ℕ) : Type 0 where
  pub form : kind.IsFor value
  pub cut : lines ≡ lines_of model (kind.said value) ++ left
  pub each : All (IsPhraseFor model) (kind.said value)
  pub number : next ≡ first + length (kind.said value)

-- a thing is read so far, or reading stops within it
abbrev pub IsOutcome : Program → (kind : Kind) → List Line → ℕ → kind.Value → Result Phrase ReportStop → Cursor → Type 0
IsOutcome model kind lines first value (Ok q) new = IsPassed model kind lines first value (lines_from model q new.rest.now) new.number
IsOutcome model kind lines first value (Err stop) new = IsStop model kind lines first stop

-- where reading had stopped before, all stays
abbrev pub IsReadingFrom : Program → (kind : Kind) → Result Phrase ReportStop → Cursor → Cursor → kind.Value → Type 0
IsReadingFrom model kind (Ok p) old new value = IsOutcome model kind (lines_from model p old.rest.now) old.number value new.ahead new
IsReadingFrom model kind (Err stop) old new value = new ≡ old

abbrev pub IsReading : Program → (kind : Kind) → Cursor → Cursor → kind.Value → Type 0
IsReading model kind old new value = IsReadingFrom model kind old.ahead old new value

-- the next line does not go on with it
abbrev pub IsEnded : (kind : Kind) → kind.Value → Result Phrase ReportStop → Type 0
IsEnded kind value (Ok q) = kind.goes_on value q ≡ false
IsEnded kind value (Err stop) = Unit {0}

-- the thing is read whole
pub record IsRead (model : Program) (kind : Kind) (old new : Cursor) (value : kind.Value) : Type 0 where
  pub reading : IsReading model kind old new value
  pub ended : IsEnded kind value new.ahead

-- ---- cursors
-- no phrase is the whole line that stands first
pub record IsUnsaid (model : Program) (lines : List Line) : Type 0 where
  pub line : Line
  pub back : List Line
  pub cut : lines ≡ line ∷ back
  pub whole : back ≢ []
  pub unsaid : (q : Phrase) → ¬ (Says model line q)

-- what the first line of a text says, and what is behind it; or why there is none that says something
abbrev pub IsAhead : Program → ℕ → List ℕ → Result Phrase ReportStop → List ℕ → Type 0
IsAhead model n bytes (Ok p) rest = (parts 10 bytes ≡ lines_from model p rest) × IsPhraseFor model p
IsAhead model n bytes (Err (BadLine m)) rest = (m ≡ n) × IsUnsaid model (parts 10 bytes)
IsAhead model n bytes (Err Truncated) rest = parts 10 bytes ≡ bytes ∷ []
IsAhead model n bytes (Err Memory) rest = Unit {0}

-- the phrase that is looked at is one for the program
abbrev pub IsLookedAt : Program → Result Phrase ReportStop → Type 0
IsLookedAt model (Ok p) = IsPhraseFor model p
IsLookedAt model (Err stop) = Unit {0}

-- the same, and the lines behind it can be counted
abbrev pub IsCursorAt : Program → Result Phrase ReportStop → Cursor → Type 0
IsCursorAt model (Ok p) cursor = IsPhraseFor model p × (cursor.number + length cursor.rest.now < 2147483648)
IsCursorAt model (Err stop) cursor = Unit {0}

-- and the names of the program differ
pub record IsCursor (model : Program) (cursor : Cursor) : Type 0 where
  pub names : IsWellFormed model
  pub at : IsCursorAt model cursor.ahead cursor

-- the phrase is passed, or it is the wrong one; where reading stopped all stays
abbrev pub PassesFrom : Program → Result Phrase ReportStop → Bool → Cursor → Cursor → Type 0
PassesFrom model (Err stop) right old new = new ≡ old
PassesFrom model (Ok p) false old new = new ≡ record old { ahead = Err (BadLine old.number) }
PassesFrom model (Ok p) true old new = (new.number ≡ old.number + 1) × IsAhead model new.number old.rest.now new.ahead new.rest.now

abbrev pub Passes : Program → Bool → Cursor → Cursor → Type 0
Passes model right old new = PassesFrom model old.ahead right old new

-- an item is put behind others, or memory is refused
abbrev pub Pushes : {X : Type 0} → Cursor → List X → X → Cursor → List X → Type 0
Pushes old items item new more = ((new ≡ old) × (more ≡ items ++ item ∷ [])) ⊎ ((new ≡ record old { ahead = Err Memory }) × (more ≡ items))
