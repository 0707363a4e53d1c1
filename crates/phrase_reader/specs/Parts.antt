-- The parts of a text, and the words of a line.
use Rattle.std.specs.Prelude.{ℕ, ◌==◌, List, [], ◌∷◌, Option, Some, None}
use Rattle.std.specs.Borrow.{Bor}
use Rattle.std.specs.List.{slice_split}

-- what stands between the marks: one part more than there are marks
abbrev pub parts : ℕ → List ℕ → List (List ℕ)
parts mark bytes = slice_split (λ b. b == mark) bytes

-- the words of what is left of a line, which one blank parts, or none
abbrev pub words_left : Option (Bor (List ℕ)) → List (List ℕ)
words_left None = []
words_left (Some text) = parts 32 text.now

-- the last of words
abbrev pub last_word : List (List ℕ) → List ℕ
last_word [] = []
last_word (word ∷ []) = word
last_word (word ∷ next ∷ rest) = last_word (next ∷ rest)
