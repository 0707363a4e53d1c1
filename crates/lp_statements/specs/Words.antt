-- The words of the LP format that are more than names.
use Rattle.std.specs.Prelude.{ℕ, Bool, false, cond, ◌||◌, List, Option, Some, None, map, codes}
use Rattle.std.specs.Str.{bytes_eq}
use Rattle.std.specs.Char.{to_ascii_lowercase}
use Rattle.lp_statements.specs.declared.parts.Keyword.TheVariants.{Minimise, Maximise, SubjectTo, Bounds, General, Binary, End}
use Rattle.lp_statements.specs.declared.parts.Heading.{Heading}
use Rattle.lp_statements.specs.declared.parts.Heading.TheVariants.{Keyword, Unsupported}

-- the text is the word, in any case of letters
unfoldable pub is_word : List ℕ → List ℕ → Bool
is_word word text = bytes_eq (map to_ascii_lowercase text) (map to_ascii_lowercase word)

-- the infinite constant
unfoldable pub is_infinity : List ℕ → Bool
is_infinity text = is_word (codes "inf") text || is_word (codes "infinity") text

-- `free`, which takes both bounds of a column away
unfoldable pub is_free : List ℕ → Bool
is_free text = is_word (codes "free") text

-- ---- the spellings of each keyword
unfoldable pub is_minimise : List ℕ → Bool
is_minimise text = is_word (codes "min") text || (is_word (codes "minimize") text || is_word (codes "minimum") text)

-- that the objective is to be made greatest
unfoldable pub is_maximise : List ℕ → Bool
is_maximise text = is_word (codes "max") text || (is_word (codes "maximize") text || is_word (codes "maximum") text)

-- the rows, where one word says so
unfoldable pub is_subject_to : List ℕ → Bool
is_subject_to text = is_word (codes "st") text || (is_word (codes "st.") text || is_word (codes "s.t.") text)

-- the bounds
unfoldable pub is_bounds : List ℕ → Bool
is_bounds text = is_word (codes "bounds") text || is_word (codes "bound") text

-- the columns that are whole
unfoldable pub is_general : List ℕ → Bool
is_general text =
    is_word (codes "general") text || (is_word (codes "generals") text || (is_word (codes "gen") text
    || (is_word (codes "integer") text || (is_word (codes "integers") text || is_word (codes "int") text))))

-- the columns that are 0 or 1
unfoldable pub is_binary : List ℕ → Bool
is_binary text = is_word (codes "binary") text || (is_word (codes "binaries") text || is_word (codes "bin") text)

-- parts that are not read: semi-continuous columns, special ordered sets, piecewise-linear forms
unfoldable pub is_unsupported : List ℕ → Bool
is_unsupported text =
    (is_word (codes "semi") text || is_word (codes "semis") text)
    || ((is_word (codes "sos") text || (is_word (codes "sos1") text || is_word (codes "sos2") text))
    || (is_word (codes "pwl") text || is_word (codes "pwlobj") text))

-- what the first word of a line says by itself, if it is no name
unfoldable pub heading_of : List ℕ → Option Heading
heading_of text =
    cond (is_minimise text) (Some (Keyword Minimise))
    (cond (is_maximise text) (Some (Keyword Maximise))
    (cond (is_subject_to text) (Some (Keyword SubjectTo))
    (cond (is_bounds text) (Some (Keyword Bounds))
    (cond (is_general text) (Some (Keyword General))
    (cond (is_binary text) (Some (Keyword Binary))
    (cond (is_word (codes "end") text) (Some (Keyword End))
    (cond (is_unsupported text) (Some Unsupported) None)))))))

-- `subject to` or `such that`
unfoldable pub is_subject_to_pair : List ℕ → List ℕ → Bool
is_subject_to_pair text next =
    cond (is_word (codes "subject") text) (is_word (codes "to") next) (cond (is_word (codes "such") text) (is_word (codes "that") next) false)

-- `lazy constraints`, `general constraints` or `user cuts`, which are not read
unfoldable pub is_unsupported_pair : List ℕ → List ℕ → Bool
is_unsupported_pair text next =
    cond (is_word (codes "lazy") text || is_word (codes "general") text) (is_word (codes "constraints") next)
    (cond (is_word (codes "user") text) (is_word (codes "cuts") next) false)

-- what the first two words of a line say together
unfoldable pub pair_of : List ℕ → List ℕ → Option Heading
pair_of text next = cond (is_subject_to_pair text next) (Some (Keyword SubjectTo)) (cond (is_unsupported_pair text next) (Some Unsupported) None)
