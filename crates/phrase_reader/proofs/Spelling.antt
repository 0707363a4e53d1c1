-- The words of a line: each has shown bytes alone, so the parts of a line are its words, and those of a text its lines.
use Rattle.std.proofs.Common.{◌≡◌, ◌≢◌, refl, sym, ap, ◌∙◌, ℕ, suc, ◌+◌, ◌^◌, ◌<◌, ◌≤◌, ◌==◌, Bool, true, false, true≢false, List, [], ◌∷◌, ◌++◌, append_assoc, append-nil, arith, eqb-true, ltb-false, length, Option, None, Some, is_some}
use Rattle.std.specs.Prelude.{All, map, flat_map, count_by, codes, decimal, nat_lt, unsigned_abs, neg_ℤ, ◌≤ℤ◌, ◌<ℤ◌}
use Rattle.std.specs.List.{list_all, join_with_byte}
use Rattle.std.proofs.lemmas.Bool.{and_parts, or_parts, cond_both, false_from_ne_true, le-ltb, lt-ltb}
use Rattle.std.proofs.lemmas.Int.{ints}
use Rattle.std.proofs.lemmas.Bool.Decides.{nat_tests}
use Rattle.std.proofs.lemmas.Fmt.{decimal_nonempty, decimal_is_IsNumeral, decimal_is_IsNumeral_wide}
use Rattle.std.proofs.lemmas.List.Elements.{All-nil, All-cons, All-head, All-tail, All-append, All-weaker}
use Rattle.std.proofs.lemmas.List.Splits.{length-slice_split, slice_split_at, slice_split_none, join_with_byte-slice_split}
use Rattle.std.specs.Fmt.{signed_decimal}
use Rattle.std.specs.Char.{digit_value}
use Rattle.std.specs.Str.Parse.{AllDigits}
use lib.IntN.{ℤ, pos, negsuc}
use Rattle.rational.specs.Rational.{ℚ}
use Rattle.frac128.specs.Limit.{limit}
use Rattle.frac128.specs.Width.{is_too_wide}
use Rattle.frac128.specs.Printed.{printed}
use Rattle.report_text.specs.Names.{is_shown}
use Rattle.std.specs.Borrow.{Bor}
use Rattle.phrase_reader.specs.Parts.{parts, words_left}
use Rattle.lp_model.specs.Program.{Program, row_at}
use Rattle.lp_model.specs.declared.members.Member.{Member}
use Rattle.lp_model.specs.declared.members.Member.TheVariants.{RowLo}
use Rattle.certs.specs.declared.evidence.Source.{Source}
use Rattle.certs.specs.declared.evidence.Source.TheVariants.{Member as Of, Below, Above}
use Rattle.certs.specs.declared.solving.SiteKind.{SiteKind}
use Rattle.certs.specs.declared.solving.SiteKind.TheVariants.{Settle}
use Rattle.frac128.specs.declared.Op.{Op}
use Rattle.frac128.specs.declared.Op.TheVariants.{Plus}
use Rattle.lp_model.specs.declared.members.Side.{Side}
use Rattle.lp_model.specs.declared.members.Side.TheVariants.{Lo, Up}
use Rattle.lp_model.specs.declared.parts.Weight.{Weight}
use Rattle.lp_model.specs.declared.parts.Weight.TheVariants.{Soft, Rigid}
use Rattle.report_text.specs.declared.report.Command.{Command}
use Rattle.report_text.specs.declared.report.Command.TheVariants.{Check, Iis, Unbounded, Relax, Reduce, Edit, Undo, Pivots, Nodes}
use Rattle.report_text.specs.declared.report.Method.{Method}
use Rattle.report_text.specs.declared.report.Method.TheVariants.{Deletion, Additive, Sensitivity, Elastic, Alternative}
use Rattle.report_text.specs.declared.report.TargetKind.{TargetKind}
use Rattle.report_text.specs.declared.report.EditKind.{EditKind}
use Rattle.report_text.specs.declared.phrases.Keyword.{Keyword}
use Rattle.report_text.specs.declared.phrases.Phrase.{Phrase}
use Rattle.report_text.specs.declared.phrases.StopPhrase.{StopPhrase}
use Rattle.report_text.specs.declared.table.Word.{Word}
use Rattle.report_text.specs.declared.table.Kind.{Kind}
use Rattle.report_text.specs.declared.table.Given.{Given}
use Rattle.report_text.specs.Form.{is_word, IsNamedSource, most_budget, IsLimit, IsWeight, IsEditKind, IsCommand}
use Rattle.report_text.specs.Grammar.{Line, ◌then◌, text_of, column_name, name_of, kind_word, source_word, source_name, method_word, target_word, side_word, limit_word, weight_word, mark_word, met_word, edit_words, command_words, site_word, op_word, noted_word, word_text, words_at, keyword_text, kinds_of, keyword_of, stop_given, given_of, details, spelled, phrase_line}
use Rattle.phrase_reader.specs.Phrases.{IsPhraseFor, Says}
use Rattle.phrase_reader.proofs.Fitting.{IsFit, AreFit, so_fit, phrase_fits}
use Rattle.phrase_reader.proofs.Quotients.{printed_some}

-- a text has a part
pub some_parts : (mark : ℕ) (text : List ℕ) → parts mark text ≢ []
some_parts mark text e = let l : length (parts mark text) ≡ count_by (λ b. b == mark) text + 1 = length-slice_split (λ b. b == mark) text in let k : length (parts mark text) ≡ 0 = ap length e in absurd (omega arith)

-- so where no words are left, nothing is
pub words_or_none : (left : Option (Bor (List ℕ))) → words_left left ≡ [] → is_some left ≡ false
words_or_none None e = refl
words_or_none (Some text) e = absurd (some_parts 32 text.now e)

-- each byte of the word may stand in a name
abbrev pub Shown : List ℕ → Type 0
Shown word = All (λ b. is_shown b ≡ true) word

-- no byte of the text is the mark
abbrev pub Without : ℕ → List ℕ → Type 0
Without mark text = All (λ b. (b == mark) ≡ false) text

-- a mark that is not shown stands in no word
pub no_mark : (mark : ℕ) → is_shown mark ≡ false → (word : List ℕ) → Shown word → Without mark word
no_mark mark h word shown = All-weaker (λ b. is_shown b ≡ true) (λ b. (b == mark) ≡ false) (λ b s. false_from_ne_true (b == mark) (λ e. true≢false (sym s ∙ ap is_shown (eqb-true b mark e) ∙ h))) word shown

-- the same of bytes that are known
pub plain : (word : List ℕ) → list_all is_shown word ≡ true → Shown word
plain [] e = All-nil (λ b. is_shown b ≡ true)
plain (b ∷ word) e = let both = and_parts (is_shown b) (list_all is_shown word) e in All-cons (λ b. is_shown b ≡ true) b word both.0 (plain word both.1)

-- ---- numbers
digit_shown : (c : ℕ) → digit_value c < 10 → is_shown c ≡ true
digit_shown c h = grind (arith, nat_tests)

digits_shown : (ds : List ℕ) → AllDigits 10 ds → Shown ds
digits_shown [] h = All-nil (λ b. is_shown b ≡ true)
digits_shown (c ∷ ds) h = All-cons (λ b. is_shown b ≡ true) c ds (digit_shown c h.0) (digits_shown ds h.1)

decimal_shown : (n : ℕ) → nat_lt limit n ≡ false → Shown (decimal n)
decimal_shown n h = let p : n ≤ limit = ltb-false limit n h in digits_shown (decimal n) (decimal_is_IsNumeral_wide n (omega arith)).0.1

signed_shown : (z : ℤ) → nat_lt limit (unsigned_abs z) ≡ false → Shown (signed_decimal z)
signed_shown (pos n) h = decimal_shown n h
signed_shown (negsuc n) h = All-cons (λ b. is_shown b ≡ true) 45 (decimal (suc n)) refl (decimal_shown (suc n) h)

fitting_shown : (z : ℤ) → unsigned_abs z ≤ limit → Shown (signed_decimal z)
fitting_shown z h = signed_shown z (le-ltb limit (unsigned_abs z) h)

-- the number of a split fits
pub split_fits : (k : ℤ) → neg_ℤ (pos limit) ≤ℤ k → k <ℤ pos limit → unsigned_abs k ≤ limit
split_fits (pos n) h k = let l : n < limit = omega (arith, ints, k) in omega arith
split_fits (negsuc n) h k = omega (arith, ints, h)

-- a count
count_shown : (n : ℕ) → n < 2 ^ 64 → Shown (decimal n)
count_shown n h = digits_shown (decimal n) (decimal_is_IsNumeral n h).0.1

-- a printed number
printed_shown : (q : ℚ) → is_too_wide limit q ≡ false → Shown (printed q)
printed_shown q h =
    let both : (nat_lt limit (unsigned_abs q.num) ≡ false) × (nat_lt limit q.den ≡ false) = or_parts (nat_lt limit (unsigned_abs q.num)) (nat_lt limit q.den) h in
    cond_both (q.den == 1) (signed_decimal q.num) (signed_decimal q.num ++ (47 ∷ decimal q.den)) Shown (λ _. signed_shown q.num both.0)
    (λ _. All-append (λ b. is_shown b ≡ true) (signed_decimal q.num) (47 ∷ decimal q.den) (signed_shown q.num both.0) (All-cons (λ b. is_shown b ≡ true) 47 (decimal q.den) refl (decimal_shown q.den both.1)))

-- ---- words
pub word_shown : (name : List ℕ) → is_word name ≡ true → Shown name
word_shown name h = plain name (and_parts (nat_lt 0 (length name)) (list_all is_shown name) h).1

keyword_shown : (k : Keyword) → Shown (keyword_text k)
keyword_shown Keyword.Iisan = plain (codes "iisan") refl
keyword_shown k = plain (keyword_text k) refl

-- ---- the words of a command
one_word : (w : List ℕ) (ws : List (List ℕ)) → is_word w ≡ true → All (λ w. is_word w ≡ true) ws → All (λ w. is_word w ≡ true) (w ∷ ws)
one_word w ws h rest = All-cons (λ w. is_word w ≡ true) w ws h rest

no_words : All (λ w. is_word w ≡ true) []
no_words = All-nil (λ w. is_word w ≡ true)

method_is : (method : Method) → is_word (method_word method) ≡ true
method_is Deletion = refl
method_is Additive = refl
method_is Sensitivity = refl
method_is Elastic = refl
method_is Alternative = refl

target_is : (t : TargetKind) → is_word (target_word t) ≡ true
target_is TargetKind.Row = refl
target_is TargetKind.RowLo = refl
target_is TargetKind.RowUp = refl
target_is TargetKind.Lower = refl
target_is TargetKind.Upper = refl
target_is TargetKind.Whole = refl

side_is : (side : Side) → is_word (side_word side) ≡ true
side_is Lo = refl
side_is Up = refl

mark_is : (whole : Bool) → is_word (mark_word whole) ≡ true
mark_is true = refl
mark_is false = refl

-- shown bytes, of which there is one
word_of_shown : (word : List ℕ) → length word ≢ 0 → Shown word → is_word word ≡ true
word_of_shown word some h = rw (lt-ltb 0 (length word) (omega arith)) (all word h)
  where
    all : (word : List ℕ) → Shown word → list_all is_shown word ≡ true
    all [] h = refl
    all (b ∷ word) h = rw (All-head (λ b. is_shown b ≡ true) b word h) (all word (All-tail (λ b. is_shown b ≡ true) b word h))

number_is : (q : ℚ) → is_too_wide limit q ≡ false → is_word (printed q) ≡ true
number_is q h = word_of_shown (printed q) (printed_some q h) (printed_shown q h)

limit_is : (v : Option ℚ) → IsLimit v → is_word (limit_word v) ≡ true
limit_is None h = refl
limit_is (Some q) h = number_is q h.0

weight_is : (w : Weight) → IsWeight w → is_word (weight_word w) ≡ true
weight_is Rigid h = refl
weight_is (Soft q) h = number_is q h.0

count_is : (n : ℕ) → n ≤ most_budget → is_word (decimal n) ≡ true
count_is n h =
    let small : n < 2 ^ 64 = omega arith in
    word_of_shown (decimal n) (let s = decimal_nonempty n small in λ e. omega arith) (count_shown n small)

set_words_are : (what name : List ℕ) (side : Side) (v : Option ℚ) → is_word what ≡ true → is_word name ≡ true → IsLimit v → All (λ w. is_word w ≡ true) (codes "set" ∷ what ∷ name ∷ side_word side ∷ limit_word v ∷ [])
set_words_are what name side v k w h =
    one_word (codes "set") (what ∷ name ∷ side_word side ∷ limit_word v ∷ []) refl
    (one_word what (name ∷ side_word side ∷ limit_word v ∷ []) k
    (one_word name (side_word side ∷ limit_word v ∷ []) w
    (one_word (side_word side) (limit_word v ∷ []) (side_is side) (one_word (limit_word v) [] (limit_is v h) no_words))))

edit_words_are : (name : List ℕ) (kind : EditKind) → is_word name ≡ true → IsEditKind kind → All (λ w. is_word w ≡ true) (edit_words name kind)
edit_words_are name (EditKind.Drop t) w h = one_word (codes "drop") (target_word t ∷ name ∷ []) refl (one_word (target_word t) (name ∷ []) (target_is t) (one_word name [] w no_words))
edit_words_are name (EditKind.Keep t) w h = one_word (codes "keep") (target_word t ∷ name ∷ []) refl (one_word (target_word t) (name ∷ []) (target_is t) (one_word name [] w no_words))
edit_words_are name (EditKind.Weigh t weight) w h =
    one_word (codes "weight") (target_word t ∷ name ∷ weight_word weight ∷ []) refl
    (one_word (target_word t) (name ∷ weight_word weight ∷ []) (target_is t)
    (one_word name (weight_word weight ∷ []) w (one_word (weight_word weight) [] (weight_is weight h.1) no_words)))
edit_words_are name (EditKind.SetSide side v) w h = set_words_are (codes "row") name side v refl w h
edit_words_are name (EditKind.SetBound side v) w h = set_words_are (codes "column") name side v refl w h
edit_words_are name (EditKind.SetMark whole) w h = one_word (codes "mark") (name ∷ mark_word whole ∷ []) refl (one_word name (mark_word whole ∷ []) w (one_word (mark_word whole) [] (mark_is whole) no_words))

pub command_words_are : (c : Command) → IsCommand c → All (λ w. is_word w ≡ true) (command_words c)
command_words_are Check h = one_word (codes "check") [] refl no_words
command_words_are (Iis method) h = one_word (codes "iis") (method_word method ∷ []) refl (one_word (method_word method) [] (method_is method) no_words)
command_words_are (Edit e) h = edit_words_are e.name e.kind h.word h.kind
command_words_are Unbounded h = one_word (codes "unbounded") [] refl no_words
command_words_are Relax h = one_word (codes "relax") [] refl no_words
command_words_are Reduce h = one_word (codes "reduce") [] refl no_words
command_words_are Undo h = one_word (codes "undo") [] refl no_words
command_words_are (Pivots n) h = one_word (codes "budget") (codes "pivots" ∷ decimal n ∷ []) refl (one_word (codes "pivots") (decimal n ∷ []) refl (one_word (decimal n) [] (count_is n h) no_words))
command_words_are (Nodes n) h = one_word (codes "budget") (codes "nodes" ∷ decimal n ∷ []) refl (one_word (codes "nodes") (decimal n ∷ []) refl (one_word (decimal n) [] (count_is n h) no_words))

-- ---- the words of a phrase
-- lists of words
none_shown : All Shown []
none_shown = All-nil Shown

and_shown : (w : List ℕ) (ws : List (List ℕ)) → Shown w → All Shown ws → All Shown (w ∷ ws)
and_shown w ws h rest = All-cons Shown w ws h rest

-- words of kinds
side_shown : (side : Side) → Shown (met_word side)
side_shown Lo = plain (codes "lo") refl
side_shown Up = plain (codes "up") refl

site_shown : (kind : SiteKind) → Shown (site_word kind)
site_shown Settle = plain (codes "settle") refl
site_shown kind = plain (site_word kind) refl

op_shown : (op : Op) → Shown (op_word op)
op_shown Plus = plain (codes "plus") refl
op_shown op = plain (op_word op) refl

noted_shown : (b : Bool) → Shown (noted_word b)
noted_shown true = plain (codes "kept") refl
noted_shown false = plain (codes "removed") refl

fixed_shown : (w : Word) → Shown (word_text w)
fixed_shown Word.Report = plain (codes "report") refl
fixed_shown w = plain (word_text w) refl

one_shown : (w : List ℕ) → Shown w → All Shown (w ∷ [])
one_shown w h = and_shown w [] h none_shown

two_shown : (a b : List ℕ) → Shown a → Shown b → All Shown (a ∷ b ∷ [])
two_shown a b h k = and_shown a (b ∷ []) h (one_shown b k)

module _ (model : Program) where
  kind_shown : (m : Member) → Shown (kind_word m)
  kind_shown (RowLo i) = plain (codes "rowlo") refl
  kind_shown m = plain (kind_word m) refl

  source_shown : (source : Source) → IsNamedSource model source → All Shown (source_word source ∷ source_name model source ∷ [])
  source_shown (Of m) h = two_shown (kind_word m) (name_of model m) (kind_shown m) (word_shown (name_of model m) h.word)
  source_shown (Below j) h = two_shown (codes "below") (column_name model j) (plain (codes "below") refl) (word_shown (column_name model j) h.word)
  source_shown (Above j) h = two_shown (codes "above") (column_name model j) (plain (codes "above") refl) (word_shown (column_name model j) h.word)

  -- what is given with names that are words and numbers that fit
  words_shown : (g : Given) (k : Kind) → IsFit model g k → All Shown (words_at model g k)
  words_shown g (Kind.Word w) h = one_shown (word_text w) (fixed_shown w)
  words_shown g Kind.Row h = one_shown (row_at model g.row).name (word_shown (row_at model g.row).name h.word)
  words_shown g Kind.Column h = one_shown (column_name model g.column) (word_shown (column_name model g.column) h.word)
  words_shown g Kind.Member h = two_shown (kind_word g.member) (name_of model g.member) (kind_shown g.member) (word_shown (name_of model g.member) h.word)
  words_shown g Kind.Source h = source_shown g.source h
  words_shown g Kind.Side h = one_shown (met_word g.side) (side_shown g.side)
  words_shown g Kind.Site h = one_shown (site_word g.site) (site_shown g.site)
  words_shown g Kind.Op h = one_shown (op_word g.op) (op_shown g.op)
  words_shown g Kind.Noted h = one_shown (noted_word g.kept) (noted_shown g.kept)
  words_shown g Kind.Fraction h = one_shown (printed g.value) (printed_shown g.value h)
  words_shown g Kind.Nonzero h = one_shown (printed g.value) (printed_shown g.value h.0)
  words_shown g Kind.Positive h = one_shown (printed g.value) (printed_shown g.value h.1)
  words_shown g Kind.Right h = one_shown (printed g.right) (printed_shown g.right h)
  words_shown g Kind.Whole h = one_shown (signed_decimal g.at) (fitting_shown g.at h)
  words_shown g Kind.Split h = one_shown (signed_decimal g.at) (fitting_shown g.at (split_fits g.at h.0 h.1))
  words_shown g Kind.Count h = one_shown (decimal g.count) (count_shown g.count h)
  words_shown g Kind.Second h = one_shown (decimal g.second) (count_shown g.second h)

  all_shown : (g : Given) (ks : List Kind) → AreFit model g ks → All Shown (flat_map (words_at model g) ks)
  all_shown g [] h = none_shown
  all_shown g (k ∷ ks) h = All-append Shown (words_at model g k) (flat_map (words_at model g) ks) (words_shown g k h.0) (all_shown g ks h.1)

  -- the words of a phrase that names words of the program and numbers that fit
  details_shown : (p : Phrase) → IsPhraseFor model p → All Shown (details model p)
  details_shown (Phrase.Command c) h = All-weaker (λ w. is_word w ≡ true) Shown word_shown (command_words c) (command_words_are c h)
  details_shown (Phrase.Stop (StopPhrase.Branch b)) h = all_shown (stop_given (StopPhrase.Branch b)) (kinds_of Keyword.BranchBelow) (h.named, (h.fits, tt))
  details_shown p h = all_shown (given_of p) (kinds_of (keyword_of p)) (so_fit model (given_of p) (kinds_of (keyword_of p)) (phrase_fits model p h))

-- ---- words and lines
-- the parts of words between blanks are the words
parts_of_words : (w : List ℕ) (ws : List (List ℕ)) → Shown w → All Shown ws → parts 32 (spelled w ws) ≡ w ∷ ws
parts_of_words w [] h rest = slice_split_none (λ b. b == 32) w (no_mark 32 refl w h)
parts_of_words w (v ∷ ws) h rest = slice_split_at (λ b. b == 32) w 32 (spelled v ws) (no_mark 32 refl w h) refl ∙ ap (λ l. w ∷ l) (parts_of_words v ws (All-head Shown v ws rest) (All-tail Shown v ws rest))

joined_words : (w : List ℕ) (ws : List (List ℕ)) → join_with_byte 32 (w ∷ ws) ≡ spelled w ws
joined_words w [] = refl
joined_words w (v ∷ ws) = ap (λ l. w then l) (joined_words v ws)

-- a line that says something has its words, and one that has its words says it
pub words_of_line : (model : Program) (line : Line) (p : Phrase) → Says model line p → parts 32 line ≡ keyword_text (keyword_of p) ∷ details model p
words_of_line model line p h = ap (parts 32) h.text ∙ parts_of_words (keyword_text (keyword_of p)) (details model p) (keyword_shown (keyword_of p)) (details_shown model p h.form)

pub line_of_words : (model : Program) (line : Line) (p : Phrase) → IsPhraseFor model p → parts 32 line ≡ keyword_text (keyword_of p) ∷ details model p → Says model line p
line_of_words model line p h e = record { form = h; text = sym (join_with_byte-slice_split 32 line) ∙ ap (join_with_byte 32) e ∙ joined_words (keyword_text (keyword_of p)) (details model p) }

-- ---- lines and texts
-- words and the blanks between them have no mark that ends lines
spelled_no_mark : (w : List ℕ) (ws : List (List ℕ)) → Shown w → All Shown ws → Without 10 (spelled w ws)
spelled_no_mark w [] h rest = no_mark 10 refl w h
spelled_no_mark w (v ∷ ws) h rest =
    All-append (λ b. (b == 10) ≡ false) w (32 ∷ spelled v ws) (no_mark 10 refl w h)
    (All-cons (λ b. (b == 10) ≡ false) 32 (spelled v ws) refl (spelled_no_mark v ws (All-head Shown v ws rest) (All-tail Shown v ws rest)))

pub lines_no_mark : (model : Program) (ps : List Phrase) → All (IsPhraseFor model) ps → All (Without 10) (map (phrase_line model) ps)
lines_no_mark model [] h = All-nil (Without 10)
lines_no_mark model (p ∷ ps) h =
    All-cons (Without 10) (phrase_line model p) (map (phrase_line model) ps)
    (spelled_no_mark (keyword_text (keyword_of p)) (details model p) (keyword_shown (keyword_of p)) (details_shown model p (All-head (IsPhraseFor model) p ps h))) (lines_no_mark model ps (All-tail (IsPhraseFor model) p ps h))

-- the parts of a text are its lines, and an empty last one
pub parts_of_text : (lines : List Line) → All (Without 10) lines → parts 10 (text_of lines) ≡ lines ++ [] ∷ []
parts_of_text [] h = refl
parts_of_text (line ∷ lines) h =
    ap (parts 10) (append_assoc line (10 ∷ []) (text_of lines))
    ∙ slice_split_at (λ b. b == 10) line 10 (text_of lines) (All-head (Without 10) line lines h) refl
    ∙ ap (λ ls. line ∷ ls) (parts_of_text lines (All-tail (Without 10) line lines h))

joined_lines : (lines : List Line) → join_with_byte 10 (lines ++ [] ∷ []) ≡ text_of lines
joined_lines [] = refl
joined_lines (line ∷ []) = sym (append-nil (line ++ 10 ∷ []))
joined_lines (line ∷ next ∷ lines) = ap (λ l. line ++ (10 ∷ l)) (joined_lines (next ∷ lines)) ∙ sym (append_assoc line (10 ∷ []) (text_of (next ∷ lines)))

-- and bytes with these parts are the text of the lines
pub text_of_parts : (bytes : List ℕ) (lines : List Line) → parts 10 bytes ≡ lines ++ [] ∷ [] → bytes ≡ text_of lines
text_of_parts bytes lines e = sym (join_with_byte-slice_split 10 bytes) ∙ ap (join_with_byte 10) e ∙ joined_lines lines
