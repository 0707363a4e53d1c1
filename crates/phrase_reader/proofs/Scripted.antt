-- What words behind `command` say in a report, and what the lines of a script are.
use Rattle.std.proofs.Math.Numerals.{one-add}
use Rattle.std.proofs.Common.{sym, subst, take, eqb-true, ◌≡◌, ℕ, ◌+◌, ◌<◌, ◌≤◌, Bool, true, false, ◌||◌, cond, true≢false, List, [], ◌∷◌, ◌++◌, length, drop, Option, Some, None, refl, ap, ◌∙◌, ◌≢◌, ◌⊎◌, inl, inr, arith, filter, append-nil}
use Rattle.std.specs.Prelude.{codes}
use Rattle.std.specs.List.{All, list_all, list_any, position_or_len, slice_split}
use Rattle.std.proofs.lemmas.Bool.{le-ltb, and_parts}
use Rattle.std.proofs.lemmas.Bool.Decides.{nat_tests}
use Rattle.std.proofs.lemmas.List.Elements.{All-head, All-tail, All-weaker}
use Rattle.std.proofs.lemmas.List.Splits.{slice_split_none, slice_split_at}
use Rattle.lane_scan.specs.Bytes.{is_blank, is_foreign}
use Rattle.text_fields.specs.declared.faults.TextKind.{TextKind}
use Rattle.text_fields.specs.declared.faults.TextKind.TheVariants.{LongLine, ForeignByte}
use Rattle.text_fields.specs.Fields.{is_filled, fields_of, field_fault, is_long, is_comment}
use Rattle.text_fields.proofs.FieldLists.{fields_of-first}
use Rattle.report_text.specs.Names.{is_shown}
use Rattle.report_text.specs.declared.report.Command.{Command}
use Rattle.report_text.specs.declared.report.Command.TheVariants.{Check, Iis, Unbounded, Relax, Reduce, Edit, Undo, Pivots, Nodes}
use Rattle.report_text.specs.declared.report.EditKind.{EditKind}
use Rattle.report_text.specs.declared.report.EditKind.TheVariants.{Drop, Keep, Weigh, SetSide, SetBound, SetMark}
use Rattle.report_text.specs.Form.{is_word, IsCommand}
use Rattle.std.specs.Str.{bytes_eq}
use Rattle.std.proofs.lemmas.Slice.Eq.{bytes_eq-Decides}
use Rattle.reductions.specs.declared.steps.ReduceStep.TheVariants.{Empty}
use Rattle.report_text.specs.declared.report.Refusal.{Refusal}
use Rattle.report_text.specs.Grammar.{keyword_text, keyword_of, branch_keyword, target_word, side_word, edit_words, command_words, command_text, spelled, joined}
use Rattle.lp_model.specs.Program.{Program}
use Rattle.report_text.specs.declared.phrases.Keyword.{Keyword}
use Rattle.report_text.specs.declared.phrases.Phrase.{Phrase}
use Rattle.report_text.specs.declared.phrases.StopPhrase.{StopPhrase}
use Rattle.phrase_reader.specs.Commands.{command_said, unless_fault, command_of}
use Rattle.phrase_reader.specs.Parts.{last_word}
use Rattle.phrase_reader.specs.Words.{Finds, IsSpelled, IsPlainEdit, IsPlain}
use Rattle.phrase_reader.proofs.Spelling.{Shown, word_shown, command_words_are}
use Rattle.phrase_reader.proofs.Asked.{AreAsked, AreSaid, own_words, words_said, said_built, no_edit_of}

pub line_built : (line : List ℕ) (c : Command) → command_of line ≡ Some c → IsCommand c
line_built line c e = by (field_fault line) e
  where
    by : (fault : Option TextKind) → unless_fault fault (command_said (fields_of line)) ≡ Some c → IsCommand c
    by None g = said_built (fields_of line) c g
    by (Some fault) g = absurd (let s : None ≡ Some c = g in cc)

-- ---- commands in reports
-- words are those of the command that they are, where its number is printed so
plain_edit : (words : List (List ℕ)) (name : List ℕ) (k : EditKind) → IsPlainEdit (last_word words) k → AreAsked words name k → words ≡ edit_words name k
unfolding AreAsked
plain_edit words name (Drop t) plain s = s
plain_edit words name (Keep t) plain s = s
plain_edit words name (Weigh t w) plain s = s.1.0 ∙ ap (λ v. codes "weight" ∷ target_word t ∷ name ∷ v ∷ []) (sym (ap last_word s.1.0) ∙ plain)
plain_edit words name (SetSide side v) plain s = s.1.0 ∙ ap (λ u. codes "set" ∷ codes "row" ∷ name ∷ side_word side ∷ u ∷ []) (sym (ap last_word s.1.0) ∙ plain)
plain_edit words name (SetBound side v) plain s = s.1.0 ∙ ap (λ u. codes "set" ∷ codes "column" ∷ name ∷ side_word side ∷ u ∷ []) (sym (ap last_word s.1.0) ∙ plain)
plain_edit words name (SetMark whole) plain s = s

plain_words : (words : List (List ℕ)) (c : Command) → IsPlain (last_word words) c → AreSaid words c → words ≡ command_words c
unfolding AreSaid
plain_words words (Edit e) plain s = plain_edit words e.name e.kind plain s.1
plain_words words (Pivots n) plain s = s.1.0 ∙ ap (λ w. codes "budget" ∷ codes "pivots" ∷ w ∷ []) (sym (ap last_word s.1.0) ∙ plain)
plain_words words (Nodes n) plain s = s.1.0 ∙ ap (λ w. codes "budget" ∷ codes "nodes" ∷ w ∷ []) (sym (ap last_word s.1.0) ∙ plain)
plain_words words c plain s = s

own_plain_edit : (name : List ℕ) (k : EditKind) → IsPlainEdit (last_word (edit_words name k)) k
own_plain_edit name (Drop t) = tt
own_plain_edit name (Keep t) = tt
own_plain_edit name (Weigh t w) = refl
own_plain_edit name (SetSide side v) = refl
own_plain_edit name (SetBound side v) = refl
own_plain_edit name (SetMark whole) = tt

own_plain : (c : Command) → IsPlain (last_word (command_words c)) c
own_plain (Edit e) = own_plain_edit e.name e.kind
own_plain (Pivots n) = refl
own_plain (Nodes n) = refl
own_plain c = tt

-- what words behind `command` say
pub record CommandBehind (words : List (List ℕ)) (p : Phrase) : Type 0 where
  pub command : Command
  pub is : p ≡ Phrase.Command command
  pub plain : IsPlain (last_word words) command
  pub said : command_said words ≡ Some command

-- a command's keyword is spelled as no other, and is that of commands alone
pub is_command : (k : Keyword) → (k ≡ Keyword.Command) ⊎ (k ≢ Keyword.Command)
is_command Keyword.Command = inl refl
is_command k = inr (λ e. cc)

pub only_command : (k : Keyword) → keyword_text k ≡ codes "command" → k ≡ Keyword.Command
only_command k e = by k ((bytes_eq-Decides (keyword_text k) (codes "command")).1 e)
  where
    by : (k : Keyword) → bytes_eq (keyword_text k) (codes "command") ≡ true → k ≡ Keyword.Command
    by Keyword.Command t = refl
    by k t = absurd (true≢false (sym t))

command_phrase : (p : Phrase) → keyword_of p ≡ Keyword.Command → (c : Command) × (p ≡ Phrase.Command c)
command_phrase (Phrase.Command c) e = (c, refl)
command_phrase (Phrase.Refused Refusal.UnknownName) e = absurd (cc)
command_phrase (Phrase.Reduction (Empty i)) e = absurd (cc)
command_phrase (Phrase.Stop (StopPhrase.Branch b)) e = absurd (by b.upper e)
  where
    by : (upper : Bool) → branch_keyword upper ≡ Keyword.Command → ⊥
    by true e = cc
    by false e = cc
command_phrase p e = absurd (cc)

pub command_behind : (model : Program) (words : List (List ℕ)) (p : Phrase) → IsSpelled model Keyword.Command words p → CommandBehind words p
command_behind model words p h = let c = command_phrase p h.keyword in by c.0 c.1 (subst (IsSpelled model Keyword.Command words) c.1 h)
  where
    by : (c : Command) → p ≡ Phrase.Command c → IsSpelled model Keyword.Command words (Phrase.Command c) → CommandBehind words p
    by c is s = record { command = c; is = is; plain = subst (λ ws. IsPlain (last_word ws) c) (sym s.behind) (own_plain c); said = ap command_said s.behind ∙ own_words c s.form }

pub command_found : (model : Program) (words : List (List ℕ)) (c : Command) → IsPlain (last_word words) c → command_said words ≡ Some c → Finds (IsSpelled model Keyword.Command words) (Some (Phrase.Command c))
command_found model words c plain e = record {
  found = record { form = said_built words c e; keyword = refl; behind = plain_words words c plain (words_said words c e) };
  all = λ p h. (let s = command_behind model words p h in let t : Some c ≡ Some s.command = sym e ∙ s.said in let i = s.is in cc);
}

pub no_command_found : (model : Program) (words : List (List ℕ)) → ((c : Command) → IsPlain (last_word words) c → command_said words ≡ Some c → ⊥) → Finds (IsSpelled model Keyword.Command words) None
no_command_found model words none = record { found = tt; all = λ p h. absurd (let s = command_behind model words p h in none s.command s.plain s.said) }

-- ---- what no line is that is a command
long_fault : (line : List ℕ) → is_long line ≡ true → field_fault line ≡ Some LongLine
unfolding field_fault
long_fault line e = rw e refl

foreign_fault : (line : List ℕ) → is_long line ≡ false → is_comment line ≡ false → list_any is_foreign line ≡ true → field_fault line ≡ Some ForeignByte
unfolding field_fault
foreign_fault line e f g = by (is_long line) (is_comment line) (list_any is_foreign line) e f g
  where
    by : (a b c : Bool) → a ≡ false → b ≡ false → c ≡ true → cond a (Some LongLine) (cond b None (cond c (Some ForeignByte) None)) ≡ Some ForeignByte
    by a b c e f g = rw (e, f, g) refl

no_fault-none : (line : List ℕ) → command_said (fields_of line) ≡ None → command_of line ≡ None
no_fault-none line e = by (field_fault line)
  where
    by : (fault : Option TextKind) → unless_fault fault (command_said (fields_of line)) ≡ None
    by None = e
    by (Some fault) = refl

faulty-none : (line : List ℕ) (fault : TextKind) → field_fault line ≡ Some fault → command_of line ≡ None
faulty-none line fault e = ap (λ (f : Option TextKind). unless_fault f (command_said (fields_of line))) e

-- a field that begins with `*` is in no command's place
star_said : (part : List ℕ) (fields : List (List ℕ)) → command_said ((42 ∷ part) ∷ fields) ≡ None
star_said part [] = refl
star_said part (second ∷ []) = refl
star_said part (second ∷ third ∷ []) = no_edit_of third
star_said part (second ∷ third ∷ fourth ∷ []) = no_edit_of third
star_said part (second ∷ third ∷ fourth ∷ fifth ∷ []) = no_edit_of third
star_said part (second ∷ third ∷ fourth ∷ fifth ∷ sixth ∷ fields) = refl

starred : (cs : List ℕ) → command_said (fields_of (42 ∷ cs)) ≡ None
starred cs =
    let n : ℕ = position_or_len is_blank cs in
    let front : take (1 + n) (42 ∷ cs) ≡ 42 ∷ take n cs = rw one-add refl in
    ap command_said (fields_of-first (42 ∷ cs) (omega arith))
    ∙ ap (λ (w : List ℕ). command_said (w ∷ fields_of (drop (1 + n) (42 ∷ cs)))) front
    ∙ star_said (take n cs) (fields_of (drop (1 + n) (42 ∷ cs)))

commented : (line : List ℕ) → is_comment line ≡ true → command_said (fields_of line) ≡ None
commented [] e = absurd (true≢false (sym e))
commented (c ∷ cs) e = ap (λ (b : ℕ). command_said (fields_of (b ∷ cs))) (eqb-true c 42 e) ∙ starred cs

pub long_none : (line : List ℕ) → 65536 < length line → command_of line ≡ None
long_none line h = faulty-none line LongLine (long_fault line (grind (arith, nat_tests)))

pub foreign_none : (line : List ℕ) → list_any is_foreign line ≡ true → command_of line ≡ None
foreign_none line e = by (is_long line) (is_comment line) refl refl
  where
    by : (a b : Bool) → is_long line ≡ a → is_comment line ≡ b → command_of line ≡ None
    by true b f g = faulty-none line LongLine (long_fault line f)
    by false true f g = no_fault-none line (commented line g)
    by false false f g = faulty-none line ForeignByte (foreign_fault line f g e)

-- ---- the text of a command
-- words that are not empty, of shown bytes, are the fields of their line
Words : List (List ℕ) → Type 0
Words ws = All (λ w. is_word w ≡ true) ws

shown-no_blank : (c : ℕ) → is_shown c ≡ true → is_blank c ≡ false
shown-no_blank c h = grind (arith, nat_tests)

shown-no_foreign : (c : ℕ) → is_shown c ≡ true → is_foreign c ≡ false
shown-no_foreign c h = grind (arith, nat_tests)

no_blanks : (word : List ℕ) → Shown word → All (λ c. is_blank c ≡ false) word
no_blanks word h = All-weaker (λ c. is_shown c ≡ true) (λ c. is_blank c ≡ false) shown-no_blank word h

parted : (w : List ℕ) (ws : List (List ℕ)) → is_word w ≡ true → Words ws → slice_split is_blank (spelled w ws) ≡ w ∷ ws
unfolding Words
parted w [] h rest = slice_split_none is_blank w (no_blanks w (word_shown w h))
parted w (v ∷ ws) h rest =
    slice_split_at is_blank w 32 (spelled v ws) (no_blanks w (word_shown w h)) refl
    ∙ ap (λ l. w ∷ l) (parted v ws (All-head (λ w. is_word w ≡ true) v ws rest) (All-tail (λ w. is_word w ≡ true) v ws rest))

all_filled : (ws : List (List ℕ)) → Words ws → filter is_filled ws ≡ ws
unfolding Words
all_filled [] h = refl
all_filled (w ∷ ws) h =
    let some = (and_parts (is_filled w) (list_all is_shown w) (All-head (λ w. is_word w ≡ true) w ws h)).0 in
    ap (λ (t : Bool). cond t (w ∷ filter is_filled ws) (filter is_filled ws)) some ∙ ap (λ l. w ∷ l) (all_filled ws (All-tail (λ w. is_word w ≡ true) w ws h))

spelled_fields : (w : List ℕ) (ws : List (List ℕ)) → Words (w ∷ ws) → fields_of (spelled w ws) ≡ w ∷ ws
unfolding Words fields_of
spelled_fields w ws h = ap (filter is_filled) (parted w ws (All-head (λ w. is_word w ≡ true) w ws h) (All-tail (λ w. is_word w ≡ true) w ws h)) ∙ all_filled (w ∷ ws) h

-- and their line has no foreign byte
known_before : (word rest : List ℕ) → Shown word → list_any is_foreign (word ++ rest) ≡ list_any is_foreign rest
known_before [] rest h = refl
known_before (c ∷ word) rest h =
    ap (λ (t : Bool). t || list_any is_foreign (word ++ rest)) (shown-no_foreign c (All-head (λ c. is_shown c ≡ true) c word h)) ∙ known_before word rest (All-tail (λ c. is_shown c ≡ true) c word h)

known : (w : List ℕ) (ws : List (List ℕ)) → is_word w ≡ true → Words ws → list_any is_foreign (spelled w ws) ≡ false
unfolding Words
known w [] h rest = ap (list_any is_foreign) (sym (append-nil w)) ∙ known_before w [] (word_shown w h)
known w (v ∷ ws) h rest = known_before w (32 ∷ spelled v ws) (word_shown w h) ∙ known v ws (All-head (λ w. is_word w ≡ true) v ws rest) (All-tail (λ w. is_word w ≡ true) v ws rest)

faultless : (line : List ℕ) → length line ≤ 65536 → list_any is_foreign line ≡ false → field_fault line ≡ None
unfolding field_fault
faultless line short e = by (is_long line) (is_comment line) (list_any is_foreign line) (le-ltb 65536 (length line) short) e
  where
    by : (a b c : Bool) → a ≡ false → c ≡ false → cond a (Some LongLine) (cond b None (cond c (Some ForeignByte) None)) ≡ None
    by a true c f g = rw f refl
    by a false c f g = rw (f, g) refl

spelled_command : (w : List ℕ) (ws : List (List ℕ)) (c : Command) → IsCommand c → w ∷ ws ≡ command_words c → length (spelled w ws) ≤ 65536 → command_of (spelled w ws) ≡ Some c
unfolding Words
spelled_command w ws c h e short =
    let words = subst Words (sym e) (command_words_are c h) in
    let none = faultless (spelled w ws) short (known w ws (All-head (λ w. is_word w ≡ true) w ws words) (All-tail (λ w. is_word w ≡ true) w ws words)) in
    ap (λ (f : Option TextKind). unless_fault f (command_said (fields_of (spelled w ws)))) none ∙ ap command_said (spelled_fields w ws words ∙ e) ∙ own_words c h

-- a command has a first word
own_text_of : (words : List (List ℕ)) (c : Command) → IsCommand c → words ≡ command_words c → length (joined words) ≤ 65536 → command_of (joined words) ≡ Some c
own_text_of [] c h e short = absurd (let s : None ≡ Some c = ap command_said e ∙ own_words c h in cc)
own_text_of (w ∷ ws) c h e short = spelled_command w ws c h e short

pub own_text : (c : Command) → IsCommand c → length (command_text c) ≤ 65536 → command_of (command_text c) ≡ Some c
own_text c h short = own_text_of (command_words c) c h refl short
