-- Scans from a place on: the next token, the next line.
use Rattle.std.proofs.Common.{◌≡◌, ◌≢◌, ℕ, zero, suc, ◌+◌, ◌-◌, ◌<◌, ◌≤◌, ◌||◌, ◌⊎◌, not, Bool, true, false, cond, List, [], ◌∷◌, length, get_or, take, drop, Option, Some, None, refl, sym, ap, ◌∙◌, arith, eq-eqb, inl, inr, length-drop}
use Rattle.std.proofs.Math.Numerals.{one-add}
use Rattle.std.specs.List.{prefix_len, position_or_len, before_first, after_first}
use Rattle.std.proofs.lemmas.Bool.{ne_eqb, not-true, and_from, and_parts}
use Rattle.std.proofs.lemmas.Bool.Decides.{nat_tests}
use Rattle.std.proofs.lemmas.List.{take-take, drop-drop, drop_more, drop_all, get_or-drop, nil_from_length}
use Rattle.std.proofs.lemmas.List.Sums.{prefix_len_passes, passes_at_first, prefix_len-le-length}
use Rattle.lane_scan.specs.Bytes.{is_end, is_blank, is_nonblank, nonblank_within}
use Rattle.lane_scan.proofs.Firsts.{first-rest}
use Rattle.text_fields.specs.declared.pieces.TokenKind.{TokenKind}
use Rattle.text_fields.specs.declared.faults.TextKind.{TextKind}
use Rattle.text_fields.specs.Lines.{lines_of, text_of}
use Rattle.text_fields.specs.Pieces.{piece_at, Is}
use Rattle.text_fields.specs.Tokens.{is_backslash, token_fault, lexeme, lexemes, Scan, before, line_scan, scan_lines, is_line_start, only_blanks, rest_scan, scan_at, nothing, IsFaultOf, IsTokenAt, IsNext}
use Rattle.text_fields.specs.declared.tokens.Place.{Place}
use Rattle.text_fields.specs.declared.tokens.Token.{Token}
use Rattle.text_fields.proofs.LineLists.{lines_of-nil, lines_of-first}
use Rattle.text_fields.proofs.Cuts.{cut-prefix, cut-cons_yes, cut-cons_no, cut-drop, rest-drop, blanks-within}
use Rattle.text_fields.proofs.Solids.{is_solid, end_fails, piece-solid, solid-within, cut-piece}

-- ---- the tokens of a line
lexemes-skip : (f : Bool) (l n : ℕ) (xs : List ℕ) → lexemes f l n xs ≡ lexemes f l 0 (drop n xs)
unfolding lexemes
lexemes-skip f l zero xs = refl
lexemes-skip f l (suc n) [] = refl
lexemes-skip f l (suc n) (c ∷ cs) = lexemes-skip f l n cs

lexemes-nil : (f : Bool) (l : ℕ) → lexemes f l 0 [] ≡ []
unfolding lexemes
lexemes-nil f l = refl

lexemes-by : (f : Bool) (l c : ℕ) (cs : List ℕ) (comment blank : Bool) → is_backslash c ≡ comment → is_blank c ≡ blank
    → lexemes f l 0 (c ∷ cs) ≡ cond comment [] (cond blank (lexemes f l 0 cs) (lexeme f l (c ∷ cs) ∷ lexemes false l ((piece_at (c ∷ cs)).len - 1) cs))
unfolding lexemes
lexemes-by f l c cs comment blank e g =
    ap (λ (b : Bool). cond b [] (cond (is_blank c) (lexemes f l 0 cs) (lexeme f l (c ∷ cs) ∷ lexemes false l ((piece_at (c ∷ cs)).len - 1) cs))) e
    ∙ ap (λ (b : Bool). cond comment [] (cond b (lexemes f l 0 cs) (lexeme f l (c ∷ cs) ∷ lexemes false l ((piece_at (c ∷ cs)).len - 1) cs))) g

no_comment : (c : ℕ) → is_blank c ≡ true → is_backslash c ≡ false
no_comment c h = grind (arith, nat_tests)

-- the blanks before a piece are passed over
lexemes-blanks : (f : Bool) (l : ℕ) (xs : List ℕ) → lexemes f l 0 xs ≡ lexemes f l 0 (drop (position_or_len is_nonblank xs) xs)
lexemes-blanks f l [] = refl
lexemes-blanks f l (c ∷ cs) = by (is_blank c) refl (lexemes-blanks f l cs)
  where
    next : (n : ℕ) → drop (1 + n) (c ∷ cs) ≡ drop n cs
    next n = rw one-add refl

    by : (b : Bool) → is_blank c ≡ b → lexemes f l 0 cs ≡ lexemes f l 0 (drop (position_or_len is_nonblank cs) cs)
        → lexemes f l 0 (c ∷ cs) ≡ lexemes f l 0 (drop (cond (not (not b)) (1 + position_or_len is_nonblank cs) 0) (c ∷ cs))
    by true e h = lexemes-by f l c cs false true (no_comment c e) e ∙ h ∙ ap (lexemes f l 0) (sym (next (position_or_len is_nonblank cs)))
    by false e h = refl

drop-some : (n c : ℕ) (cs : List ℕ) → 0 < n → drop (n - 1) cs ≡ drop n (c ∷ cs)
drop-some zero c cs h = absurd (omega arith)
drop-some (suc n) c cs h = ap (λ (k : ℕ). drop k cs) (omega arith)

-- a piece is a token, and the others follow it
lexemes-piece : (f : Bool) (l : ℕ) (xs : List ℕ) (c : ℕ) (cs : List ℕ) → xs ≡ c ∷ cs → is_backslash c ≡ false → is_blank c ≡ false → 0 < (piece_at xs).len
    → lexemes f l 0 xs ≡ lexeme f l xs ∷ lexemes false l 0 (drop (piece_at xs).len xs)
lexemes-piece f l xs c cs e p q h =
    let n : ℕ = (piece_at (c ∷ cs)).len in
    let some : 0 < n = rw e at h in
    ap (lexemes f l 0) e ∙ lexemes-by f l c cs false false p q
    ∙ ap (λ ls. lexeme f l (c ∷ cs) ∷ ls) (lexemes-skip false l (n - 1) cs ∙ ap (lexemes false l 0) (drop-some n c cs some))
    ∙ ap (λ (ys : List ℕ). lexeme f l ys ∷ lexemes false l 0 (drop (piece_at ys).len ys)) (sym e)

-- ---- the rest of a line and the lines after it
rest-blanks : (f : Bool) (n : ℕ) (xs : List ℕ) → rest_scan f n xs ≡ rest_scan f n (drop (position_or_len is_nonblank xs) xs)
unfolding rest_scan
rest-blanks f n xs =
    let s : ℕ = position_or_len is_nonblank xs in
    let cut : List ℕ = before_first is_end xs in
    let within = blanks-within xs in
    let same : position_or_len is_nonblank cut ≡ s = cut-prefix (λ x. not (is_nonblank x)) (λ c h. end_fails (λ x. not (is_nonblank x)) refl c h) xs in
    let found : lexemes f n 0 cut ≡ lexemes f n 0 (before_first is_end (drop s xs)) =
    lexemes-blanks f n cut ∙ ap (λ (k : ℕ). lexemes f n 0 (drop k cut)) same ∙ ap (lexemes f n 0) (sym (cut-drop s xs within)) in
    ap (λ ls. before ls (scan_lines (n + 1) (lines_of (after_first is_end xs)))) found
    ∙ ap (λ ys. before (lexemes f n 0 (before_first is_end (drop s xs))) (scan_lines (n + 1) (lines_of ys))) (sym (rest-drop s xs within))

-- where no token is left, the next line is to be looked at
rest-none : (f : Bool) (n : ℕ) (xs : List ℕ) → lexemes f n 0 (before_first is_end xs) ≡ [] → rest_scan f n xs ≡ scan_lines (n + 1) (lines_of (after_first is_end xs))
unfolding rest_scan
rest-none f n xs e = ap (λ ls. before ls (scan_lines (n + 1) (lines_of (after_first is_end xs)))) e

none-end : (f : Bool) (n c : ℕ) (cs : List ℕ) → is_end c ≡ true → lexemes f n 0 (before_first is_end (c ∷ cs)) ≡ []
none-end f n c cs e = ap (lexemes f n 0) (cut-cons_yes c cs e) ∙ lexemes-nil f n

none-comment : (f : Bool) (n c : ℕ) (cs : List ℕ) → is_backslash c ≡ true → lexemes f n 0 (before_first is_end (c ∷ cs)) ≡ []
none-comment f n c cs e =
    ap (lexemes f n 0) (cut-cons_no c cs (grind (arith, nat_tests))) ∙ lexemes-by f n c (before_first is_end cs) true (is_blank c) e refl

-- a piece is the first token of a scan
rest-some : (f : Bool) (n c : ℕ) (cs : List ℕ) → is_solid c ≡ true → is_backslash c ≡ false
    → rest_scan f n (c ∷ cs) ≡ before (lexeme f n (c ∷ cs) ∷ []) (rest_scan false n (drop (piece_at (c ∷ cs)).len (c ∷ cs)))
unfolding rest_scan
rest-some f n c cs solid e =
    let xs : List ℕ = c ∷ cs in
    let cut : List ℕ = before_first is_end xs in
    let k : ℕ = (piece_at xs).len in
    let parts = and_parts (not (is_blank c)) (not (is_end c)) solid in
    let no_end : is_end c ≡ false = not-true (is_end c) parts.1 in
    let size = piece-solid c cs solid in
    let within : k ≤ position_or_len is_end xs = (let a = solid-within xs in let b = size.1 in omega arith) in
    let same : piece_at cut ≡ piece_at xs = cut-piece c cs no_end in
    let some : 0 < (piece_at cut).len = rw same size.0 in
    let first : lexeme f n cut ≡ lexeme f n xs =
    ap (λ p. record { kind = p.kind; text = take p.len cut; line = n; first = f }) same
    ∙ ap (λ (t : List ℕ). record { kind = (piece_at xs).kind; text = t; line = n; first = f }) (take-take k (position_or_len is_end xs) xs within) in
    let rest : drop (piece_at cut).len cut ≡ before_first is_end (drop k xs) = ap (λ p. drop p.len cut) same ∙ sym (cut-drop k xs within) in
    ap (λ ls. before ls (scan_lines (n + 1) (lines_of (after_first is_end xs))))
    (lexemes-piece f n cut c (before_first is_end cs) (cut-cons_no c cs no_end) e (not-true (is_blank c) parts.0) some
    ∙ ap (λ l. l ∷ lexemes false n 0 (drop (piece_at cut).len cut)) first
    ∙ ap (λ ys. lexeme f n xs ∷ lexemes false n 0 ys) rest)
    ∙ ap (λ ys. before (lexeme f n xs ∷ lexemes false n 0 (before_first is_end (drop k xs))) (scan_lines (n + 1) (lines_of ys))) (sym (rest-drop k xs within))

-- ---- a line that is looked at from its begin
scan_lines-by : (n : ℕ) (xs : List ℕ) (fault : Option TextKind) → 0 < length xs → token_fault (before_first is_end xs) ≡ fault
    → scan_lines n (lines_of xs) ≡ line_scan fault n (lexemes true n 0 (before_first is_end xs)) (scan_lines (n + 1) (lines_of (after_first is_end xs)))
unfolding scan_lines
scan_lines-by n xs fault h e =
    ap (scan_lines n) (lines_of-first xs h)
    ∙ ap (λ k. line_scan k n (lexemes true n 0 (before_first is_end xs)) (scan_lines (n + 1) (lines_of (after_first is_end xs)))) e

pub scan_lines-fault : (n : ℕ) (xs : List ℕ) (kind : TextKind) → 0 < length xs → token_fault (before_first is_end xs) ≡ Some kind → IsFaultOf (scan_lines n (lines_of xs)) (record { line = n; kind = kind })
scan_lines-fault n xs kind h e = scan_lines-by n xs (Some kind) h e

pub scan_lines-rest : (n : ℕ) (xs : List ℕ) → 0 < length xs → token_fault (before_first is_end xs) ≡ None → scan_lines n (lines_of xs) ≡ rest_scan true n xs
unfolding rest_scan
scan_lines-rest n xs h e = scan_lines-by n xs None h e

pub scan_lines-none : (n : ℕ) (xs : List ℕ) → length xs ≡ 0 → scan_lines n (lines_of xs) ≡ nothing
unfolding scan_lines
scan_lines-none n xs h = ap (λ ys. scan_lines n (lines_of ys)) (nil_from_length xs h) ∙ ap (scan_lines n) lines_of-nil

-- ---- a scan from a place on
pub scan_at-start : (bytes : List ℕ) (at n : ℕ) → is_line_start bytes at ≡ true → scan_at bytes at n ≡ scan_lines n (lines_of (drop at bytes))
unfolding scan_at
scan_at-start bytes at n e = ap (λ (b : Bool). cond b (scan_lines n (lines_of (drop at bytes))) (rest_scan (only_blanks bytes at) n (drop at bytes))) e

pub scan_at-rest : (bytes : List ℕ) (at n : ℕ) → is_line_start bytes at ≡ false → scan_at bytes at n ≡ rest_scan (only_blanks bytes at) n (drop at bytes)
unfolding scan_at
scan_at-rest bytes at n e = ap (λ (b : Bool). cond b (scan_lines n (lines_of (drop at bytes))) (rest_scan (only_blanks bytes at) n (drop at bytes))) e

-- by the byte before the place
pub only_blanks-by : (bytes : List ℕ) (i : ℕ) (end blank : Bool) → 0 < i → is_end (get_or bytes (i - 1) 0) ≡ end → is_blank (get_or bytes (i - 1) 0) ≡ blank
    → only_blanks bytes i ≡ (end || cond blank (only_blanks bytes (i - 1)) false)
unfolding only_blanks
only_blanks-by bytes zero end blank h e f = absurd (omega arith)
only_blanks-by bytes (suc i) end blank h e f =
    let here : i ≡ suc i - 1 = omega arith in
    ap (λ (k : ℕ). is_end (get_or bytes k 0) || cond (is_blank (get_or bytes k 0)) (only_blanks bytes k) false) here
    ∙ ap (λ (b : Bool). b || cond (is_blank (get_or bytes (suc i - 1) 0)) (only_blanks bytes (suc i - 1)) false) e
    ∙ ap (λ (b : Bool). end || cond b (only_blanks bytes (suc i - 1)) false) f

-- after a solid byte no line begins, and there is more than blanks before
scan_at-after : (bytes : List ℕ) (to n : ℕ) → 0 < to → is_solid (get_or bytes (to - 1) 0) ≡ true → scan_at bytes to n ≡ rest_scan false n (drop to bytes)
unfolding only_blanks
scan_at-after bytes zero n h solid = absurd (omega arith)
scan_at-after bytes (suc i) n h solid =
    let here : suc i - 1 ≡ i = omega arith in
    let parts = and_parts (not (is_blank (get_or bytes (suc i - 1) 0))) (not (is_end (get_or bytes (suc i - 1) 0))) solid in
    let no_end : is_end (get_or bytes i 0) ≡ false = ap (λ (k : ℕ). is_end (get_or bytes k 0)) (sym here) ∙ not-true (is_end (get_or bytes (suc i - 1) 0)) parts.1 in
    let no_blank : is_blank (get_or bytes i 0) ≡ false = ap (λ (k : ℕ). is_blank (get_or bytes k 0)) (sym here) ∙ not-true (is_blank (get_or bytes (suc i - 1) 0)) parts.0 in
    scan_at-rest bytes (suc i) n no_end
    ∙ ap (λ (b : Bool). rest_scan (b || cond (is_blank (get_or bytes i 0)) (only_blanks bytes i) false) n (drop (suc i) bytes)) no_end
    ∙ ap (λ (b : Bool). rest_scan (cond b (only_blanks bytes i) false) n (drop (suc i) bytes)) no_blank

-- ---- the next piece of the rest of a line
-- what stands at the first place without a blank
pub record AtNonblank (bytes : List ℕ) (at from : ℕ) : Type 0 where
  pub low : at ≤ from
  pub high : from ≤ length bytes
  pub nonblank : from < length bytes → is_blank (get_or bytes from 0) ≡ false
  pub same : (f : Bool) (n : ℕ) → rest_scan f n (drop at bytes) ≡ rest_scan f n (drop from bytes)
  pub after : after_first is_end (drop from bytes) ≡ after_first is_end (drop at bytes)

pub at_nonblank : (bytes : List ℕ) (at from : ℕ) → at ≤ length bytes → from ≡ nonblank_within bytes at (length bytes) → AtNonblank bytes at from
at_nonblank bytes at from h e =
    let rest : List ℕ = drop at bytes in
    let s : ℕ = position_or_len is_nonblank rest in
    let long = length-drop at bytes in
    let is : from ≡ at + s = e ∙ ap (λ (k : ℕ). at + k) (first-rest is_nonblank bytes at) in
    let few : s ≤ length rest = prefix_len-le-length (λ x. not (is_nonblank x)) rest in
    let there : drop s rest ≡ drop from bytes = drop-drop s at bytes ∙ ap (λ (k : ℕ). drop k bytes) (sym is) in
    record {
      low = omega arith;
      high = omega arith;
      nonblank = λ l.
          let here : is_nonblank (get_or rest s 0) ≡ true = passes_at_first is_nonblank rest 0 (omega arith) in
          let read : get_or rest s 0 ≡ get_or bytes from 0 = get_or-drop at bytes s 0 ∙ ap (λ (k : ℕ). get_or bytes k 0) (sym is) in
          not-true (is_blank (get_or bytes from 0)) (ap is_nonblank (sym read) ∙ here);
      same = λ f n. rest-blanks f n rest ∙ ap (rest_scan f n) there;
      after = ap (after_first is_end) (sym there) ∙ rest-drop s rest (blanks-within rest);
    }

-- no token is left in the line
pub line_done : (bytes : List ℕ) (at from : ℕ) (f : Bool) (n : ℕ) → AtNonblank bytes at from → (from ≡ length bytes) ⊎ ((from < length bytes) × ((get_or bytes from 0 ≡ 10) ⊎ (get_or bytes from 0 ≡ 92)))
    → rest_scan f n (drop at bytes) ≡ scan_lines (n + 1) (lines_of (after_first is_end (drop at bytes)))
line_done bytes at from f n a h =
    a.same f n ∙ rest-none f n (drop from bytes) (none h) ∙ ap (λ ys. scan_lines (n + 1) (lines_of ys)) a.after
  where
    none : (from ≡ length bytes) ⊎ ((from < length bytes) × ((get_or bytes from 0 ≡ 10) ⊎ (get_or bytes from 0 ≡ 92))) → lexemes f n 0 (before_first is_end (drop from bytes)) ≡ []
    none (inl e) = ap (λ ys. lexemes f n 0 (before_first is_end ys)) (drop_all from bytes (omega arith)) ∙ lexemes-nil f n
    none (inr (l, inl e)) =
        ap (λ ys. lexemes f n 0 (before_first is_end ys)) (drop_more bytes from 0 l) ∙ none-end f n (get_or bytes from 0) (drop (from + 1) bytes) (eq-eqb (get_or bytes from 0) 10 e)
    none (inr (l, inr e)) =
        ap (λ ys. lexemes f n 0 (before_first is_end ys)) (drop_more bytes from 0 l) ∙ none-comment f n (get_or bytes from 0) (drop (from + 1) bytes) (eq-eqb (get_or bytes from 0) 92 e)

-- the piece there is the first token, and the others stand from its end on
pub token_there : (bytes : List ℕ) (at from k : ℕ) (kind : TokenKind) (f : Bool) (n : ℕ) → AtNonblank bytes at from → from < length bytes → get_or bytes from 0 ≢ 10 → get_or bytes from 0 ≢ 92
    → Is (kind, k) (piece_at (drop from bytes))
    → rest_scan f n (drop at bytes) ≡ before ((record { kind = kind; text = text_of bytes (record { from = from; to = from + k }); line = n; first = f }) ∷ []) (scan_at bytes (from + k) n)
token_there bytes at from k kind f n a l no_end no_comment is =
    let c : ℕ = get_or bytes from 0 in
    let cs : List ℕ = drop (from + 1) bytes in
    let xs : List ℕ = drop from bytes in
    let e : xs ≡ c ∷ cs = drop_more bytes from 0 l in
    let solid : is_solid c ≡ true =
    and_from (not (is_blank c)) (not (is_end c)) (ap not (a.nonblank l)) (ap not (ne_eqb c 10 no_end)) in
    let p : (piece_at (c ∷ cs)).len ≡ k = ap (λ ys. (piece_at ys).len) (sym e) ∙ ap (λ q. q.len) is in
    let size = piece-solid c cs solid in
    let some : 0 < k = (let h = size.0 in omega arith) in
    let few : k ≤ prefix_len is_solid xs = rw e (let h = size.1 in omega arith) in
    let read : get_or xs (k - 1) 0 ≡ get_or bytes (from + k - 1) 0 = get_or-drop from bytes (k - 1) 0 ∙ ap (λ (i : ℕ). get_or bytes i 0) (omega arith) in
    let last : is_solid (get_or bytes (from + k - 1) 0) ≡ true = ap is_solid (sym read) ∙ prefix_len_passes is_solid xs (k - 1) 0 (omega arith) in
    let cut : k ≡ (from + k) - from = omega arith in
    a.same f n
    ∙ ap (rest_scan f n) e ∙ rest-some f n c cs solid (ne_eqb c 92 no_comment) ∙ ap (λ ys. before (lexeme f n ys ∷ []) (rest_scan false n (drop (piece_at ys).len ys))) (sym e)
    ∙ ap (λ q. before ((record { kind = q.kind; text = take q.len xs; line = n; first = f }) ∷ []) (rest_scan false n (drop q.len xs))) is
    ∙ ap (λ (i : ℕ). before ((record { kind = kind; text = take i xs; line = n; first = f }) ∷ []) (rest_scan false n (drop k xs))) cut
    ∙ ap (before ((record { kind = kind; text = text_of bytes (record { from = from; to = from + k }); line = n; first = f }) ∷ []))
    (ap (rest_scan false n) (drop-drop k from bytes) ∙ sym (scan_at-after bytes (from + k) n (omega arith) last))

-- ---- from an earlier place, and of the same scan
pub token_from : (bytes : List ℕ) (scan whole : Scan) (at n : ℕ) (place : Place) (token : Token) (next : Place) → whole ≡ scan → place.at ≤ at → place.line ≤ n
    → IsTokenAt bytes scan (record { at = at; line = n }) token next → IsTokenAt bytes whole place token next
token_from bytes scan whole at n place token next e h l t = record {
  first = e ∙ t.first;
  next_at = t.next_at;
  next_line = t.next_line;
  low = (let a = t.low in omega arith);
  some = t.some;
  within = t.within;
  line_low = (let a = t.line_low in omega arith);
  line_high = t.line_high;
}

pub next_from : (bytes : List ℕ) (scan whole : Scan) (at n : ℕ) (place : Place) (found : Option (Token × Place)) → whole ≡ scan → place.at ≤ at → place.line ≤ n
    → IsNext bytes scan (record { at = at; line = n }) found → IsNext bytes whole place found
next_from bytes scan whole at n place None e h l t = e ∙ t
next_from bytes scan whole at n place (Some found) e h l t = token_from bytes scan whole at n place found.0 found.1 e h l t
