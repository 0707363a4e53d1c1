-- The lines of a script so far, and the next.
use Rattle.std.proofs.Common.{◌≡◌, ◌≢◌, ◌⊎◌, ℕ, ◌+◌, ◌≤◌, Bool, true, false, ◌||◌, cond, true≢false, List, [], ◌∷◌, ◌++◌, length, drop, Option, Some, None, refl, sym, ap, ◌∙◌, arith, inl, inr, append-nil, append_assoc, length-append}
use Rattle.std.specs.Prelude.{IfOk, Result}
use Rattle.std.specs.List.{All}
use Rattle.std.proofs.lemmas.Bool.Decides.{nat_tests}
use Rattle.std.proofs.lemmas.Grind.{flat_map-append}
use Rattle.std.proofs.lemmas.List.{drop_all}
use Rattle.std.proofs.lemmas.List.Elements.{All-nil, All-cons, All-append}
use Rattle.text_fields.specs.declared.spans.Line.{Line}
use Rattle.text_fields.specs.Lines.{lines_of, line_text, after, IsLineAt}
use Rattle.text_fields.specs.Fields.{is_long}
use Rattle.text_fields.proofs.LineLists.{lines_of-nil}
use Rattle.report_text.specs.declared.report.Command.{Command}
use Rattle.report_text.specs.Form.{IsCommand}
use Rattle.phrase_reader.specs.Commands.{command_of}
use Rattle.phrase_reader.proofs.Scripted.{line_built}
use Rattle.iis_session.specs.declared.scripts.Saying.{Saying}
use Rattle.iis_session.specs.declared.scripts.Saying.TheVariants.{Nothing, Says, Bad}
use Rattle.iis_session.specs.Scripts.{most_commands, is_remark, is_blank_line, said_by, saying_of, command_in, commands_of, is_bad_after, first_bad_behind, first_bad, Takes, AreRight, IsFirstBad}

-- ---- a line
-- a line that is not passed over says the command that it is
pub line_said : (line : List ℕ) → is_long line ≡ false → is_remark line ≡ false → is_blank_line line ≡ false → said_by (command_of line) ≡ saying_of line
line_said line e f g = by (is_long line) (is_remark line) (is_blank_line line) e f g
  where
    by : (a b c : Bool) → a ≡ false → b ≡ false → c ≡ false → said_by (command_of line) ≡ cond a Bad (cond (b || c) Nothing (said_by (command_of line)))
    by a b c e f g = rw (e, f, g) refl

pub said_same : {E : Type 0} (r : Result Saying E) (x y : Saying) → x ≡ y → IfOk r (λ s. s ≡ x) → IfOk r (λ s. s ≡ y)
said_same r x y e h = rw e at h

-- ---- lines
-- one line more
pub commands-more : (front : List (List ℕ)) (line : List ℕ) → commands_of (front ++ line ∷ []) ≡ commands_of front ++ command_in (saying_of line)
commands-more front line = flat_map-append (λ l. command_in (saying_of l)) front (line ∷ []) ∙ ap (λ cs. commands_of front ++ cs) (append-nil (command_in (saying_of line)))

-- the lines of a text so far are right, and these are their commands
pub record SoFar (bytes : List ℕ) (at number : ℕ) (commands : List Command) : Type 0 where
  pub front : List (List ℕ)
  pub within : at ≤ length bytes
  pub early : number ≤ at + 1
  pub number_is : number ≡ length front + 1
  pub lines : lines_of bytes ≡ front ++ lines_of (drop at bytes)
  pub kept : commands ≡ commands_of front
  pub bad : first_bad (lines_of bytes) ≡ first_bad_behind front (lines_of (drop at bytes))

pub so_far-init : (bytes : List ℕ) → SoFar bytes 0 1 []
so_far-init bytes = record { front = []; within = omega arith; early = omega arith; number_is = refl; lines = refl; kept = refl; bad = refl }

-- a line more
pub so_far-more : (bytes : List ℕ) (at number : ℕ) (commands new : List Command) (line : Line) → SoFar bytes at number commands → IsLineAt bytes at number line
    → Takes (saying_of (line_text bytes line)) commands new → SoFar bytes (after bytes line) (number + 1) new
so_far-more bytes at number commands new line h l t =
    let text : List ℕ = line_text bytes line in
    let rest : List (List ℕ) = lines_of (drop (after bytes line) bytes) in
    let low = l.in_order in
    let high = l.within in
    let from = l.from_is in
    let some = l.some in
    let early = h.early in
    record {
      front = h.front ++ text ∷ [];
      within = omega arith;
      early = omega arith;
      number_is = ap (λ (n : ℕ). n + 1) (h.number_is ∙ sym (length-append h.front (text ∷ [])));
      lines = h.lines ∙ ap (λ (ls : List (List ℕ)). h.front ++ ls) l.first ∙ sym (append_assoc h.front (text ∷ []) rest);
      kept = t.appended ∙ ap (λ (cs : List Command). cs ++ command_in (saying_of text)) h.kept ∙ sym (commands-more h.front text);
      bad =
          h.bad ∙ ap (first_bad_behind h.front) l.first
          ∙ ap (λ (b : Bool). cond b (Some (length h.front + 1)) (first_bad_behind (h.front ++ text ∷ []) rest))
          (ap (λ (cs : List Command). is_bad_after (length cs) (saying_of text)) (sym h.kept) ∙ t.right);
    }

-- the next line is bad
pub so_far-bad : (bytes : List ℕ) (at number : ℕ) (commands : List Command) (line : Line) → SoFar bytes at number commands → IsLineAt bytes at number line
    → is_bad_after (length commands) (saying_of (line_text bytes line)) ≡ true → first_bad (lines_of bytes) ≡ Some number
so_far-bad bytes at number commands line h l e =
    let text : List ℕ = line_text bytes line in
    let rest : List (List ℕ) = lines_of (drop (after bytes line) bytes) in
    h.bad ∙ ap (first_bad_behind h.front) l.first
    ∙ ap (λ (b : Bool). cond b (Some (length h.front + 1)) (first_bad_behind (h.front ++ text ∷ []) rest))
    (ap (λ (cs : List Command). is_bad_after (length cs) (saying_of text)) (sym h.kept) ∙ e)
    ∙ ap Some (sym h.number_is)

no_lines : (bytes : List ℕ) (at : ℕ) → at ≡ length bytes → lines_of (drop at bytes) ≡ []
no_lines bytes at e = ap lines_of (drop_all at bytes (omega arith)) ∙ lines_of-nil

-- no line is left
pub so_far-read : (bytes : List ℕ) (at number : ℕ) (commands : List Command) → SoFar bytes at number commands → at ≡ length bytes → commands ≡ commands_of (lines_of bytes)
so_far-read bytes at number commands h e =
    h.kept ∙ ap commands_of (sym (append-nil h.front) ∙ ap (λ (ls : List (List ℕ)). h.front ++ ls) (sym (no_lines bytes at e)) ∙ sym h.lines)

pub so_far-right : (bytes : List ℕ) (at number : ℕ) (commands : List Command) → SoFar bytes at number commands → at ≡ length bytes → first_bad (lines_of bytes) ≡ None
so_far-right bytes at number commands h e = h.bad ∙ ap (first_bad_behind h.front) (no_lines bytes at e)

-- ---- laws
-- a line that is not bad keeps the lines right
right-more : (front : List (List ℕ)) (line : List ℕ) → AreRight front → is_bad_after (length (commands_of front)) (saying_of line) ≡ false → AreRight (front ++ line ∷ [])
right-more front line h e = record {
  each = All-append (λ l. saying_of l ≢ Bad) front (line ∷ []) h.each (All-cons (λ l. saying_of l ≢ Bad) line [] (said (length (commands_of front)) (saying_of line) e) (All-nil (λ l. saying_of l ≢ Bad)));
  few =
      let k : length (commands_of (front ++ line ∷ [])) ≡ length (commands_of front) + length (command_in (saying_of line)) = ap length (commands-more front line) ∙ length-append (commands_of front) (command_in (saying_of line)) in
      let r = room (length (commands_of front)) (saying_of line) h.few e in
      omega arith;
}
  where
    said : (count : ℕ) (s : Saying) → is_bad_after count s ≡ false → s ≢ Bad
    said count Nothing e f = grind arith
    said count (Says c) e f = grind arith
    said count Bad e f = true≢false e

    room : (count : ℕ) (s : Saying) → count ≤ most_commands → is_bad_after count s ≡ false → count + length (command_in s) ≤ most_commands
    room count Nothing h e = omega arith
    room count (Says c) h e = grind (arith, nat_tests)
    room count Bad h e = absurd (true≢false e)

right_behind : (front lines : List (List ℕ)) → AreRight front → first_bad_behind front lines ≡ None → AreRight (front ++ lines)
right_behind front [] h e = rw append-nil h
right_behind front (line ∷ lines) h e =
    by (is_bad_after (length (commands_of front)) (saying_of line)) refl (λ f. right_behind (front ++ line ∷ []) lines (right-more front line h f)) e
  where
    by : (b : Bool) → is_bad_after (length (commands_of front)) (saying_of line) ≡ b
        → (is_bad_after (length (commands_of front)) (saying_of line) ≡ false → first_bad_behind (front ++ line ∷ []) lines ≡ None → AreRight ((front ++ line ∷ []) ++ lines))
        → cond b (Some (length front + 1)) (first_bad_behind (front ++ line ∷ []) lines) ≡ None → AreRight (front ++ line ∷ lines)
    by true f next g = grind arith
    by false f next g = let r = next f g in rw append_assoc at r

no_lines_right : AreRight []
no_lines_right = record { each = All-nil (λ l. saying_of l ≢ Bad); few = omega arith }

pub lines_right : (lines : List (List ℕ)) → first_bad lines ≡ None → AreRight lines
lines_right lines e = right_behind [] lines no_lines_right e

bad_behind : (front lines : List (List ℕ)) (n : ℕ) → AreRight front → first_bad_behind front lines ≡ Some n → IsFirstBad (front ++ lines) n
bad_behind front [] n h e = grind arith
bad_behind front (line ∷ lines) n h e =
    by (is_bad_after (length (commands_of front)) (saying_of line)) refl (λ f. bad_behind (front ++ line ∷ []) lines n (right-more front line h f)) e
  where
    why : (s : Saying) → saying_of line ≡ s → is_bad_after (length (commands_of front)) s ≡ true → (saying_of line ≡ Bad) ⊎ (length (commands_of (front ++ line ∷ [])) ≡ most_commands + 1)
    why Nothing f g = absurd (true≢false (sym g))
    why (Says c) f g =
        let few = h.few in
        let k : length (commands_of (front ++ line ∷ [])) ≡ length (commands_of front) + 1 = ap length (commands-more front line) ∙ length-append (commands_of front) (command_in (saying_of line)) ∙ ap (λ s. length (commands_of front) + length (command_in s)) f in
        inr (grind (arith, nat_tests))
    why Bad f g = inl f

    by : (b : Bool) → is_bad_after (length (commands_of front)) (saying_of line) ≡ b
        → (is_bad_after (length (commands_of front)) (saying_of line) ≡ false → first_bad_behind (front ++ line ∷ []) lines ≡ Some n → IsFirstBad ((front ++ line ∷ []) ++ lines) n)
        → cond b (Some (length front + 1)) (first_bad_behind (front ++ line ∷ []) lines) ≡ Some n → IsFirstBad (front ++ line ∷ lines) n
    by true f next g = record { front = front; line = line; rest = lines; split = refl; number = grind arith; before = h; bad = why (saying_of line) refl f }
    by false f next g = let r = next f g in rw append_assoc at r

pub line_bad : (lines : List (List ℕ)) (n : ℕ) → first_bad lines ≡ Some n → IsFirstBad lines n
line_bad lines n e = bad_behind [] lines n no_lines_right e

line_commands : (line : List ℕ) → All IsCommand (command_in (saying_of line))
line_commands line = by (is_long line) (is_remark line || is_blank_line line) (command_of line) refl
  where
    by : (a b : Bool) (o : Option Command) → command_of line ≡ o → All IsCommand (command_in (cond a Bad (cond b Nothing (said_by o))))
    by true b o e = All-nil IsCommand
    by false true o e = All-nil IsCommand
    by false false None e = All-nil IsCommand
    by false false (Some c) e = All-cons IsCommand c [] (line_built line c e) (All-nil IsCommand)

pub lines_built : (lines : List (List ℕ)) → All IsCommand (commands_of lines)
lines_built [] = All-nil IsCommand
lines_built (line ∷ lines) = All-append IsCommand (command_in (saying_of line)) (commands_of lines) (line_commands line) (lines_built lines)
