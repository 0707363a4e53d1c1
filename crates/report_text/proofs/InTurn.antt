-- Entries behind others.
use Rattle.std.proofs.Common.{◌≡◌, ◌<◌, ◌+◌, sym, ◌∙◌, ap, subst, ℕ, zero, suc, List, [], ◌∷◌, ◌++◌, append_assoc, append-nil, length, length-append, get_or, take, drop, arith}
use Rattle.std.proofs.lemmas.List.{map-append, take_more, at_drop_more}
use Rattle.lp_model.specs.Program.{Program}
use Rattle.report_text.specs.declared.report.Command.{Command}
use Rattle.report_text.specs.declared.report.Entry.{Entry}
use Rattle.report_text.specs.Turns.{after, entry_commands, gathered, AllEntries}
use Rattle.report_text.specs.Grammar.{entry_phrases, entries_phrases}
use Rattle.report_text.specs.Form.{AreNumbered}

-- the commands before what stands behind one entry more
commands_on : (before : List Command) (e : Entry) (entries : List Entry) → (before ++ e.command ∷ []) ++ entry_commands entries ≡ before ++ entry_commands (e ∷ entries)
commands_on before e entries = append_assoc before (e.command ∷ []) (entry_commands entries)

pub commands_push : (entries : List Entry) (e : Entry) → entry_commands (entries ++ e ∷ []) ≡ entry_commands entries ++ e.command ∷ []
commands_push entries e = map-append (λ (x : Entry). x.command) entries (e ∷ [])

-- one entry more
pub gathered-push : {A : Type 0} (make : List Command → Entry → List A) (before : List Command) (entries : List Entry) (e : Entry)
    → gathered make before (entries ++ e ∷ []) ≡ gathered make before entries ++ make (before ++ entry_commands entries) e
gathered-push make before [] e = append-nil (make before e) ∙ ap (λ (b : List Command). make b e) (sym (append-nil before))
gathered-push make before (x ∷ entries) e =
    let next = before ++ x.command ∷ [] in
    ap (λ l. make before x ++ l) (gathered-push make next entries e ∙ ap (λ (b : List Command). gathered make next entries ++ make b e) (commands_on before x entries))
    ∙ sym (append_assoc (make before x) (gathered make next entries) (make (before ++ entry_commands (x ∷ entries)) e))

pub AllEntries-push : (Holds : List Command → Entry → Type 0) (before : List Command) (entries : List Entry) (e : Entry) → AllEntries Holds before entries → Holds (before ++ entry_commands entries) e → AllEntries Holds before (entries ++ e ∷ [])
AllEntries-push Holds before [] e h k = (subst (λ (b : List Command). Holds b e) (append-nil before) k, tt)
AllEntries-push Holds before (x ∷ entries) e h k = (h.0, AllEntries-push Holds (before ++ x.command ∷ []) entries e h.1 (subst (λ (b : List Command). Holds b e) (sym (commands_on before x entries)) k))

-- one entry more on the line after those before it
pub numbered-push : (model : Program) (before : List Command) (n : ℕ) (entries : List Entry) (e : Entry) → AreNumbered model before n entries → e.line ≡ n + length (entries_phrases model before entries) → AreNumbered model before n (entries ++ e ∷ [])
numbered-push model before n [] e h k = (k ∙ (omega arith), tt)
numbered-push model before n (x ∷ entries) e h k =
    let next = before ++ x.command ∷ [] in
    let lines = entry_phrases (after model before) x in (
      h.0,
      numbered-push model next (n + length lines) entries e h.1
          (k ∙ ap (λ z. n + z) (length-append lines (entries_phrases model next entries)) ∙ (let a = length lines in let b = length (entries_phrases model next entries) in let z : n + (a + b) ≡ n + a + b = omega arith in z)),
    )

-- ---- the entries from number i on
one_more : (entries : List Entry) (i : ℕ) (e d : Entry) → i < length entries → e ≡ get_or entries i d → take (i + 1) entries ≡ take i entries ++ e ∷ []
one_more entries i e d l is = take_more entries i d l ∙ ap (λ (x : Entry). take i entries ++ x ∷ []) (sym is)

pub gathered-at : {A : Type 0} (make : List Command → Entry → List A) (entries : List Entry) (i : ℕ) (e : Entry) → i < length entries → e ≡ get_or entries i e
    → gathered make (entry_commands (take i entries)) (drop i entries) ≡ make (entry_commands (take i entries)) e ++ gathered make (entry_commands (take (i + 1) entries)) (drop (i + 1) entries)
gathered-at make entries i e l is =
    let front = entry_commands (take i entries) in
    let rest = drop (i + 1) entries in
    at_drop_more (λ (s : List Entry). gathered make front s) entries i e l
    ∙ ap (λ (x : Entry). make front x ++ gathered make (front ++ x.command ∷ []) rest) (sym is)
    ∙ ap (λ (b : List Command). make front e ++ gathered make b rest) (sym (ap entry_commands (one_more entries i e e l is) ∙ commands_push (take i entries) e))

pub AllEntries-at : (Holds : List Command → Entry → Type 0) (before : List Command) (entries : List Entry) (i : ℕ) (d : Entry) → AllEntries Holds before entries → i < length entries → Holds (before ++ entry_commands (take i entries)) (get_or entries i d)
AllEntries-at Holds before [] i d h l = absurd (omega arith)
AllEntries-at Holds before (x ∷ entries) zero d h l = subst (λ (b : List Command). Holds b x) (sym (append-nil before)) h.0
AllEntries-at Holds before (x ∷ entries) (suc i) d h l =
    subst (λ (b : List Command). Holds b (get_or entries i d)) (commands_on before x (take i entries)) (AllEntries-at Holds (before ++ x.command ∷ []) entries i d h.1 (omega arith))
