-- The entries that were put so far.
use Rattle.std.proofs.Common.{◌≡◌, ◌≤◌, ◌<◌, ◌+◌, ◌^◌, refl, sym, ◌∙◌, ap, subst, ℕ, Bool, ◌||◌, List, [], ◌∷◌, ◌++◌, length, get_or, take, drop, Option, Ok, Err, arith}
use Rattle.std.specs.List.{list_any}
use Rattle.std.proofs.lemmas.List.{take_more, take_all, take-append-drop, length-map}
use Rattle.lp_model.specs.Program.{Program}
use Rattle.report_text.specs.declared.report.Command.{Command}
use Rattle.report_text.specs.declared.report.Command.TheVariants.{Pivots}
use Rattle.report_text.specs.declared.report.Answer.{Answer}
use Rattle.report_text.specs.declared.report.Entry.{Entry}
use Rattle.report_text.specs.Turns.{entry_commands, AllEntries}
use Rattle.report_text.specs.Grammar.{entries_phrases}
use Rattle.report_text.specs.Form.{AreNumbered, IsCommand}
use Rattle.report_text.proofs.InTurn.{commands_push, AllEntries-push, numbered-push}
use Rattle.analysis.specs.declared.pieces.Want.{Want}
use Rattle.analysis.specs.declared.pieces.Want.TheVariants.{Memory, Fault}
use Rattle.analysis.specs.Puts.{PutWhole, PutFailed, PutsNothing}
use Rattle.analysis.specs.Right.{IsGiven, AreRight, IsRightAfter, Settings, settings_after, settings_in_force}
use Rattle.analysis.specs.Written.{entries_text, is_unmet}
use Rattle.analysis.specs.Pieces.{EntryPut, EntriesPut, entry_text}
use Rattle.analysis.proofs.Putting.{put_two, put_then_none, failed_after}
use Rattle.analysis.proofs.Entries.{settings_more, text_more, unmet_more}

-- the first commands with the next one
pub next_front : (commands : List Command) (n : ℕ) (c d : Command) → n < length commands → c ≡ get_or commands n d → take (n + 1) commands ≡ take n commands ++ c ∷ []
next_front commands n c d l is = take_more commands n d l ∙ ap (λ (x : Command). take n commands ++ x ∷ []) (sym is)

-- the budget of pivots stays small
pub few_after : (b : Settings) (c : Command) → IsCommand c → b.budgets.pivots < 2 ^ 63 → (settings_after b c).budgets.pivots < 2 ^ 63
few_after b (Pivots n) built few = omega (arith, built)
few_after b _ built few = few

-- right answers to the first n commands were put, and the settings and whether some command was not done are told
pub record HasPut {K : Type 0} (faults : K → ℕ) (taken : K → Option (List ℕ)) (old now : K) (model : Program) (commands : List Command) (n : ℕ) (settings : Settings) (stopped : Bool) : Type 0 where
  pub entries : List Entry
  pub first : entry_commands entries ≡ take n commands
  pub each : AllEntries (IsRightAfter model) [] entries
  pub numbered : AreNumbered model [] (2 + length model.notes) entries
  pub settings_are : settings ≡ settings_in_force (take n commands)
  pub stopped_is : stopped ≡ list_any (λ (e : Entry). is_unmet e.answer) entries
  pub put : PutWhole faults taken old now (entries_text model entries)

module _ {K : Type 0} (faults : K → ℕ) (taken : K → Option (List ℕ)) (old now new : K) (model : Program) (commands : List Command) where
  -- the entry of the next command
  abbrev next_entry : List Entry → Command → Answer → Entry
  next_entry entries c a = record { command = c; answer = a; line = 2 + length model.notes + length (entries_phrases model [] entries) }

  module _ (n : ℕ) (c d : Command) (b : Settings) (s : Bool) (within : n < length commands) (is : c ≡ get_or commands n d) (h : HasPut faults taken old now model commands n b s) (a : Answer) where
    -- the answers with the next one
    more_first : entry_commands (h.entries ++ next_entry h.entries c a ∷ []) ≡ take (n + 1) commands
    more_first = commands_push h.entries (next_entry h.entries c a) ∙ ap (λ (l : List Command). l ++ c ∷ []) h.first ∙ sym (next_front commands n c d within is)

    more_each : IsGiven model (take n commands) c a → AllEntries (IsRightAfter model) [] (h.entries ++ next_entry h.entries c a ∷ [])
    more_each r = AllEntries-push (IsRightAfter model) [] h.entries (next_entry h.entries c a) h.each (subst (λ (x : List Command). IsGiven model x c a) (sym h.first) r)

    -- and their text
    more_text : entries_text model (h.entries ++ next_entry h.entries c a ∷ []) ≡ entries_text model h.entries ++ entry_text model (take n commands) c a
    more_text = text_more model h.entries (next_entry h.entries c a) ∙ ap (λ (x : List Command). entries_text model h.entries ++ entry_text model x c a) h.first

  -- answers to the first commands are right ones to the commands
  front_right : (n : ℕ) (entries : List Entry) → entry_commands entries ≡ take n commands → AllEntries (IsRightAfter model) [] entries → AreRight model commands entries
  front_right n entries f h = record { rest = drop n commands; first = sym (take-append-drop n commands) ∙ ap (λ (l : List Command). l ++ drop n commands) (sym f); each = h }

  -- one entry more was put
  pub has_more : (n : ℕ) (c d : Command) (b next : Settings) (s t : Bool) → n < length commands → c ≡ get_or commands n d → HasPut faults taken old now model commands n b s
      → EntryPut faults taken now new model (take n commands) c (Ok t) → next ≡ settings_after b c → HasPut faults taken old new model commands (n + 1) next (s || t)
  has_more n c d b next s t l is h (a, (r, (stop, put))) behind =
      let e = next_entry h.entries c a in
      record {
        entries = h.entries ++ e ∷ [];
        first = more_first n c d b s l is h a;
        each = more_each n c d b s l is h a r;
        numbered = numbered-push model [] (2 + length model.notes) h.entries e h.numbered refl;
        settings_are = behind ∙ (ap (λ (x : Settings). settings_after x c) h.settings_are ∙ sym (ap settings_in_force (next_front commands n c d l is) ∙ settings_more (take n commands) c));
        stopped_is = ap (λ x. x || t) h.stopped_is ∙ (ap (λ y. list_any (λ (x : Entry). is_unmet x.answer) h.entries || y) stop ∙ sym (unmet_more h.entries e));
        put = subst (PutWhole faults taken old new) (sym (more_text n c d b s l is h a)) (put_two faults taken old now new (entries_text model h.entries) (entry_text model (take n commands) c a) h.put put);
      }

  -- a put of it failed
  pub has_failed : (n : ℕ) (c d : Command) (b : Settings) (s : Bool) → n < length commands → c ≡ get_or commands n d → HasPut faults taken old now model commands n b s
      → EntryPut faults taken now new model (take n commands) c (Err Fault) → EntriesPut faults taken old new model commands (Err Fault)
  has_failed n c d b s l is h (a, (r, put)) =
      let e = next_entry h.entries c a in (
        record {
          entries = h.entries ++ e ∷ [];
          right = front_right (n + 1) (h.entries ++ e ∷ []) (more_first n c d b s l is h a) (more_each n c d b s l is h a r);
          numbered = numbered-push model [] (2 + length model.notes) h.entries e h.numbered refl;
        },
        subst (PutFailed faults taken old new) (sym (more_text n c d b s l is h a)) (failed_after faults taken old now new (entries_text model h.entries) (entry_text model (take n commands) c a) h.put put),
      )

  -- there was no memory for it
  pub has_wanted : (n : ℕ) (b : Settings) (s : Bool) → HasPut faults taken old now model commands n b s → PutsNothing faults taken now new → EntriesPut faults taken old new model commands (Err Memory)
  has_wanted n b s h none = (
    record { entries = h.entries; right = front_right n h.entries h.first h.each; numbered = h.numbered },
    put_then_none faults taken old now new (entries_text model h.entries) h.put none,
  )

  -- why it was not put
  pub has_stopped : (n : ℕ) (c d : Command) (b : Settings) (s : Bool) (w : Want) → n < length commands → c ≡ get_or commands n d → HasPut faults taken old now model commands n b s
      → EntryPut faults taken now new model (take n commands) c (Err w) → EntriesPut faults taken old new model commands (Err w)
  has_stopped n c d b s Fault l is h p = has_failed n c d b s l is h p
  has_stopped n c d b s Memory l is h p = has_wanted n b s h p

  -- all were put
  pub has_all : (n : ℕ) (b : Settings) (s : Bool) → length commands ≤ n → HasPut faults taken old now model commands n b s → EntriesPut faults taken old now model commands (Ok s)
  has_all n b s l h = (
    record {
      answers = record { entries = h.entries; right = front_right n h.entries h.first h.each; numbered = h.numbered };
      all = sym (length-map h.entries (λ (e : Entry). e.command)) ∙ ap length (h.first ∙ take_all n commands l);
      stopped_is = h.stopped_is;
    },
    h.put,
  )
