-- The lines of a text, one after another.
use Rattle.std.proofs.Common.{◌≡◌, ℕ, ◌+◌, ◌-◌, ◌≤◌, max, true, false, cond, ◌||◌, List, [], ◌∷◌, ◌++◌, Option, Some, None, length, map, drop, refl, sym, ap, ◌∙◌, subst, arith, append_assoc, append-nil}
use Rattle.std.proofs.lemmas.List.{length-drop}
use Rattle.std.specs.List.{list_any, filter_map, cons_option, last_or}
use Rattle.std.specs.Option.{option_or, option_map_or}
use Rattle.std.proofs.lemmas.List.Elements.{filter_map-append}
use Rattle.std.proofs.lemmas.List.{map-append}
use Rattle.text_fields.specs.Lines.{lines_of, line_text, after, IsLineAt}
use Rattle.text_fields.specs.declared.spans.Line.{Line}
use Rattle.text_fields.specs.declared.faults.ReadKind.{ReadKind}
use Rattle.text_fields.specs.declared.faults.ReadKind.TheVariants.{Truncated}
use Rattle.text_fields.specs.declared.faults.ReadStop.{ReadStop}
use Rattle.text_fields.specs.declared.faults.ReadFault.{ReadFault}
use Rattle.text_fields.specs.declared.faults.ReadFault.TheVariants.{Stop, Memory}
use Rattle.mps_lines.specs.declared.sections.Section.{Section}
use Rattle.mps_lines.specs.declared.sections.Section.TheVariants.{Start, End}
use Rattle.mps_lines.specs.Sections.{is_section}
use Rattle.mps_lines.specs.Records.{Record, heading_of, section_after, is_last, record_after, records_after}
use Rattle.mps_lines.specs.Contexts.{Context, context_of}
use Rattle.mps_lines.specs.declared.contexts.Context.{Context as ContextRead}
use Rattle.mps_lines.specs.Said.{IsRefusal, context_shown, record_at}
use Rattle.mps_lines.specs.Steps.{Step, Placed, Refused, placed, steps_of, steps_after, all_steps, ending}
use Rattle.mps_reader.specs.declared.tables.Reader.{Reader}
use Rattle.mps_reader.specs.Faults.{fault, first_fault, mps_fault}
use Rattle.mps_reader.specs.Held.{Holds}
use Rattle.text_fields.specs.Faults.{IsFaultOf}
use Rattle.mps_reader.proofs.Firsts.{first_append, steps_placed, step_stops, no_more}

-- ---- sections
last_push : {A : Type 0} (o : Option A) (xs : List A) (x : A) → last_or o (xs ++ x ∷ []) ≡ Some x
last_push o [] x = refl
last_push o (y ∷ xs) x = last_push (Some y) xs x

-- the section after one line more
section_push : (front : List Record) (r : Record) → section_after (front ++ r ∷ []) ≡ option_map_or (λ s. s) (heading_of r.text) (section_after front)
section_push front r = ap (λ l. option_map_or (λ s. s) (last_or None l) Start) (filter_map-append (λ (r : Record). heading_of r.text) front (r ∷ [])) ∙ by (heading_of r.text)
  where
    by : (o : Option Section) → option_map_or (λ s. s) (last_or None (filter_map (λ (r : Record). heading_of r.text) front ++ cons_option o [])) Start ≡ option_map_or (λ s. s) o (section_after front)
    by None = ap (λ l. option_map_or (λ s. s) (last_or None l) Start) (append-nil (filter_map (λ (r : Record). heading_of r.text) front))
    by (Some s) = ap (λ o. option_map_or (λ s. s) o Start) (last_push None (filter_map (λ (r : Record). heading_of r.text) front) s)

-- the model ends with a line exactly where its section is the end afterwards
end_is : (front : List Record) (r : Record) → is_section End (section_after front) ≡ false → is_section End (section_after (front ++ r ∷ [])) ≡ is_last r.text
end_is front r unended = ap (is_section End) (section_push front r) ∙ by (heading_of r.text)
  where
    by : (o : Option Section) → is_section End (option_map_or (λ s. s) o (section_after front)) ≡ option_map_or (is_section End) o false
    by None = unended
    by (Some s) = refl

section_of_context : (front : List Record) → (context_of front).section ≡ section_after front
unfolding context_of
section_of_context front = refl

-- ---- what is left
-- the steps of the lines from a place on
abbrev left : List ℕ → List Record → ℕ → ℕ → List Placed
left bytes front at number = steps_after front (records_after front number (lines_of (drop at bytes))) ++ ending (lines_of bytes)

-- the lines before a place are read: their steps are kept, and have no fault
pub record Reading (bytes : List ℕ) (at number : ℕ) (reader : Reader) (context : ContextRead) : Type 0 where
  pub front : List Record
  pub steps : List Step
  pub context_is : context_shown context ≡ context_of front
  pub open_is : is_section End (section_after front) ≡ false
  pub holds : Holds reader steps
  pub within : at ≤ length bytes
  pub fault_is : mps_fault bytes ≡ first_fault steps (left bytes front at number)
  pub steps_are : map (λ (p : Placed). p.step) (all_steps bytes) ≡ steps ++ map (λ (p : Placed). p.step) (left bytes front at number)
  pub ends_are : list_any is_last (lines_of bytes) ≡ list_any is_last (lines_of (drop at bytes))
  pub counted : length (lines_of bytes) + 1 ≡ number + length (lines_of (drop at bytes))
  pub some : 1 ≤ number
  pub few : number ≤ at + 1

pub begins : (bytes : List ℕ) (reader : Reader) (context : ContextRead) → Holds reader [] → context_shown context ≡ context_of [] → Reading bytes 0 1 reader context
unfolding mps_fault all_steps
begins bytes reader context h c = record {
  front = [];
  steps = [];
  context_is = c;
  open_is = refl;
  holds = h;
  within = omega arith;
  fault_is = refl;
  steps_are = refl;
  ends_are = refl;
  counted = omega arith;
  some = omega arith;
  few = omega arith;
}

-- a line that is refused has its own fault
refused_is : (steps : List Step) (kind : ReadKind) → fault steps (Refused kind) ≡ Some kind
unfolding fault
refused_is steps kind = refl

-- and is the first fault
pub refused_first : (front : List Record) (r : Record) (steps : List Step) (found : ReadFault) → IsRefusal front r found → IsFaultOf (first_fault steps (map (placed r.number) (steps_of front r))) found
refused_first front r steps (Stop stop) h =
    ap (λ ss. first_fault steps (map (placed r.number) ss)) h.0 ∙ step_stops steps r.number (Refused stop.kind) [] stop.kind (refused_is steps stop.kind)
    ∙ ap (λ (n : ℕ). Some (let t : ReadStop = record { line = n; kind = stop.kind } in t)) (sym h.1)
refused_first front r steps Memory h = tt

-- ---- one line
module _ (bytes : List ℕ) (at number : ℕ) (reader : Reader) (context : ContextRead) (so_far : Reading bytes at number reader context) (line : Line) (here : IsLineAt bytes at number line) where
  abbrev r : Record
  r = record_at bytes line context

  abbrev more : List Record
  more = so_far.front ++ r ∷ []

  abbrev rest : List Record
  rest = cond (is_last r.text) [] (records_after more (number + 1) (lines_of (drop (after bytes line) bytes)))

  -- the record of the line
  record_is : record_after so_far.front number (line_text bytes line) ≡ r
  record_is = λ i. let q : Record = record { number = sym here.number_is i; section = (sym (section_of_context so_far.front) ∙ ap (λ (c : Context). c.section) (sym so_far.context_is)) i; text = line_text bytes line } in q

  abbrev ss : List Step
  ss = steps_of so_far.front r

  left_is : left bytes so_far.front at number ≡ map (placed line.number) ss ++ (steps_after more rest ++ ending (lines_of bytes))
  unfolding records_after steps_after
  left_is =
      ap (λ ls. steps_after so_far.front (records_after so_far.front number ls) ++ ending (lines_of bytes)) here.first
      ∙ ap (λ (q : Record). steps_after so_far.front (q ∷ cond (is_last (line_text bytes line)) [] (records_after (so_far.front ++ q ∷ []) (number + 1) (lines_of (drop (after bytes line) bytes)))) ++ ending (lines_of bytes)) record_is
      ∙ append_assoc (map (placed line.number) ss) (steps_after more rest) (ending (lines_of bytes))

  -- a line with a step that has a fault
  pub step_stop : (found : ReadFault) → IsFaultOf (first_fault so_far.steps (map (placed line.number) ss)) found → IsFaultOf (mps_fault bytes) found
  step_stop (Stop stop) h =
      so_far.fault_is ∙ ap (first_fault so_far.steps) left_is ∙ first_append so_far.steps (map (placed line.number) ss) (steps_after more rest ++ ending (lines_of bytes))
      ∙ ap (λ o. option_or o (first_fault (so_far.steps ++ map (λ (p : Placed). p.step) (map (placed line.number) ss)) (steps_after more rest ++ ending (lines_of bytes)))) h
  step_stop Memory h = tt

  module _ (none : first_fault so_far.steps (map (placed line.number) ss) ≡ None) where
    fault_after : mps_fault bytes ≡ first_fault (so_far.steps ++ ss) (steps_after more rest ++ ending (lines_of bytes))
    fault_after =
        so_far.fault_is ∙ ap (first_fault so_far.steps) left_is ∙ first_append so_far.steps (map (placed line.number) ss) (steps_after more rest ++ ending (lines_of bytes))
        ∙ ap (λ o. option_or o (first_fault (so_far.steps ++ map (λ (p : Placed). p.step) (map (placed line.number) ss)) (steps_after more rest ++ ending (lines_of bytes)))) none
        ∙ ap (λ s. first_fault (so_far.steps ++ s) (steps_after more rest ++ ending (lines_of bytes))) (steps_placed line.number ss)

    steps_then : map (λ (p : Placed). p.step) (all_steps bytes) ≡ (so_far.steps ++ ss) ++ map (λ (p : Placed). p.step) (steps_after more rest ++ ending (lines_of bytes))
    steps_then =
        so_far.steps_are ∙ ap (λ l. so_far.steps ++ l) (ap (map (λ (p : Placed). p.step)) left_is ∙ map-append (λ (p : Placed). p.step) (map (placed line.number) ss) (steps_after more rest ++ ending (lines_of bytes))
        ∙ ap (λ s. s ++ map (λ (p : Placed). p.step) (steps_after more rest ++ ending (lines_of bytes))) (steps_placed line.number ss))
        ∙ sym (append_assoc so_far.steps ss (map (λ (p : Placed). p.step) (steps_after more rest ++ ending (lines_of bytes))))

    any_here : list_any is_last (lines_of bytes) ≡ (is_last r.text || list_any is_last (lines_of (drop (after bytes line) bytes)))
    any_here = so_far.ends_are ∙ ap (list_any is_last) here.first

    module _ (new : Reader) (next : ContextRead) (holds : Holds new (so_far.steps ++ ss)) (next_is : context_shown next ≡ context_of more) where
      last_is : is_section End next.section ≡ is_last r.text
      last_is = ap (λ (c : Context). is_section End c.section) next_is ∙ ap (is_section End) (section_of_context more) ∙ end_is so_far.front r so_far.open_is

      -- the last line of a model
      pub ended : is_section End next.section ≡ true → (mps_fault bytes ≡ None) × Holds new (map (λ (p : Placed). p.step) (all_steps bytes))
      unfolding steps_after
      ended e =
          let l : is_last r.text ≡ true = sym last_is ∙ e in
          let none_left : steps_after more rest ++ ending (lines_of bytes) ≡ [] =
          (λ i. steps_after more (cond (l i) [] (records_after more (number + 1) (lines_of (drop (after bytes line) bytes)))) ++ cond ((any_here ∙ ap (λ b. b || list_any is_last (lines_of (drop (after bytes line) bytes))) l) i) [] (placed (max 1 (length (lines_of bytes))) (Refused Truncated) ∷ [])) in (
            fault_after ∙ ap (first_fault (so_far.steps ++ ss)) none_left ∙ no_more (so_far.steps ++ ss),
            subst (Holds new) (sym (steps_then ∙ ap (λ l. (so_far.steps ++ ss) ++ map (λ (p : Placed). p.step) l) none_left ∙ append-nil (so_far.steps ++ ss))) holds,
          )

      -- a line that is not the last
      pub goes_on : (at' : ℕ) → is_section End next.section ≡ false → at' ≡ after bytes line → Reading bytes at' (number + 1) new next
      goes_on at' e place =
          let l : is_last r.text ≡ false = sym last_is ∙ e in
          let here_left : steps_after more rest ++ ending (lines_of bytes) ≡ left bytes more at' (number + 1) =
          (λ i. steps_after more (cond (l i) [] (records_after more (number + 1) (lines_of (drop (sym place i) bytes)))) ++ ending (lines_of bytes)) in
          record {
            front = more;
            steps = so_far.steps ++ ss;
            context_is = next_is;
            open_is = end_is so_far.front r so_far.open_is ∙ l;
            holds = holds;
            within = omega arith;
            fault_is = fault_after ∙ ap (first_fault (so_far.steps ++ ss)) here_left;
            steps_are = steps_then ∙ ap (λ l. (so_far.steps ++ ss) ++ map (λ (p : Placed). p.step) l) here_left;
            ends_are = any_here ∙ (λ i. l i || list_any is_last (lines_of (drop (sym place i) bytes)));
            counted = so_far.counted ∙ ap (λ ls. number + length ls) here.first ∙ longer (lines_of (drop (after bytes line) bytes)) ∙ ap (λ (n : ℕ). (number + 1) + length (lines_of (drop n bytes))) (sym place);
            some = let s = so_far.some in omega arith;
            few = let f = so_far.few in let a = here.some in let b = here.in_order in let d = here.from_is in omega arith;
          }
        where
          longer : (ls : List (List ℕ)) → number + length (line_text bytes line ∷ ls) ≡ (number + 1) + length ls
          longer ls = omega arith

-- ---- the end of the text
pub cut_off : (bytes : List ℕ) (at number : ℕ) (reader : Reader) (context : ContextRead) (line : ℕ) (found : ReadFault) → Reading bytes at number reader context → at ≡ length bytes → line ≡ max 1 (number - 1)
    → found ≡ Stop (record { line = line; kind = Truncated }) → IsFaultOf (mps_fault bytes) found
unfolding records_after steps_after lines_of
cut_off bytes at number reader context line found so_far done last is =
    let nothing : lines_of (drop at bytes) ≡ [] = ap lines_of (none_left (drop at bytes) (omega (arith, length-drop at bytes))) in
    let unended : list_any is_last (lines_of bytes) ≡ false = so_far.ends_are ∙ ap (list_any is_last) nothing in
    let count : length (lines_of bytes) + 1 ≡ number + 0 = so_far.counted ∙ ap (λ ls. number + length ls) nothing in
    let left_over : left bytes so_far.front at number ≡ placed (max 1 (length (lines_of bytes))) (Refused Truncated) ∷ [] =
    (λ i. steps_after so_far.front (records_after so_far.front number (nothing i)) ++ cond (unended i) [] (placed (max 1 (length (lines_of bytes))) (Refused Truncated) ∷ [])) in
    let same : max 1 (length (lines_of bytes)) ≡ line = ap (max 1) (omega arith) ∙ sym last in
    subst (IsFaultOf (mps_fault bytes)) (sym is) (
    so_far.fault_is ∙ ap (first_fault so_far.steps) left_over ∙ step_stops so_far.steps (max 1 (length (lines_of bytes))) (Refused Truncated) [] Truncated (refused_is so_far.steps Truncated)
    ∙ ap (λ (n : ℕ). Some (let t : ReadStop = record { line = n; kind = Truncated } in t)) same)
  where
    none_left : {X : Type 0} (xs : List X) → length xs ≡ 0 → xs ≡ []
    none_left [] h = refl
    none_left (x ∷ xs) h = absurd (omega arith)
