-- What a line is, and how a header leads.
use Rattle.std.proofs.Common.{◌≡◌, ℕ, Bool, true, false, List, [], length, refl, sym, ap, ◌∙◌}
use Rattle.std.proofs.lemmas.List.{nil_from_length}
use Rattle.std.proofs.lemmas.Option.{none-some}
use Rattle.std.specs.Prelude.{◌==◌, ◌||◌, drop, slice_index, slice_index_or, Option, Some, None, Result, Ok, Err}
use Rattle.std.specs.Option.{option_map, option_map_or}
use Rattle.lane_scan.specs.Bytes.{is_blank}
use Rattle.text_fields.specs.Fields.{fields_of, is_comment}
use Rattle.text_fields.specs.declared.faults.ReadKind.{ReadKind}
use Rattle.mps_lines.specs.declared.lines.Said.{Said}
use Rattle.mps_lines.specs.declared.contexts.Context.{Context as ContextRead}
use Rattle.mps_lines.specs.Sections.{Section, heading_word}
use Rattle.mps_lines.specs.Records.{Record, is_passed_over, is_header}
use Rattle.mps_lines.specs.Contexts.{Context, data_context}
use Rattle.mps_lines.specs.Steps.{heading_steps, data_steps, whole_steps}
use Rattle.mps_lines.specs.Said.{LeadsHeading, Leads, LeadsLine, next_context, context_shown}

-- a line without fields, and one that begins with `*`, are passed over
pub passed-bare : (text : List ℕ) → length (fields_of text) ≡ 0 → is_passed_over text ≡ true
unfolding is_passed_over
passed-bare text e = ap (λ n. is_comment text || (n == 0)) e ∙ or-true (is_comment text)
  where
    or-true : (b : Bool) → (b || true) ≡ true
    or-true true = refl
    or-true false = refl

-- a line without bytes has no fields
pub passed-empty : (text : List ℕ) → length text ≡ 0 → is_passed_over text ≡ true
unfolding is_passed_over fields_of
passed-empty text e = ap is_passed_over (nil_from_length text e)

pub passed-comment : (text : List ℕ) → is_comment text ≡ true → is_passed_over text ≡ true
unfolding is_passed_over
passed-comment text e = ap (λ b. b || (length (fields_of text) == 0)) e

pub not-passed : (text : List ℕ) → is_comment text ≡ false → (length (fields_of text) == 0) ≡ false → is_passed_over text ≡ false
unfolding is_passed_over
not-passed text c n = ap (λ b. b || (length (fields_of text) == 0)) c ∙ n

-- ---- how a line leads
module _ (r : Record) where
  abbrev fs : List (List ℕ)
  fs = fields_of r.text

  abbrev found : Option Section
  found = heading_word (slice_index_or fs 0 [])

  header-steps : (context : Context) → is_passed_over r.text ≡ false → is_blank (slice_index r.text 0) ≡ false → whole_steps r context ≡ heading_steps r.section found (drop 1 fs)
  unfolding is_header
  header-steps context p b = rw (p, b) refl

  data-steps : (context : Context) → is_passed_over r.text ≡ false → is_blank (slice_index r.text 0) ≡ true → whole_steps r context ≡ data_steps r.section context fs
  unfolding is_header
  data-steps context p b = rw (p, b) refl

  header-next : (context : Context) → is_passed_over r.text ≡ false → is_blank (slice_index r.text 0) ≡ false → next_context context r ≡ record context { section = option_map_or (λ s. s) found context.section }
  header-next context p b = rw (p, b) refl

  data-next : (context : Context) → is_passed_over r.text ≡ false → is_blank (slice_index r.text 0) ≡ true → next_context context r ≡ data_context context.section context fs
  data-next context p b = rw (p, b) refl

  -- a header
  pub leads-header : (context : ContextRead) (result : Result (Said × ContextRead) ReadKind) → is_passed_over r.text ≡ false → is_blank (slice_index r.text 0) ≡ false → r.section ≡ context.section
      → LeadsHeading context fs result → LeadsLine context r result
  leads-header context (Ok found) p b s h =
      (context-of found.1 (sym (h.0)), header-steps (context_shown found.1) p b ∙ ap (λ t. heading_steps t (heading_word (slice_index_or fs 0 [])) (drop 1 fs)) s ∙ h.1)
    where
      some-of : (o : Option Section) (c : Context) → Some c ≡ option_map (λ t. record (context_shown context) { section = t }) o → c ≡ record (context_shown context) { section = option_map_or (λ t. t) o context.section }
      some-of None c e = absurd (none-some c (sym e))
      some-of (Some t) c e = ap (λ o. option_map_or (λ x. x) o c) e

      context-of : (next : ContextRead) → option_map (λ t. record (context_shown context) { section = t }) (heading_word (slice_index_or fs 0 [])) ≡ Some (context_shown next) → context_shown next ≡ next_context (context_shown context) r
      context-of next e = some-of (heading_word (slice_index_or fs 0 [])) (context_shown next) (sym e) ∙ sym (header-next (context_shown context) p b)
  leads-header context (Err kind) p b s h = header-steps (next_context (context_shown context) r) p b ∙ ap (λ t. heading_steps t (heading_word (slice_index_or fs 0 [])) (drop 1 fs)) s ∙ h

  -- a data line
  pub leads-data : (context : ContextRead) (result : Result (Said × ContextRead) ReadKind) → is_passed_over r.text ≡ false → is_blank (slice_index r.text 0) ≡ true → r.section ≡ context.section
      → Leads context fs result → LeadsLine context r result
  leads-data context (Ok found) p b s h =
      (h.0 ∙ sym (data-next (context_shown context) p b), data-steps (context_shown found.1) p b ∙ ap (λ t. data_steps t (context_shown found.1) fs) s ∙ h.1)
  leads-data context (Err kind) p b s h =
      data-steps (next_context (context_shown context) r) p b
      ∙ ap (λ t. data_steps t (next_context (context_shown context) r) fs) s
      ∙ ap (λ t. data_steps context.section t fs) (data-next (context_shown context) p b)
      ∙ h
