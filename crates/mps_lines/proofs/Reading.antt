-- What a line says, from its fields.
use Rattle.std.proofs.Common.{◌≡◌, ℕ, List, [], ◌∷◌, ◌++◌, map, sym, ap, ◌∙◌}
use Rattle.std.specs.Prelude.{None, Ok, Err}
use Rattle.text_fields.specs.Fields.{fields_of, field_fault, AddsFields, StopsFields}
use Rattle.text_fields.specs.Lines.{line_text, text_of}
use Rattle.text_fields.specs.Faults.{fault_of_fields}
use Rattle.text_fields.specs.declared.spans.Line.{Line}
use Rattle.text_fields.specs.declared.spans.Span.{Span}
use Rattle.text_fields.specs.declared.faults.FieldStop.{FieldStop}
use Rattle.text_fields.specs.declared.faults.FieldStop.TheVariants.{Text as FieldText, Memory as FieldMemory}
use Rattle.text_fields.specs.declared.faults.ReadKind.{ReadKind}
use Rattle.mps_lines.specs.declared.contexts.Context.{Context as ContextRead}
use Rattle.mps_lines.specs.declared.lines.Said.{Said}
use Rattle.mps_lines.specs.Records.{Record}
use Rattle.mps_lines.specs.Contexts.{Context, context_of}
use Rattle.mps_lines.specs.Steps.{Refused, steps_of, steps_unless, whole_steps}
use Rattle.mps_lines.specs.Said.{IsRefusal, LeadsLine, Says, context_shown, next_context, record_at, steps_said}
use Rattle.mps_lines.proofs.Following.{context-next}

module _ (bytes : List ℕ) (line : Line) (context : ContextRead) (front : List Record) where
  abbrev r : Record
  r = record_at bytes line context

  -- a line with a fault of its own
  pub refused-fields : (old new : List Span) (stop : FieldStop) → StopsFields bytes line old new stop → IsRefusal front r (fault_of_fields stop)
  unfolding steps_of
  refused-fields old new (FieldText fault) h = (ap (λ k. steps_unless k (whole_steps r (context_of (front ++ r ∷ [])))) h.0, h.1)
  refused-fields old new FieldMemory h = tt

  -- the fields of a line that has none
  pub fields-are : (new : List Span) → AddsFields bytes line [] new → map (text_of bytes) new ≡ fields_of (line_text bytes line)
  fields-are new h = ap (map (text_of bytes)) h.appended ∙ h.texts

  module _ (shown : context_shown context ≡ context_of front) (none : field_fault (line_text bytes line) ≡ None) where
    after : context_of (front ++ r ∷ []) ≡ next_context (context_shown context) r
    after = context-next front r (ap (λ (c : Context). c.section) shown) ∙ ap (λ c. next_context c r) (sym shown)

    whole : steps_of front r ≡ whole_steps r (context_of (front ++ r ∷ []))
    unfolding steps_of
    whole = ap (λ k. steps_unless k (whole_steps r (context_of (front ++ r ∷ [])))) none

    pub says-line : (said : Said) (next : ContextRead) → LeadsLine context r (Ok (said, next)) → Says front r (steps_said said) next
    says-line said next h = record {
      steps_are = whole ∙ ap (whole_steps r) (after ∙ sym h.0) ∙ h.1;
      context_is = h.0 ∙ sym after;
    }

    pub refused-line : (kind : ReadKind) → LeadsLine context r (Err kind) → steps_of front r ≡ Refused kind ∷ []
    refused-line kind h = whole ∙ ap (whole_steps r) after ∙ h
