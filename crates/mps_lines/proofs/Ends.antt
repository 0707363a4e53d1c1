-- Where a model ends.
use Rattle.std.proofs.Common.{◌≡◌, false, List, [], ◌∷◌, ◌++◌, refl, ap, ◌∙◌}
use Rattle.std.specs.Prelude.{Option, Some, None}
use Rattle.std.specs.Option.{option_map_or}
use Rattle.mps_lines.specs.declared.sections.Section.{Section}
use Rattle.mps_lines.specs.declared.sections.Section.TheVariants.{Start, Name, Sense, Rows, Columns, Sides, Ranges, Bounds, End}
use Rattle.mps_lines.specs.Sections.{is_section}
use Rattle.mps_lines.specs.Records.{Record, heading_of, is_last, section_after}
use Rattle.mps_lines.specs.Contexts.{Context, context_of}
use Rattle.mps_lines.proofs.Following.{with-line}

-- the section after one line more
pub section-next : (front : List Record) (r : Record) → section_after (front ++ r ∷ []) ≡ option_map_or (λ s. s) (heading_of r.text) (section_after front)
unfolding context_of
section-next front r = ap (λ (c : Context). c.section) (with-line front r)

not-end : (s : Section) → (s ≡ End → ⊥) → is_section End s ≡ false
not-end Start n = refl
not-end Name n = refl
not-end Sense n = refl
not-end Rows n = refl
not-end Columns n = refl
not-end Sides n = refl
not-end Ranges n = refl
not-end Bounds n = refl
not-end End n = absurd (n refl)

-- a model that has not ended ends with a line exactly where its section is then the end
pub last-is : (front : List Record) (r : Record) → (section_after front ≡ End → ⊥) → is_section End (section_after (front ++ r ∷ [])) ≡ is_last r.text
last-is front r n = ap (is_section End) (section-next front r) ∙ by (heading_of r.text)
  where
    by : (o : Option Section) → is_section End (option_map_or (λ s. s) o (section_after front)) ≡ option_map_or (is_section End) o false
    by None = not-end (section_after front) n
    by (Some s) = refl
