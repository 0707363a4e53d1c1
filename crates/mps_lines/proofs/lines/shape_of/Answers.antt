use Rattle.std.proofs.Common.{length, sym, ◌∙◌}
use Rattle.std.proofs.lemmas.Bool.{eq-eqb, ne_eqb, eqb-true}
use Rattle.std.specs.Prelude.{slice_index}
use Rattle.text_fields.specs.Fields.{fields_of}
use Rattle.mps_lines.proofs.Shaped.{passed-bare, passed-empty, passed-comment, not-passed}
use Rattle.mps_lines.proofs.lines.shape_of.Goals.{then-count-eq0-via-then-count-eq0, then-count-eq0-via-else-count-eq0+then-is_empty}
use Rattle.mps_lines.proofs.lines.shape_of.Goals as goal

pub returns-then-count-eq0 : goal.returns-then-count-eq0
returns-then-count-eq0 c = elim c.then-count-eq0.branch [
  | then-count-eq0-via-then-count-eq0 w ↦ passed-bare c.args.text.now (sym c.requires ∙ w.if-count-eq0.true)
  | then-count-eq0-via-else-count-eq0+then-is_empty w ↦ passed-empty c.args.text.now (eqb-true (length c.args.text.now) 0 (sym w.is_empty.ensures ∙ w.if-is_empty.true))
]

pub returns-then-text-eq42 : goal.returns-then-text-eq42
returns-then-text-eq42 c = passed-comment c.args.text.now (eq-eqb (slice_index c.args.text.now 0) 42 c.if-text-eq42.true)

pub returns-then-is_blank_byte : goal.returns-then-is_blank_byte
returns-then-is_blank_byte c =
    (not-passed c.args.text.now (ne_eqb (slice_index c.args.text.now 0) 42 c.if-text-eq42.false) (ne_eqb (length (fields_of c.args.text.now)) 0 (λ e. c.if-count-eq0.false (c.requires ∙ e))), sym c.is_blank_byte.ensures ∙ c.if-is_blank_byte.true)

pub returns : goal.returns
returns c =
    (not-passed c.args.text.now (ne_eqb (slice_index c.args.text.now 0) 42 c.if-text-eq42.false) (ne_eqb (length (fields_of c.args.text.now)) 0 (λ e. c.if-count-eq0.false (c.requires ∙ e))), sym c.is_blank_byte.ensures ∙ c.if-is_blank_byte.false)
