use Rattle.std.proofs.Common.{arith, ◌∙◌}
use Rattle.mps_reader.proofs.program.put_rows.Goals as goal

pub put_row-requires-clause-terms : goal.put_row-requires-clause-terms
put_row-requires-clause-terms c = c.taken.ensures.taken ∙ c.loop-index.invariant.terms c.loop-index.index (omega arith) (omega arith)

pub loop-index-preserved : goal.loop-index-preserved
loop-index-preserved c = record {
  before = c.in_ok-put_row.ensures;
  len = c.taken.ensures.len ∙ c.loop-index.invariant.len;
  terms = λ i from h. c.taken.ensures.others i (λ e. absurd (omega (arith, e))) ∙ c.loop-index.invariant.terms i (omega arith) h;
}
