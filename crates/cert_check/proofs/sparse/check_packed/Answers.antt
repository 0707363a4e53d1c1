use Rattle.std.proofs.Common.{◌∙◌, ◌+◌, ap, List, length, arith}
use Rattle.rational.specs.Rational.{ℚ}
use Rattle.certs.specs.declared.evidence.Point.{Point}
use Rattle.report_text.specs.Grammar.{point_phrases}
use Rattle.report_text.proofs.Lengths.{point_count}
use Rattle.cert_check.specs.Sparse.{nonzero_count}
use Rattle.cert_check.proofs.Reached.{few_nonzeros}
use Rattle.cert_check.proofs.sparse.check_packed.Goals as goal

pub overflow_add-result : goal.overflow_add-result
overflow_add-result c =
    let few = few_nonzeros c.in_ok-values.values in
    omega (arith, few, c.give_back-count.ensures.count, c.in_ok-values.ensures.spread.few)

pub returns-clause-lines : goal.returns-clause-lines
returns-clause-lines c =
    ap (λ n. 1 + n) (c.give_back-count.ensures.count ∙ ap (λ (values : List ℚ). nonzero_count values) c.in_ok-values.ensures.values)
    ∙ (point_count _ ∙ ap (λ (p : Point). length (point_phrases p)) c.packed.view_is)
