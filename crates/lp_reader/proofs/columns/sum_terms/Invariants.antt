use Rattle.std.proofs.Common.{map}
use Rattle.lp_statements.specs.Statements.{shown_term}
use Rattle.lp_reader.proofs.Terms.{TermsSoFar}
use Rattle.lp_reader.proofs.columns.sum_terms.Given as goal

abbrev pub invariant-loop-term : goal.invariant-loop-term
invariant-loop-term l = TermsSoFar l.fn.columns l.columns (map shown_term l.terms) l.term-index l.sums.entries
