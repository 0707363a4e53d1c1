use Rattle.std.proofs.Common.{ℕ, List, map, sym, subst, arith}
use Rattle.std.proofs.lemmas.Result.{err_from_is_err_and}
use Rattle.rational.specs.Rational.{ℚ}
use Rattle.name_map.specs.Names.{names_of}
use Rattle.lp_statements.specs.Statements.{shown_term}
use Rattle.lp_reader.proofs.Terms.{TermsSoFar, no_terms, terms_more, terms_fail, terms_done, below_small}
use Rattle.lp_reader.proofs.columns.sum_terms.Goals as goal

pub loop-term-init : goal.loop-term-init
loop-term-init c =
    subst (λ (es : List (ℕ × ℚ)). TermsSoFar c.args.columns.now c.args.columns.now (map shown_term c.args.terms.now) 0 es) (sym c.requires.empty) (no_terms c.args.columns.now (map shown_term c.args.terms.now) c.requires.few)

pub returns-in_err-take_term : goal.returns-in_err-take_term
returns-in_err-take_term c =
    let p = err_from_is_err_and c.from_residual.result c.from_residual.ensures.1 in
    rw (p.1, p.2) (terms_fail c.args.columns.now c.loop-term.columns c.args.terms.now c.loop-term.term-index _ c.loop-term.sums.entries c.loop-term.invariant (omega arith) c.in_err-take_term.field-0.0 (c.in_err-take_term.ensures _ c.loop-term.invariant.sums))

pub loop-term-preserved : goal.loop-term-preserved
loop-term-preserved c = terms_more c.args.columns.now c.loop-term.columns c.args.terms.now c.loop-term.term-index _ c.loop-term.sums.entries c.loop-term.invariant (omega arith) c.take_term.new.columns c.take_term.new.sums.entries (c.in_ok-take_term.ensures _ c.loop-term.invariant.sums)

pub make_terms-requires : goal.make_terms-requires
make_terms-requires c = below_small (names_of c.loop-term.columns.names) c.loop-term.sums.entries c.loop-term.invariant.few c.loop-term.invariant.sums.below

pub returns : goal.returns
returns c = terms_done c.args.columns.now c.loop-term.columns c.args.terms.now c.loop-term.term-index c.loop-term.sums.entries c.in_ok-make_terms.field-0 c.loop-term.invariant (omega arith) c.in_ok-make_terms.ensures
