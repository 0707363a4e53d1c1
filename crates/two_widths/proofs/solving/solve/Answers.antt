use Rattle.std.proofs.Common.{refl, sym, subst, arith}
use Rattle.frac128.specs.Limit.{limit, narrow_limit}
use Rattle.dictionary.specs.Value.{DictionaryValue}
use Rattle.two_widths.specs.Ends.{LastEnds, StandsAt}
use Rattle.two_widths.proofs.Apart.{apart}
use Rattle.two_widths.proofs.Narrow.{narrow_of}
use Rattle.two_widths.proofs.Wider.{last_ends, stands_wider}
use Rattle.two_widths.proofs.solving.solve.Goals as goal

pub returns-clause-ended : goal.returns-clause-ended
returns-clause-ended c =
    let system = c.args.system.now in
    let ran = c.in-Ok.ran in
    subst (λ (d : DictionaryValue). LastEnds system c.args.pivots ran.end d.basis) (sym c.in-Ok-widened.ensures)
    (last_ends system c.args.pivots (apart system c.requires.formed) narrow_limit (omega arith) ran.end ran.dictionary.basis c.in-Ok.ensures.ended)

pub returns-clause-stands : goal.returns-clause-stands
returns-clause-stands c =
    let system = c.args.system.now in
    let ran = c.in-Ok.ran in
    subst (λ (d : DictionaryValue). StandsAt limit system d ran.end) (sym c.in-Ok-widened.ensures)
    (stands_wider narrow_limit limit (omega arith) system ran.dictionary ran.end c.in-Ok.ensures.stands)

pub returns-clause-narrow : goal.returns-clause-narrow
returns-clause-narrow c = (
  λ _. narrow_of c.args.system.now c.args.pivots c.in-Ok.ran.end c.in-Ok.ran.dictionary.basis (c.fits_narrow.ensures.0 c.if-not-fits_narrow.false) c.in-Ok.ensures.ended,
  λ _. refl,
)
