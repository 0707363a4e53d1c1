use Rattle.std.proofs.Common.{ℕ, ◌-◌, List, sym, ap, ◌∙◌, arith}
use Rattle.std.specs.Prelude.{bytes_eq, decimal}
use Rattle.iis_run.specs.Words.{periods_in}
use Rattle.iis_run.proofs.Numbers.{none_in, first_in}
use Rattle.iis_run.proofs.words.periods_of.Goals as goal

pub returns-then-eq-clause-is : goal.returns-then-eq-clause-is
unfolding periods_in
returns-then-eq-clause-is c =
    sym (first_in (λ n. bytes_eq (decimal n) c.args.word.now) 2 59 (c.loop-periods.periods - 2) c.loop-periods.periods (omega arith) (omega arith) c.loop-periods.invariant
    (ap (λ (t : List ℕ). bytes_eq t c.args.word.now) (sym c.format.ensures.text) ∙ (sym c.eq.ensures ∙ c.if-eq.true)))

pub returns-clause-is : goal.returns-clause-is
unfolding periods_in
returns-clause-is c = sym (none_in (λ n. bytes_eq (decimal n) c.args.word.now) 2 59 (λ k h l. c.loop-periods.invariant k h (omega arith)))
