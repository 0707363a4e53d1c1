use Rattle.std.proofs.Common.{true, refl, subst}
use Rattle.std.proofs.lemmas.Result.{err_from_is_err_and}
use Rattle.rational.specs.Rational.{ℚ}
use Rattle.lp_reader.specs.declared.bounds.Said.TheVariants.{At}
use Rattle.lp_reader.specs.Said.{SetsBounds}
use Rattle.lp_statements.specs.Statements.{shown_text}
use Rattle.lp_reader.proofs.Taking.{listed_fails, binary_taken}
use Rattle.lp_reader.proofs.reader.take_binary.Goals as goal

pub returns-in_err-column : goal.returns-in_err-column
returns-in_err-column c = λ front holds.
    let p = err_from_is_err_and c.from_residual.result c.from_residual.ensures.1 in
    rw (p.1, p.2) (listed_fails c.args.reader.now front holds true (shown_text c.args.name) c.in_err-column.field-0.0 c.in_err-column.ensures)

pub returns : goal.returns
returns c = λ front holds. binary_taken c.args.reader.now front holds _ (shown_text c.args.name) c.in_ok-column.column c.in_ok-column.ensures.1 (subst (λ (b : ℚ × ℚ). SetsBounds c.args.reader.now.columns c.set_bounds.new.columns c.in_ok-column.column (At b.0) (At b.1) true) (λ i. (c.whole.ensures i, c.whole-2.ensures i)) c.set_bounds.ensures) c.in_ok-column.ensures.0 refl refl refl refl
