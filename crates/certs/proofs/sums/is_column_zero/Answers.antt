use Rattle.std.proofs.Common.{◌<◌, ap, sym, ◌∙◌, [], length}
use Rattle.std.proofs.lemmas.List.Elements.{All-head}
use Rattle.std.proofs.lemmas.List.{get_or_default}
use Rattle.rational.specs.Rational.{ℚ, one_ℚ, zero_ℚ, eq_ℚ}
use Rattle.rational.specs.Linear.{Term}
use Rattle.std.proofs.Math.Bool.{and-true}
use Rattle.certs.proofs.sums.is_column_zero.Goals as goal

pub bounds-sums-column : goal.bounds-sums-column
bounds-sums-column c = All-head (λ (t : Term). t.column < length c.args.sums.now) (record { column = c.args.column; factor = one_ℚ }) [] c.requires

pub returns : goal.returns
returns c =
    let known : c.args.column < length c.args.sums.now = All-head (λ (t : Term). t.column < length c.args.sums.now) (record { column = c.args.column; factor = one_ℚ }) [] c.requires in
    c.eq.ensures
    ∙ (ap (λ (z : ℚ). eq_ℚ c.index-sums-column.result z) c.whole.ensures
    ∙ (ap (λ (q : ℚ). eq_ℚ q zero_ℚ) (c.index-sums-column.is ∙ get_or_default c.args.sums.now c.args.column c.index-sums-column.result zero_ℚ known) ∙ sym (and-true _)))
