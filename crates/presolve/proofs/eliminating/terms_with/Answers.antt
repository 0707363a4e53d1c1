use Rattle.std.proofs.Common.{◌≡◌, true, sym, ◌∙◌, ap, subst}
use Rattle.reductions.specs.Limited.{is_narrow}
use Rattle.reductions.specs.Reduction.{without_column}
use Rattle.presolve.specs.declared.eliminating.Elimination.{Elimination}
use Rattle.presolve.specs.Eliminated.{gone_column, terms_with, terms_steps}
use Rattle.presolve.proofs.Narrow.{narrow_nil}
use Rattle.presolve.proofs.eliminating.terms_with.Goals as goal

pub returns-in-Value : goal.returns-in-Value
returns-in-Value c =
    let terms = c.args.terms.now in
    let P : Elimination → Type 0 = λ e. c.new.result ≡ without_column (gone_column e) terms → (c.new.result ≡ terms_with e c.args.times terms) × (is_narrow (terms_steps e c.args.times terms) ≡ true) in
    subst P (sym c.in-Value.is) (λ h. (h, narrow_nil))
    (c.new.ensures ∙ c.in_ok-others.ensures ∙ ap (λ j. without_column j terms) c.column.ensures)
