use Rattle.std.proofs.Common.{◌≡◌, List, Option, None, true, refl, sym, ◌∙◌, subst}
use Rattle.rational.specs.Rational.{zero_ℚ}
use Rattle.rational.specs.Linear.{Term}
use Rattle.reductions.specs.Limited.{is_narrow}
use Rattle.presolve.specs.Eliminated.{IsChanged, objective_steps}
use Rattle.presolve.proofs.Narrow.{narrow_nil}
use Rattle.presolve.proofs.Rows.{times_none}
use Rattle.presolve.proofs.eliminating.changed_objective.Goals as goal

pub returns-in-None : goal.returns-in-None
returns-in-None c =
    let e = c.args.elimination.now in
    let z : c.whole.result ≡ zero_ℚ = c.whole.ensures in
    let P : Option (List Term) → Type 0 = λ o. IsChanged e o c.whole.result None × (is_narrow (objective_steps e o) ≡ true) in
    subst P (sym c.in-None.is) (record { times_are = z ∙ sym (times_none e); terms_are = refl }, narrow_nil)
