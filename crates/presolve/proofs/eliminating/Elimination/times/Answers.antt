use Rattle.std.proofs.Common.{◌≡◌, true, refl, subst, sym}
use Rattle.reductions.specs.Limited.{is_narrow}
use Rattle.presolve.specs.declared.eliminating.Elimination.{Elimination}
use Rattle.presolve.specs.Eliminated.{times_by, times_steps}
use Rattle.presolve.proofs.Narrow.{narrow_nil}
use Rattle.presolve.proofs.eliminating.Elimination.times.Goals as goal

pub returns-in-Value : goal.returns-in-Value
returns-in-Value c =
    let P : Elimination → Type 0 = λ e. (c.args.factor ≡ times_by e c.args.factor) × (is_narrow (times_steps e c.args.factor) ≡ true) in
    subst P (sym c.in-Value.is) (refl, narrow_nil)
