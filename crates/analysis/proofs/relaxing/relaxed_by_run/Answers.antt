use Rattle.std.proofs.Common.{◌≡◌, false, sym, subst}
use Rattle.std.specs.Prelude.{All}
use Rattle.lp_model.specs.Members.{active_members, is_mark}
use Rattle.lp_model.specs.MemberSets.{SetValue}
use Rattle.relaxation.specs.Relaxed.{IsRelaxStop, IsRelaxed}
use Rattle.analysis.specs.Answers.{budgets_of}
use Rattle.analysis.proofs.Easing.{stops_eased}
use Rattle.analysis.proofs.Marks.{no_mark}
use Rattle.analysis.proofs.relaxing.relaxed_by_run.Goals as goal

pub relax-requires-clause-linear : goal.relax-requires-clause-linear
relax-requires-clause-linear c = subst (λ (s : SetValue). All (λ m. is_mark m ≡ false) s.members) (sym c.requires.whole) (no_mark (active_members c.args.model.now) c.requires.linear)

pub told-requires-clause-found : goal.told-requires-clause-found
told-requires-clause-found c = subst (λ (s : SetValue). IsRelaxed c.args.model.now s.members c.in-Ok.found) c.requires.whole c.in-Ok.ensures.found

pub returns-in-Ok : goal.returns-in-Ok
returns-in-Ok c = c.told.ensures (budgets_of c.args.budgets)

pub returns-in-Err : goal.returns-in-Err
returns-in-Err c =
    let model = c.args.model.now in
    let budgets = budgets_of c.args.budgets in
    let stop = c.in-Err.stop in
    stops_eased model budgets stop c.stopped.result
    (subst (λ (s : SetValue). IsRelaxStop model s.members budgets.pivots stop) c.requires.whole c.in-Err.ensures.stop)
    c.stopped.ensures
