use Rattle.std.proofs.Common.{◌∙◌, sym, ap, length}
use Rattle.presolve.proofs.Quieted.{touched_count}
use Rattle.presolve.proofs.quiet.Quiet.wake.Goals as goal

pub clear-requires : goal.clear-requires
clear-requires c =
    let touched = ap length c.in_ok-touched.ensures ∙ touched_count c.args.plan.now c.args.system.now in
    ap length c.deref.ensures.value ∙ touched ∙ sym c.requires.impossible ∙ sym (ap length c.deref_mut.ensures.value)

pub clear-requires-2 : goal.clear-requires-2
clear-requires-2 c =
    let touched = ap length c.in_ok-touched.ensures ∙ touched_count c.args.plan.now c.args.system.now in
    ap length c.deref-2.ensures.value ∙ touched ∙ sym c.requires.redundant ∙ sym (ap length c.deref_mut-2.ensures.value)

pub clear-requires-3 : goal.clear-requires-3
clear-requires-3 c =
    let touched = ap length c.in_ok-touched.ensures ∙ touched_count c.args.plan.now c.args.system.now in
    ap length c.deref-3.ensures.value ∙ touched ∙ sym c.requires.forcing ∙ sym (ap length c.deref_mut-3.ensures.value)
