use Rattle.std.proofs.Common.{List, ℕ, Option, subst}
use Rattle.iis_run.specs.Steps.{IsSecondPlan}
use Rattle.iis_run.proofs.Counts.{plan_later}
use Rattle.iis_run.proofs.Decided.{second_planned}
use Rattle.iis_run.proofs.running.plan_files.Goals as goal

pub returns-clause-quiet : goal.returns-clause-quiet
returns-clause-quiet g c =
    plan_later (g.S.Shelf.faults c.args.shelf.now) (g.S.Shelf.faults c.fetch_model.new.shelf) (g.S.Shelf.faults c.plan_second.new.shelf) c.plan_second.result c.in-Ok.ensures.kept c.plan_second.ensures.quiet

pub returns-clause-planned : goal.returns-clause-planned
returns-clause-planned g c =
    let file = g.S.Shelf.file c.args.shelf.now in
    let before = g.S.Shelf.faults c.args.shelf.now in
    let mid = g.S.Shelf.faults c.fetch_model.new.shelf in
    let now = g.S.Shelf.faults c.plan_second.new.shelf in
    let model = c.args.model.now in
    let second = c.args.second.now in
    let planned = subst (λ (f : Option (List ℕ)). IsSecondPlan c.args.verb c.in-Ok.program f (mid second) (now second) c.plan_second.result) (c.fetch_model.ensures.files second) c.plan_second.ensures.planned in
    second_planned file before mid now model second c.in-Ok.program c.args.verb c.plan_second.result c.in-Ok.ensures.read (c.fetch_model.ensures.counts second) planned
