use Rattle.std.proofs.Common.{◌≡◌, ◌≤◌, ◌<◌, ◌+◌, refl, sym, ◌∙◌, ap, subst, suc, get_or, length, arith}
use Rattle.std.proofs.lemmas.List.Elements.{All-contains}
use Rattle.lp_model.specs.MemberSets.{SetValue, IsMemberFor}
use Rattle.lp_model.specs.Shown.{most_members}
use Rattle.certs.specs.declared.solving.Stretched.TheVariants.{Stretched as Further, Cut as Refuted}
use Rattle.certs.specs.Checks.{IsSetOf}
use Rattle.certs.specs.Tales.{one_more}
use Rattle.certs.proofs.Possible.{members_for_model}
use Rattle.elastic_filter.specs.Enforced.{IsEnforced}
use Rattle.elastic_filter.proofs.Chains.{HasReached, enforced_by, few_members, grown_longer, inside_set, is_part, no_longer, reached_at_first, reached_further, told_more, within_set}
use Rattle.elastic_filter.proofs.enforcing.enforce.Goals as goal

pub loop-stop-init : goal.loop-stop-init
loop-stop-init g c =
    let model = g.S.Stretcher.model c.args.stretcher.now in
    let set = c.args.set.now in
    let empty = c.in-Ok.ensures in
    record {
      same = subst (IsSetOf model) (sym empty) (record { rows = c.requires.same.rows; columns = c.requires.same.columns });
      reached = subst (HasReached model set.members 1) (sym (ap (λ (s : SetValue). s.members) empty)) (reached_at_first model set.members);
      rounds = omega arith;
      stops = refl;
      model = refl;
      budgets = refl;
    }

pub stretch-requires-clause-part : goal.stretch-requires-clause-part
stretch-requires-clause-part g c = is_part (g.S.Stretcher.model c.args.stretcher.now) c.args.set.now.members c.loop-stop.rounds c.loop-stop.enforced.members c.loop-stop.invariant.reached

pub returns-in-Ok-Cut-clause-found : goal.returns-in-Ok-Cut-clause-found
returns-in-Ok-Cut-clause-found g c =
    let of = g.S.Stretcher in
    let model = of.model c.args.stretcher.now in
    let budgets = of.budgets c.args.stretcher.now in
    let set = c.args.set.now.members in
    let enforced = c.loop-stop.enforced in
    let before = c.loop-stop.invariant in
    let combo = c.in-Ok-Cut.combo in
    subst (IsEnforced model set) (sym c.refuted.ensures)
    (enforced_by model set enforced combo c.loop-stop.rounds c.combination_refutes.ensures c.rounds_are_few.ensures c.requires.linear before.same before.reached
    (g.met.S.Stretcher.holds model budgets set enforced.members (Refuted combo) (rw (← before.model, ← before.budgets, ← c.in-Ok-Cut.field-0-is) c.in-Ok-Cut.ensures.answered)))

pub include-requires : goal.include-requires
include-requires g c =
    let of = g.S.Stretcher in
    let model = of.model c.args.stretcher.now in
    let budgets = of.budgets c.args.stretcher.now in
    let set = c.args.set.now in
    let enforced = c.loop-stop.enforced in
    let before = c.loop-stop.invariant in
    let further = c.in-Ok-Stretched.further.members in
    let f = g.met.S.Stretcher.holds model budgets set.members enforced.members (Further c.in-Ok-Stretched.further) (rw (← before.model, ← before.budgets, ← c.in-Ok-Stretched.field-0-is) c.in-Ok-Stretched.ensures.answered) in
    let known = members_for_model model set c.requires.same c.stands_in_order.ensures.possible in
    let inside = inside_set model set.members enforced.members further f in
    λ k d l. rw (before.same.rows, before.same.columns) (All-contains (IsMemberFor (length model.rows) (length model.columns)) set.members (get_or further k d) known (inside k d l))

pub overflow_add-rounds : goal.overflow_add-rounds
overflow_add-rounds g c =
    let few : length c.loop-stop.enforced.members ≤ most_members = subst (λ (s : SetValue). length s.members ≤ most_members) c.enforced.view_is (few_members c.enforced.inside.rows c.enforced.inside.columns c.enforced.inside.words.items c.enforced.invariant) in
    let rounds : c.loop-stop.rounds ≤ suc (length c.loop-stop.enforced.members) = c.loop-stop.invariant.reached.few in
    omega arith

pub loop-stop-smaller : goal.loop-stop-smaller
loop-stop-smaller g c =
    let model = g.S.Stretcher.model c.args.stretcher.now in
    let budgets = g.S.Stretcher.budgets c.args.stretcher.now in
    let set = c.args.set.now in
    let enforced = c.loop-stop.enforced in
    let before = c.loop-stop.invariant in
    let further = c.in-Ok-Stretched.further in
    let f = g.met.S.Stretcher.holds model budgets set.members enforced.members (Further further) (rw (← before.model, ← before.budgets, ← c.in-Ok-Stretched.field-0-is) c.in-Ok-Stretched.ensures.answered) in
    let within = within_set model set enforced further before.same c.requires.same before.reached f c.stands_in_order.ensures.possible in
    let now = c.include.ensures.members set.members within in
    let after = reached_further model set.members c.loop-stop.rounds enforced.members further.members before.reached f c.include.new.enforced.members now in
    let short : length c.include.new.enforced.members ≤ length c.args.set.now.members = no_longer model set.members (suc c.loop-stop.rounds) c.include.new.enforced.members after in
    let more : length enforced.members < length c.include.new.enforced.members = grown_longer model set.members c.loop-stop.rounds enforced.members further.members before.reached f c.include.new.enforced.members now in
    omega arith

pub loop-stop-preserved : goal.loop-stop-preserved
loop-stop-preserved g c =
    let of = g.S.Stretcher in
    let model = g.S.Stretcher.model c.args.stretcher.now in
    let budgets = g.S.Stretcher.budgets c.args.stretcher.now in
    let set = c.args.set.now in
    let enforced = c.loop-stop.enforced in
    let before = c.loop-stop.invariant in
    let further = c.in-Ok-Stretched.further in
    let f = g.met.S.Stretcher.holds model budgets set.members enforced.members (Further further) (rw (← before.model, ← before.budgets, ← c.in-Ok-Stretched.field-0-is) c.in-Ok-Stretched.ensures.answered) in
    let within = within_set model set enforced further before.same c.requires.same before.reached f c.stands_in_order.ensures.possible in
    let now = c.include.ensures.members set.members within in
    let e = c.in-Ok-Stretched.ensures in
    record {
      same = record { rows = c.include.ensures.same.rows ∙ before.same.rows; columns = c.include.ensures.same.columns ∙ before.same.columns };
      reached = subst (λ n. HasReached model set.members n c.include.new.enforced.members) (omega arith) (reached_further model set.members c.loop-stop.rounds enforced.members further.members before.reached f c.include.new.enforced.members now);
      rounds = let told : of.rounds c.loop-stop.stretcher + 1 ≤ of.rounds c.args.stretcher.now + c.loop-stop.rounds = before.rounds in
          let more : of.rounds c.stretch.new.self ≡ one_more (of.rounds c.loop-stop.stretcher) = e.rounds in
          let most : one_more (of.rounds c.loop-stop.stretcher) ≤ of.rounds c.loop-stop.stretcher + 1 = told_more (of.rounds c.loop-stop.stretcher) in
          omega arith;
      stops = e.stops ∙ before.stops;
      model = e.model ∙ before.model;
      budgets = e.budgets ∙ before.budgets;
    }
