use Rattle.std.proofs.Common.{List, [], ◌∷◌, ◌++◌, ◌∙◌, sym, ap, subst}
use Rattle.lp_model.specs.Members.{Member}
use Rattle.lp_model.specs.MemberSets.{SetValue, IsPossibleIn, set_with}
use Rattle.lp_model.proofs.Filled.{filled_none, filled_with, filled_without, filled_all, next_possible, passed_on}
use Rattle.lp_model.proofs.models.Model.members.Goals as goal

pub loop-member-init : goal.loop-member-init
loop-member-init c = (
  [],
  sym (c.into_iter-member-iterator.ensures.into_iter_gives ∙ c.possible_members-member-items.ensures),
  c.in_ok-set.ensures ∙ filled_none c.args.self.now,
)

pub is_active-requires : goal.is_active-requires
is_active-requires c =
    let i = c.loop-member.invariant in
    next_possible c.args.self.now i.0 c.in-Some.member c.next.new.self c.loop-member.member-iterator i.1 c.in-Some.ensures.steps

pub insert-requires : goal.insert-requires
insert-requires c =
    let i = c.loop-member.invariant in
    subst (λ (s : SetValue). IsPossibleIn s c.in-Some.member) (sym i.2)
    (next_possible c.args.self.now i.0 c.in-Some.member c.next.new.self c.loop-member.member-iterator i.1 c.in-Some.ensures.steps)

pub loop-member-preserved-then-is_active : goal.loop-member-preserved-then-is_active
loop-member-preserved-then-is_active c =
    let model = c.args.self.now in
    let i = c.loop-member.invariant in
    let m = c.in-Some.member in (
      i.0 ++ m ∷ [],
      passed_on model i.0 m c.next.new.self c.loop-member.member-iterator i.1 c.in-Some.ensures.steps,
      c.insert.ensures ∙ (ap (λ (s : SetValue). set_with s m) i.2 ∙ filled_with model i.0 m (sym c.if-is_active.ensures)),
    )

pub loop-member-preserved : goal.loop-member-preserved
loop-member-preserved c =
    let model = c.args.self.now in
    let i = c.loop-member.invariant in
    let m = c.in-Some.member in (
      i.0 ++ m ∷ [],
      passed_on model i.0 m c.next.new.self c.loop-member.member-iterator i.1 c.in-Some.ensures.steps,
      i.2 ∙ filled_without model i.0 m (sym c.if-is_active.ensures),
    )

pub returns : goal.returns
returns c =
    let i = c.loop-member.invariant in
    i.2 ∙ filled_all c.args.self.now i.0 (i.1 ∙ ap (λ (l : List Member). i.0 ++ l) c.in-None.ensures.steps.0)
