use Rattle.std.proofs.Common.{sym, ◌∙◌, ap, ◌∷◌}
use Rattle.lp_model.specs.declared.members.Member.{Member}
use Rattle.analysis.specs.Linear.{first_mark as first_mark_of}
use Rattle.analysis.proofs.Marks.{passed_mark}
use Rattle.analysis.proofs.linear.first_mark.Goals as goal

pub loop-member-init : goal.loop-member-init
loop-member-init c = record { same = ap first_mark_of (c.into_iter-member-iterator.ensures.into_iter_gives ∙ c.iter-member-items.ensures) }

pub returns-in-Whole : goal.returns-in-Whole
returns-in-Whole c =
    ap (λ (m : Member). first_mark_of (m ∷ c.next.new.self)) (sym c.in-Whole.is) ∙ ap first_mark_of (sym c.in-Some.ensures.steps) ∙ c.loop-member.invariant.same

pub loop-member-preserved : goal.loop-member-preserved
loop-member-preserved c = record { same = sym (passed_mark c.in-Some.member c.next.new.self c.in_default.not-Whole) ∙ ap first_mark_of (sym c.in-Some.ensures.steps) ∙ c.loop-member.invariant.same }

pub returns : goal.returns
returns c = ap first_mark_of (sym c.in-None.ensures.steps.0) ∙ c.loop-member.invariant.same
