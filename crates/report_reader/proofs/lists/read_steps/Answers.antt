use Rattle.std.proofs.Common.{sym, ap, ◌∙◌, subst}
use Rattle.std.specs.Prelude.{map, All}
use Rattle.reductions.specs.declared.steps.ReduceStep.{ReduceStep}
use Rattle.report_text.specs.declared.phrases.Phrase.{Phrase}
use Rattle.report_text.specs.Form.{IsStepFor}
use Rattle.std.proofs.lemmas.List.Elements.{All-nil, All-push}
use Rattle.report_reader.specs.Things.{found, steps, step_of, may_any}
use Rattle.report_reader.proofs.Found.{step_finds}
use Rattle.report_reader.specs.Kinds.{IsRead}
use Rattle.report_reader.proofs.Passing.{loop_start, loop_more, loop_smaller, loop_end, any_next}
use Rattle.report_reader.proofs.lists.read_steps.Goals as goal

pub loop-step-init : goal.loop-step-init
loop-step-init c = loop_start c.args.model.now c.requires.names (steps c.args.model.now) c.args.cursor.now _ c.requires (subst (All (IsStepFor c.args.model.now)) (sym c.new-steps.ensures.items) (All-nil (IsStepFor c.args.model.now))) (ap (map (Phrase.Reduction)) c.new-steps.ensures.items)

pub pass-requires : goal.pass-requires
pass-requires c = c.loop-step.invariant.stands

pub loop-step-smaller : goal.loop-step-smaller
loop-step-smaller c = loop_smaller c.args.model.now c.requires.names ReduceStep (Phrase.Reduction) (step_of) (may_any) (All (IsStepFor c.args.model.now)) (step_finds) c.loop-step.cursor c.pass.new.self c.push.new.self _ _ c.in-Some.step (any_next c.loop-step.steps.items (found (step_of) c.loop-step.cursor.ahead) ∙ sym c.step_in.ensures ∙ c.in-Some.is) c.loop-step.invariant.stands c.pass.ensures.passes c.push.ensures

pub loop-step-preserved : goal.loop-step-preserved
loop-step-preserved c = loop_more c.args.model.now c.requires.names ReduceStep (Phrase.Reduction) (step_of) (may_any) (All (IsStepFor c.args.model.now)) (step_finds) c.args.cursor.now c.loop-step.cursor c.pass.new.self c.push.new.self _ _ c.in-Some.step c.loop-step.invariant (any_next c.loop-step.steps.items (found (step_of) c.loop-step.cursor.ahead) ∙ sym c.step_in.ensures ∙ c.in-Some.is) c.pass.ensures.passes c.pass.ensures.stands c.push.ensures (λ m h. All-push (IsStepFor c.args.model.now) _ c.in-Some.step c.loop-step.invariant.form h)

pub returns-clause-read : goal.returns-clause-read
returns-clause-read c = subst (IsRead c.args.model.now (steps c.args.model.now) c.args.cursor.now c.loop-step.cursor) (sym c.new.ensures) (loop_end c.args.model.now c.requires.names ReduceStep (Phrase.Reduction) (step_of) (may_any) (All (IsStepFor c.args.model.now)) (step_finds) c.args.cursor.now c.loop-step.cursor _ c.loop-step.invariant (any_next c.loop-step.steps.items (found (step_of) c.loop-step.cursor.ahead) ∙ sym c.step_in.ensures ∙ c.in_default.is))

pub returns-clause-stands : goal.returns-clause-stands
returns-clause-stands c = c.loop-step.invariant.stands
