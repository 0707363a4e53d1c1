use Rattle.std.proofs.Common.{◌≡◌, ◌∙◌, refl, sym, ap, subst, true, Bool, List, length, replicate, Some}
use Rattle.std.proofs.lemmas.List.{length-map}
use Rattle.certs.specs.Rows.{row_of}
use Rattle.certs.specs.System.{LinearSystem}
use Rattle.reductions.specs.Reduction.{Reduces, next_found, removed_row}
use Rattle.reductions.specs.Stage.{Stage, start_stage}
use Rattle.presolve.specs.declared.plans.Next.{Next}
use Rattle.presolve.specs.Next.{IsNext}
use Rattle.presolve.specs.Quiet.{AreKept, touched_rows}
use Rattle.presolve.specs.Reduced.{LeadsTo}
use Rattle.presolve.proofs.Firsts.{next_none}
use Rattle.presolve.proofs.Led.{contradicted, ends, formed_there, leads, less_left, lives_there, reached, small_there}
use Rattle.presolve.proofs.Quieted.{forcing_stays, impossible_stays, redundant_stays}
use Rattle.presolve.proofs.Reached.{starts}
use Rattle.presolve.proofs.reducing.reduce.Goals as goal

pub loop-steps-init : goal.loop-steps-init
loop-steps-init c =
    let s = c.args.system in
    let d = c.system.inside in
    let count : c.len.result ≡ length s.rows = c.len.ensures ∙ d.rows.ok.0 ∙ sym (length-map d.rows.items row_of) ∙ ap (λ z. length z.rows) c.system.view_is in
    let marks : c.in_ok-live.live.items ≡ replicate (length s.rows) true = c.in_ok-live.ensures.items_if_clones_equal (λ y h. h) ∙ ap (λ n. replicate n true) count in
    let first : Stage = record { system = s; live = c.in_ok-live.live.items } in
    let rows : c.len-2.result ≡ length s.rows = c.len-2.ensures ∙ d.rows.ok.0 ∙ sym (length-map d.rows.items row_of) ∙ ap (λ z. length z.rows) c.system.view_is in
    record {
      reduces = subst (λ steps. Reduces (start_stage s) steps first) (sym c.new-steps.ensures.items) (starts first s refl marks);
      impossible = c.in_ok-quiet.ensures.impossible first rows;
      redundant = c.in_ok-quiet.ensures.redundant first rows;
      forcing = c.in_ok-quiet.ensures.forcing first rows;
    }

pub next_found-requires-clause-formed : goal.next_found-requires-clause-formed
next_found-requires-clause-formed c = formed_there c.args.system c.requires.formed c.requires.small c.loop-steps.steps.items c.loop-steps.stage c.loop-steps.invariant.reduces

pub next_found-requires-clause-small : goal.next_found-requires-clause-small
next_found-requires-clause-small c = small_there c.args.system c.requires.formed c.requires.small c.loop-steps.steps.items c.loop-steps.stage c.loop-steps.invariant.reduces

pub next_found-requires-clause-lives : goal.next_found-requires-clause-lives
next_found-requires-clause-lives c = lives_there c.args.system c.requires.formed c.requires.small c.loop-steps.steps.items c.loop-steps.stage c.loop-steps.invariant.reduces

pub loop-steps-preserved : goal.loop-steps-preserved
loop-steps-preserved c =
    let stage = c.loop-steps.stage in
    let plan = c.in-Plan.plan in
    let next = subst (IsNext stage.system (next_found stage)) (c.in-Some.is ∙ ap (λ (n : Next). Some n) c.in-Plan.is) c.in_ok-next.ensures.next in
    let after = c.make-step.new.stage in
    let system = c.make-step.ensures.system in
    let live = c.make-step.ensures.live in
    let removed = removed_row plan.step in
    let there : (old new : List Bool) → AreKept (touched_rows plan c.stage.inside.system) old new → AreKept (touched_rows plan stage.system) old new =
    λ old new h. subst (λ (z : LinearSystem). AreKept (touched_rows plan z) old new) (ap (λ z. z.system) c.stage.view_is) h in
    record {
      reduces =
          reached stage after plan next system live (start_stage c.args.system) c.loop-steps.steps.items c.push.new.self.items c.make-step.result c.make-step.ensures.step c.in_ok-push.ensures.items
          c.loop-steps.invariant.reduces;
      impossible = impossible_stays stage after plan removed system live c.next_found.new.quiet.impossible.items c.wake.new.self.impossible.items (there c.next_found.new.quiet.impossible.items c.wake.new.self.impossible.items c.in_ok-wake.ensures.impossible) c.next_found.ensures.impossible;
      redundant = redundant_stays stage after plan removed system live c.next_found.new.quiet.redundant.items c.wake.new.self.redundant.items (there c.next_found.new.quiet.redundant.items c.wake.new.self.redundant.items c.in_ok-wake.ensures.redundant) c.next_found.ensures.redundant;
      forcing = forcing_stays stage after plan removed system live c.next_found.new.quiet.forcing.items c.wake.new.self.forcing.items (there c.next_found.new.quiet.forcing.items c.wake.new.self.forcing.items c.in_ok-wake.ensures.forcing) c.next_found.ensures.forcing;
    }

pub loop-steps-smaller : goal.loop-steps-smaller
loop-steps-smaller c =
    let stage = c.loop-steps.stage in
    let plan = c.in-Plan.plan in
    let next = subst (IsNext stage.system (next_found stage)) (c.in-Some.is ∙ ap (λ (n : Next). Some n) c.in-Plan.is) c.in_ok-next.ensures.next in
    less_left stage c.make-step.new.stage plan next c.make-step.ensures.system c.make-step.ensures.live

pub returns-in_default : goal.returns-in_default
returns-in_default c =
    let s = c.args.system in
    let d = c.system.inside in
    let stage = c.loop-steps.stage in
    let steps = c.loop-steps.steps.items in
    let trace = c.trace_of.result in
    let columns : c.len-columns.result ≡ length s.columns = c.len-columns.ensures ∙ d.columns.ok.0 ∙ ap (λ z. length z.columns) c.system.view_is in
    let rows : c.len-rows.result ≡ length s.rows = c.len-rows.ensures ∙ d.rows.ok.0 ∙ sym (length-map d.rows.items row_of) ∙ ap (λ z. length z.rows) c.system.view_is in
    let next = subst (IsNext stage.system (next_found stage)) c.in_default.is c.in_ok-next.ensures.next in
    let led : LeadsTo s trace stage =
    leads s c.requires.formed c.requires.small steps stage c.loop-steps.invariant.reduces trace (c.trace_of.ensures.columns ∙ columns) (c.trace_of.ensures.rows ∙ rows) c.trace_of.ensures.steps in
    ends s c.requires.formed c.requires.small steps stage c.loop-steps.invariant.reduces (next_none stage.system (next_found stage) next) trace led c.stage.inside.system (ap (λ z. z.system) c.stage.view_is)

pub returns-in-Contradiction : goal.returns-in-Contradiction
returns-in-Contradiction c =
    let s = c.args.system in
    let d = c.system.inside in
    let stage = c.loop-steps.stage in
    let steps = c.loop-steps.steps.items in
    let trace = c.trace_of-in-Contradiction.result in
    let made = c.trace_of-in-Contradiction.ensures in
    let columns : c.len-columns.result ≡ length s.columns = c.len-columns.ensures ∙ d.columns.ok.0 ∙ ap (λ z. length z.columns) c.system.view_is in
    let rows : c.len-rows.result ≡ length s.rows = c.len-rows.ensures ∙ d.rows.ok.0 ∙ sym (length-map d.rows.items row_of) ∙ ap (λ z. length z.rows) c.system.view_is in
    let next = subst (IsNext stage.system (next_found stage)) (c.in-Some.is ∙ ap (λ (n : Next). Some n) c.in-Contradiction.is) c.in_ok-next.ensures.next in
    let led : LeadsTo s trace stage =
    leads s c.requires.formed c.requires.small steps stage c.loop-steps.invariant.reduces trace (made.columns ∙ columns) (made.rows ∙ rows) made.steps in
    contradicted s c.requires.formed c.requires.small steps stage c.loop-steps.invariant.reduces c.in-Contradiction.shares next trace led
