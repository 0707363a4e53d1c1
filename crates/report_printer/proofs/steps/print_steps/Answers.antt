use Rattle.std.proofs.Common.{◌+◌, ◌∷◌, ◌∙◌, sym, ap, subst, List, drop, get_or, map}
use borrow.Author.Count.{below_more}
use Rattle.std.proofs.lemmas.List.{at_drop_more, get_or_default}
use Rattle.reductions.specs.declared.steps.ReduceStep.{ReduceStep}
use Rattle.report_text.specs.declared.phrases.Phrase.{Phrase}
use Rattle.report_text.specs.Grammar.{phrases_text}
use Rattle.report_printer.specs.EvidenceNumbers.{IsStepWithin}
use Rattle.report_printer.proofs.EvidencePrinted.{goes_on}
use Rattle.report_printer.proofs.steps.print_steps.Goals as goal

pub loop-step-preserved : goal.loop-step-preserved
loop-step-preserved c =
    let model = c.args.model.now in
    let steps = c.args.steps.now in
    let i = c.loop-step.step-index in
    let s = c.step-item.result in
    record {
      left = goes_on _ _ _ _ _ _ c.in_ok-print_reduction.ensures.text
          (at_drop_more (λ (l : List ReduceStep). phrases_text model (map Phrase.Reduction l)) steps i s c.loop-step-test.true
          ∙ ap (λ (x : ReduceStep). phrases_text model (map Phrase.Reduction (x ∷ drop (i + 1) steps))) (sym c.step-item.is))
          c.loop-step.invariant.left;
      within = λ k d l.
          below_more (λ n. IsStepWithin (get_or steps n d)) i (λ n less. c.loop-step.invariant.within n d less)
          (subst IsStepWithin (c.step-item.is ∙ get_or_default steps i s d c.loop-step-test.true) c.in_ok-print_reduction.ensures.within) k l;
    }
