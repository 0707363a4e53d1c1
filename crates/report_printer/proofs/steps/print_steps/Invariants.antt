use Rattle.std.proofs.Common.{◌≡◌, ◌<◌, ◌++◌, ℕ, map, drop, get_or}
use Rattle.reductions.specs.declared.steps.ReduceStep.{ReduceStep}
use Rattle.report_text.specs.declared.phrases.Phrase.{Phrase}
use Rattle.report_text.specs.Grammar.{phrases_text}
use Rattle.report_printer.specs.EvidenceNumbers.{IsStepWithin}
use Rattle.report_printer.proofs.steps.print_steps.Given as goal

-- the lines that are left complete the text, and the values so far are within the limit
abbrev pub invariant-loop-step : goal.invariant-loop-step
invariant-loop-step l = record {
  left : l.into.items ++ phrases_text l.model (map Phrase.Reduction (drop l.step-index l.steps)) ≡ l.initial.into.items ++ phrases_text l.model (map Phrase.Reduction l.steps);
  within : (k : ℕ) (d : ReduceStep) → k < l.step-index → IsStepWithin (get_or l.steps k d);
}
