use Rattle.lp_model.specs.Program.{Program}
use Rattle.reductions.specs.declared.steps.ReduceStep.{ReduceStep}
use Rattle.reductions.specs.declared.steps.ReduceStep.TheVariants.{Empty, Singleton, Fixed, Redundant, Forcing, Doubleton}
use Rattle.report_text.specs.declared.phrases.Phrase.{Phrase}
use Rattle.report_text.specs.Grammar.{step_given}
use Rattle.report_printer.specs.Evidence.{IsKnownStep}
use Rattle.report_printer.specs.EvidenceNumbers.{IsStepWithin}
use Rattle.report_printer.specs.Rows.{IsKnownPhrase, IsGivenWithin}
use Rattle.report_printer.proofs.steps.print_reduction.Goals as goal

known : (model : Program) (s : ReduceStep) → IsKnownStep model s → IsKnownPhrase model (Phrase.Reduction s)
known model (Empty i) h = (h, tt)
known model (Singleton i) h = (h, tt)
known model (Fixed j v) h = (h, (tt, tt))
known model (Redundant i) h = (h, tt)
known model (Forcing i side) h = (h, (tt, tt))
known model (Doubleton i j) h = (h.0, (h.1, tt))

within : (s : ReduceStep) → IsGivenWithin (step_given s) → IsStepWithin s
within (Fixed j v) h = h.value
within s h = tt

pub print_phrase-requires : goal.print_phrase-requires
print_phrase-requires c = known c.args.model.now c.args.step c.requires

pub returns-clause-within : goal.returns-clause-within
returns-clause-within c = within c.args.step c.in_ok-print_phrase.ensures.within
