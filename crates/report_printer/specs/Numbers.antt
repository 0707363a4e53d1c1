-- Answers whose numbers are those of the code: fractions within the limit, and counts of 64 bits.
pub use Rattle.report_printer.specs.EvidenceNumbers.{HasValuesWithin, HasWitnessesWithin, HasWeightsWithin, IsProofWithin, IsStopWithin, IsRayWithin, IsDualWithin, IsBoundedWithin, IsLeastWithin, HasPriceWithin, IsReducedWithin}
use Rattle.report_text.specs.Form.{IsCountWithin}
use Rattle.report_text.specs.declared.report.Core.{Core}
use Rattle.report_text.specs.declared.report.Answer.{Answer}
use Rattle.report_text.specs.declared.report.Answer.TheVariants.{Feasible, Infeasible, Irreducible, Unbounded as RunsAway, Bounded as BoundedBy, Least as LeastBy, RigidInfeasible as RigidRefuted, Reduced as ReducedTo, Done, Refused, NotLinear, Stopped}

-- those of the witnesses and of the proof, and the count of rounds, or the total with its price, where it is told
pub record IsCoreWithin (core : Core) : Type 0 where
  pub witnesses : HasWitnessesWithin core.members.members core.witnesses
  pub proof : IsProofWithin core.proof
  pub rounds : IsCountWithin core.rounds
  pub price : HasPriceWithin core.price

-- all numbers of an answer
abbrev pub HasNumbersWithin : Answer → Type 0
HasNumbersWithin (Feasible p) = HasValuesWithin p
HasNumbersWithin (Infeasible set proof) = IsProofWithin proof
HasNumbersWithin (Irreducible core) = IsCoreWithin core
HasNumbersWithin (RunsAway p ray) = HasValuesWithin p × IsRayWithin ray
HasNumbersWithin (BoundedBy b) = IsBoundedWithin b
HasNumbersWithin (LeastBy p dual) = IsLeastWithin p dual
HasNumbersWithin (RigidRefuted set proof) = IsProofWithin proof
HasNumbersWithin (ReducedTo r) = IsReducedWithin r
HasNumbersWithin (Stopped stop) = IsStopWithin stop
HasNumbersWithin _ = Unit {0}
