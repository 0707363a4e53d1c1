-- What the contract of a reduction says.
use Rattle.std.specs.Prelude.{◌≡◌, List, map, length}
use Rattle.certs.specs.Named.{named}
use Rattle.certs.specs.System.{LinearSystem, VariableShare}
use Rattle.reductions.specs.Known.{IsTraceOf}
use Rattle.reductions.specs.Reduction.{Reduces, IsReduced, IsDecidedBy}
use Rattle.reductions.specs.Stage.{Stage, start_stage}
use Rattle.presolve.specs.declared.reduction.Reduction.{Reduction}
use Rattle.presolve.specs.declared.reduction.Reduction.TheVariants.{Reduced, Decided}
use Rattle.reductions.specs.declared.steps.Trace.{Trace}

-- the steps of the trace are those of the reduction of the system, and lead to this stage
pub record LeadsTo (system : LinearSystem) (trace : Trace) (last : Stage) : Type 0 where
  pub known : IsTraceOf (length system.columns) (length system.rows) trace
  pub reduces : Reduces (start_stage system) trace.steps last

-- no rule finds anything at the system reached; or what the next rule finds there decides, and the combination is that
abbrev pub IsReductionOf : LinearSystem → Reduction → Type 0
IsReductionOf system (Reduced left trace) = (last : Stage) × (LeadsTo system trace last × ((left ≡ last.system) × IsReduced last))
IsReductionOf system (Decided combo trace) =
    (last : Stage) × (LeadsTo system trace last × ((of : List VariableShare) × ((combo.shares ≡ map (named (length system.columns)) of) × IsDecidedBy last of)))
