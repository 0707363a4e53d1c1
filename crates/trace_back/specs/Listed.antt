-- Steps, told in short.
use Rattle.reductions.specs.declared.steps.Step.{Step}
use Rattle.reductions.specs.declared.steps.Step.TheVariants.{Empty, Singleton, Fixed, Redundant, Forcing, Doubleton}
use Rattle.reductions.specs.declared.steps.ReduceStep.{ReduceStep}
use Rattle.reductions.specs.declared.steps.ReduceStep.TheVariants.{Empty as EmptyRow, Singleton as SingletonRow, Fixed as FixedColumn, Redundant as RedundantRow, Forcing as ForcingRow, Doubleton as DoubletonRow}

-- the rows and columns that a step removes, with the value or the side where it gives one
abbrev pub told : Step → ReduceStep
told (Empty i) = EmptyRow i
told (Singleton s) = SingletonRow s.row
told (Fixed f) = FixedColumn f.column f.value
told (Redundant i) = RedundantRow i
told (Forcing f) = ForcingRow f.row f.side
told (Doubleton d) = DoubletonRow d.row d.y
