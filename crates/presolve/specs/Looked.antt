-- The rules that look at rows, in code.
use Rattle.reductions.specs.Reduction.{Rule}
use Rattle.reductions.specs.Reduction.Rule.{EmptyRow, SingletonRow, ImpossibleRow, RedundantRow, ForcingRow, DoubletonRow}
use Rattle.presolve.specs.declared.looking.RowRule.{RowRule}
use Rattle.presolve.specs.declared.looking.RowRule.TheVariants.{Empty, Singleton, Impossible, Redundant, Forcing, Doubleton}

-- the rule that each of them is
abbrev pub rule_of : RowRule → Rule
rule_of Empty = EmptyRow
rule_of Singleton = SingletonRow
rule_of Impossible = ImpossibleRow
rule_of Redundant = RedundantRow
rule_of Forcing = ForcingRow
rule_of Doubleton = DoubletonRow
