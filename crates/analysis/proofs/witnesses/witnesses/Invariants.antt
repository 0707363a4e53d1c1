use Rattle.analysis.specs.Answers.{IsOracleOf, budgets_of}
use Rattle.quick_answers.proofs.Witnessing.{IsWitnessed}
use Rattle.analysis.proofs.witnesses.witnesses.Given as goal

-- the members that follow have no witness yet
abbrev pub invariant-loop-member : goal.invariant-loop-member
invariant-loop-member l = record {
  witnessed : IsWitnessed l.model l.set.members l.member-iterator l.points.items;
  of : IsOracleOf l.model (budgets_of l.budgets) l.oracle.inner;
}
