use Rattle.std.proofs.Common.{◌≡◌}
use Rattle.quick_answers.proofs.Witnessing.{IsWitnessed}
use Rattle.quick_answers.proofs.witnesses.witnesses.Given as goal

-- the members that follow have no witness yet, and no pivot was allowed
abbrev pub invariant-loop-member : goal.invariant-loop-member
invariant-loop-member g l = record {
  witnessed : IsWitnessed l.model l.set.members l.member-iterator l.points.items;
  kept : l.kept ≡ l.fn.kept;
}
