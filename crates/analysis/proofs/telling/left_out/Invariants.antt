use Rattle.std.proofs.Common.{◌≡◌, ◌++◌, ◌&&◌, filter, length, not}
use Rattle.std.specs.Prelude.{All}
use Rattle.lp_model.specs.Members.{has, is_active, possible_members}
use Rattle.lp_model.specs.MemberSets.{IsMemberFor}
use Rattle.analysis.proofs.telling.left_out.Given as goal

-- those that are still to come complete the members that are left out
abbrev pub invariant-loop-member : goal.invariant-loop-member
invariant-loop-member l = record {
  known : All (IsMemberFor (length l.model.rows) (length l.model.columns)) l.member-iterator;
  put : l.left.items ++ filter (λ m. is_active l.model m && not (has l.set.members m)) l.member-iterator ≡ filter (λ m. is_active l.model m && not (has l.set.members m)) (possible_members l.model);
}
