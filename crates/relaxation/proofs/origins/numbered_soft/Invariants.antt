use Rattle.std.specs.Prelude.{All}
use Rattle.lp_model.specs.MemberSets.{IsMemberFor}
use Rattle.std.proofs.Common.{not, length}
use Rattle.lp_model.specs.Members.{has}
use Rattle.relaxation.proofs.Soft.{AreNumbered}
use Rattle.relaxation.proofs.origins.numbered_soft.Given as goal

-- the soft members passed are there with their numbers, and those to come are members of the program
abbrev pub invariant-loop-member : goal.invariant-loop-member
invariant-loop-member l = record {
  numbered : AreNumbered l.first (λ m. not (has l.enforced.members m)) l.set.members l.soft.items l.member-iterator;
  known : All (IsMemberFor (length l.model.rows) (length l.model.columns)) l.member-iterator;
}
