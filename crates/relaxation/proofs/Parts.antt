-- Sets with an enforced part, as those of an elastic system.
use Rattle.std.proofs.Common.{◌≡◌, sym, subst, filter, false}
use Rattle.std.specs.Prelude.{All, Contains}
use Rattle.std.proofs.lemmas.List.Elements.{All-contains_itself, All-filter}
use Rattle.lp_model.specs.Program.{Program}
use Rattle.lp_model.specs.Members.{IsInOrder, has, is_mark, weight}
use Rattle.lp_model.specs.MemberSets.{SetValue, possible_in}
use Rattle.lp_model.specs.Satisfaction.{IsPart}
use Rattle.certs.specs.Checks.{IsSetOf}
use Rattle.certs.specs.Violation.{is_rigid, rigid_members}
use Rattle.certs.proofs.Possible.{members_for_model}
use Rattle.relaxation.specs.Laws.{IsElastic}

pub part_elastic : (model : Program) (set enforced : SetValue) → IsSetOf model set → All (λ m. is_mark m ≡ false) set.members → IsPart enforced.members set.members
    → set.members ≡ filter (has set.members) (possible_in set) → IsInOrder set.members → IsInOrder enforced.members → IsElastic model set.members enforced.members
part_elastic model set enforced same linear part possible ordered enforced_ordered = record {
  known = members_for_model model set same possible;
  linear = linear;
  ordered = ordered;
  part = part;
  enforced_ordered = enforced_ordered;
}

-- the rigid members
pub rigid_elastic : (model : Program) (set rigid : SetValue) → IsSetOf model set → All (λ m. is_mark m ≡ false) set.members → rigid.members ≡ rigid_members model set.members
    → set.members ≡ filter (has set.members) (possible_in set) → IsInOrder set.members → IsInOrder rigid.members → IsElastic model set.members rigid.members
rigid_elastic model set rigid same linear is possible ordered rigid_ordered =
    part_elastic model set rigid same linear
    (subst (λ l. IsPart l set.members) (sym is) (All-filter (λ m. is_rigid (weight model m)) (Contains set.members) set.members (All-contains_itself set.members)))
    possible ordered rigid_ordered
