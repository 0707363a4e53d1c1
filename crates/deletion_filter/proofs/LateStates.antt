-- How far a late filter has come.
use Rattle.std.proofs.Common.{◌≡◌, refl, sym, ◌∙◌, subst, List, [], ◌∷◌, ◌++◌, append_assoc, append-nil}
use Rattle.std.specs.Prelude.{Contains}
use Rattle.lp_model.specs.declared.members.Member.{Member}
use Rattle.lp_model.specs.Members.{IsInOrder}
use Rattle.lp_model.specs.MemberSets.{SetValue, set_without}
use Rattle.lp_model.specs.Program.{Program}
use Rattle.lp_model.specs.Satisfaction.{IsIrreducible, IsPart, IsSatisfiable}
use Rattle.certs.specs.declared.evidence.Node.{Node}
use Rattle.certs.specs.declared.evidence.Point.{Point}
use Rattle.certs.specs.Filter.{IsLateTest, Late, LateReaches, start, stays, goes}
use Rattle.certs.specs.Proof.{IsProof}
use Rattle.certs.proofs.Filters.{late_law, satisfiable_weaker}
use Rattle.certs.proofs.Refuted.{proof_law}
use Rattle.certs.specs.Tales.{IsPointOf}
use Rattle.filter_steps.specs.Isolated.{AreWitnesses}
use Rattle.filter_steps.specs.Reductions.{Tried, stays as it_stays, goes as it_goes}
use Rattle.lp_model.proofs.Walk.{in_middle}
use Rattle.filter_steps.proofs.Sets.{set_without_middle}
use Rattle.filter_steps.proofs.Reached.{late_part, late_weaker, part_of_part}
use Rattle.filter_steps.proofs.Witnessed.{EachSuits, are_witnesses, late_goes, late_stays, satisfiable_by, weaker_point}

-- what stays of the members so far, and with those to come is left; and the witnesses so far
pub record IsLateState (model : Program) (set rest left : List Member) (witnesses : List Point) : Type 0 where
  pub kept : List Member
  pub reached : LateReaches (IsSatisfiable model) set kept rest
  pub is : left ≡ kept ++ rest
  pub witnessed : EachSuits (IsPointOf model) [] kept rest witnesses

pub state_starts : (model : Program) (set left : List Member) (witnesses : List Point) → left ≡ set → witnesses ≡ [] → IsLateState model set set left witnesses
state_starts model set left witnesses e w = record { kept = []; reached = start; is = e; witnessed = subst (EachSuits (IsPointOf model) [] [] set) (sym w) tt }

-- the next member is one that is left
pub next_is_left : (model : Program) (set : List Member) (m : Member) (rest left : List Member) (witnesses : List Point) → IsLateState model set (m ∷ rest) left witnesses → Contains left m
next_is_left model set m rest left witnesses s = subst (λ l. Contains l m) (sym s.is) (in_middle s.kept m rest)

-- what is asked for is a set that a late filter may ask for
pub asked_is_test : (model : Program) (set : List Member) (m : Member) (rest : List Member) (left : SetValue) (witnesses : List Point) → IsLateState model set (m ∷ rest) left.members witnesses → IsInOrder left.members
    → IsLateTest model set (set_without left m).members
asked_is_test model set m rest left witnesses s order = record { kept = s.kept; between = m ∷ []; back = rest; reached = s.reached; joined = set_without_middle left s.kept m rest s.is order }

-- and is a part of the set
pub asked_is_part : (model : Program) (set : List Member) (m : Member) (rest : List Member) (left : SetValue) (witnesses : List Point) → IsLateState model set (m ∷ rest) left.members witnesses → IsInOrder left.members
    → IsPart (set_without left m).members set
asked_is_part model set m rest left witnesses s order =
    subst (λ l. IsPart l set) (sym (set_without_middle left s.kept m rest s.is order)) (part_of_part set s.kept (m ∷ []) rest (late_part (IsSatisfiable model) set s.reached))

-- one member more
pub state_tried : (model : Program) (set : List Member) (m : Member) (rest : List Member) (left now : SetValue) (witnesses witnesses_now : List Point) (nodes : List Node)
    → IsLateState model set (m ∷ rest) left.members witnesses → IsInOrder left.members → Tried model left witnesses m now witnesses_now → IsProof model now.members nodes → IsLateState model set rest now.members witnesses_now
state_tried model set m rest left _ witnesses _ nodes s order (it_stays p h) q =
    let point : IsPointOf model (s.kept ++ rest) p = subst (λ l. IsPointOf model l p) (set_without_middle left s.kept m rest s.is order) h in
    record {
      kept = s.kept ++ m ∷ [];
      reached = stays s.reached (satisfiable_by model (s.kept ++ rest) p point);
      is = s.is ∙ sym (append_assoc s.kept (m ∷ []) rest);
      witnessed = late_stays (IsPointOf model) [] s.kept m rest witnesses p s.witnessed point;
    }
state_tried model set m rest left _ witnesses _ nodes s order it_goes q =
    let is : (set_without left m).members ≡ s.kept ++ rest = set_without_middle left s.kept m rest s.is order in
    record {
      kept = s.kept;
      reached = goes s.reached (proof_law model (s.kept ++ rest) nodes (subst (λ l. IsProof model l nodes) is q));
      is = is;
      witnessed = late_goes (IsPointOf model) (weaker_point model) [] s.kept m rest witnesses s.witnessed;
    }

-- ---- in the end
pub late_in_the_end : (model : Program) (set left : List Member) (witnesses : List Point) → IsLateState model set [] left witnesses → Late model set left
late_in_the_end model set left witnesses s = subst (Late model set) (sym (s.is ∙ append-nil s.kept)) s.reached

pub witnesses_in_the_end : (model : Program) (set left : List Member) (witnesses : List Point) → IsLateState model set [] left witnesses → AreWitnesses model left witnesses
witnesses_in_the_end model set left witnesses s = subst (λ l. AreWitnesses model l witnesses) (sym (s.is ∙ append-nil s.kept)) (are_witnesses model s.kept witnesses s.witnessed)

-- what a late filter leaves of a set is irreducible where it has a proof
pub irreducible_in_the_end : (model : Program) (set left : List Member) (nodes : List Node) → Late model set left → IsProof model left nodes → IsIrreducible model left
irreducible_in_the_end model set left nodes late proof =
    late_law model set left (λ h. proof_law model left nodes proof (subst (IsSatisfiable model) (append-nil left) (late_weaker (IsSatisfiable model) set (satisfiable_weaker model) late h))) late

-- the whole set is a test
pub whole_is_test : (model : Program) (set : List Member) → IsLateTest model set set
whole_is_test model set = record { kept = []; between = []; back = set; reached = start; joined = refl }
