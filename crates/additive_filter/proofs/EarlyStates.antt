-- How far an early filter has come.
use Rattle.std.proofs.Common.{◌≡◌, suc, arith, sym, ◌∙◌, subst, List, [], ◌∷◌, ◌++◌, append_assoc, append-nil, length, length-append, reverse}
use Rattle.std.specs.Prelude.{Contains}
use Rattle.std.proofs.lemmas.List.{reverse-append}
use Rattle.lp_model.specs.declared.members.Member.{Member}
use Rattle.lp_model.specs.Members.{IsInOrder}
use Rattle.lp_model.specs.MemberSets.{SetValue, set_without}
use Rattle.lp_model.specs.Program.{Program}
use Rattle.lp_model.specs.Satisfaction.{IsIrreducible, IsPart, IsSatisfiable}
use Rattle.certs.specs.declared.evidence.Node.{Node}
use Rattle.certs.specs.declared.evidence.Point.{Point}
use Rattle.certs.specs.Filter.{IsEarlyTest, Early, EarlyReaches, start, stays, goes}
use Rattle.certs.specs.Proof.{IsProof}
use Rattle.certs.proofs.Filters.{early_law, satisfiable_weaker}
use Rattle.certs.proofs.Refuted.{proof_law}
use Rattle.certs.specs.Tales.{IsPointOf}
use Rattle.filter_steps.specs.Isolated.{AreWitnesses}
use Rattle.filter_steps.specs.Reductions.{Tried, stays as it_stays, goes as it_goes}
use Rattle.lp_model.proofs.Walk.{in_middle}
use Rattle.filter_steps.proofs.Sets.{set_without_middle}
use Rattle.filter_steps.proofs.Reached.{early_part, early_weaker, part_of_part}
use Rattle.filter_steps.proofs.Witnessed.{EachSuits, are_witnesses, early_goes, early_stays, satisfiable_by, weaker_point}

-- what stays of the members so far, and with those to come is left; and the witnesses so far, the last one first
pub record IsEarlyState (model : Program) (set front left : List Member) (witnesses : List Point) : Type 0 where
  pub kept : List Member
  pub reached : EarlyReaches (IsSatisfiable model) set front kept
  pub is : left ≡ front ++ kept
  pub witnessed : EachSuits (IsPointOf model) front kept [] (reverse witnesses)

pub state_starts : (model : Program) (set front left : List Member) (witnesses : List Point) → front ≡ set → left ≡ set → witnesses ≡ [] → IsEarlyState model set front left witnesses
state_starts model set front left witnesses f e w =
    subst (λ l. IsEarlyState model set l left witnesses) (sym f)
    (record { kept = []; reached = start; is = e ∙ sym (append-nil set); witnessed = subst (λ l. EachSuits (IsPointOf model) set [] [] (reverse l)) (sym w) tt })

-- what is left, around the next member
around : (model : Program) (set front : List Member) (m : Member) (left : List Member) (witnesses : List Point) → (s : IsEarlyState model set (front ++ m ∷ []) left witnesses) → left ≡ front ++ m ∷ s.kept
around model set front m left witnesses s = s.is ∙ append_assoc front (m ∷ []) s.kept

-- the next member is one that is left
pub next_is_left : (model : Program) (set front : List Member) (m : Member) (left : List Member) (witnesses : List Point) → IsEarlyState model set (front ++ m ∷ []) left witnesses → Contains left m
next_is_left model set front m left witnesses s = subst (λ l. Contains l m) (sym (around model set front m left witnesses s)) (in_middle front m s.kept)

-- what is asked for is a set that an early filter may ask for
pub asked_is_test : (model : Program) (set front : List Member) (m : Member) (left : SetValue) (witnesses : List Point) → IsEarlyState model set (front ++ m ∷ []) left.members witnesses → IsInOrder left.members
    → IsEarlyTest model set (set_without left m).members
asked_is_test model set front m left witnesses s order =
    record { front = front; between = m ∷ []; kept = s.kept; reached = s.reached; joined = set_without_middle left front m s.kept (around model set front m left.members witnesses s) order }

-- and is a part of the set
pub asked_is_part : (model : Program) (set front : List Member) (m : Member) (left : SetValue) (witnesses : List Point) → IsEarlyState model set (front ++ m ∷ []) left.members witnesses → IsInOrder left.members
    → IsPart (set_without left m).members set
asked_is_part model set front m left witnesses s order =
    subst (λ l. IsPart l set) (sym (set_without_middle left front m s.kept (around model set front m left.members witnesses s) order))
    (part_of_part set front (m ∷ []) s.kept (subst (λ l. IsPart l set) (append_assoc front (m ∷ []) s.kept) (early_part (IsSatisfiable model) set s.reached)))

-- one member more
pub state_tried : (model : Program) (set front : List Member) (m : Member) (left now : SetValue) (witnesses witnesses_now : List Point) (nodes : List Node)
    → IsEarlyState model set (front ++ m ∷ []) left.members witnesses → IsInOrder left.members → Tried model left witnesses m now witnesses_now → IsProof model now.members nodes → IsEarlyState model set front now.members witnesses_now
state_tried model set front m left _ witnesses _ nodes s order (it_stays p h) q =
    let is : left.members ≡ front ++ m ∷ s.kept = around model set front m left.members witnesses s in
    let point : IsPointOf model (front ++ s.kept) p = subst (λ l. IsPointOf model l p) (set_without_middle left front m s.kept is order) h in
    record {
      kept = m ∷ s.kept;
      reached = stays s.reached (satisfiable_by model (front ++ s.kept) p point);
      is = is;
      witnessed = subst (EachSuits (IsPointOf model) front (m ∷ s.kept) []) (sym (reverse-append witnesses (p ∷ []))) (early_stays (IsPointOf model) front m s.kept (reverse witnesses) p s.witnessed point);
    }
state_tried model set front m left _ witnesses _ nodes s order it_goes q =
    let is : (set_without left m).members ≡ front ++ s.kept = set_without_middle left front m s.kept (around model set front m left.members witnesses s) order in
    record {
      kept = s.kept;
      reached = goes m s.reached (proof_law model (front ++ s.kept) nodes (subst (λ l. IsProof model l nodes) is q));
      is = is;
      witnessed = subst (λ l. EachSuits (IsPointOf model) l s.kept [] (reverse witnesses)) (append-nil front)
          (early_goes (IsPointOf model) (weaker_point model) front (m ∷ []) [] s.kept [] (reverse witnesses) s.witnessed);
    }

-- ---- in the end
pub early_in_the_end : (model : Program) (set left : List Member) (witnesses : List Point) → IsEarlyState model set [] left witnesses → Early model set left
early_in_the_end model set left witnesses s = subst (Early model set) (sym s.is) s.reached

pub witnesses_in_the_end : (model : Program) (set left : List Member) (witnesses : List Point) → IsEarlyState model set [] left witnesses → AreWitnesses model left (reverse witnesses)
witnesses_in_the_end model set left witnesses s = subst (λ l. AreWitnesses model l (reverse witnesses)) (sym s.is) (are_witnesses model s.kept (reverse witnesses) s.witnessed)

-- what an early filter leaves of a set is irreducible where it has a proof
pub irreducible_in_the_end : (model : Program) (set left : List Member) (nodes : List Node) → Early model set left → IsProof model left nodes → IsIrreducible model left
irreducible_in_the_end model set left nodes early proof =
    early_law model set left (λ h. proof_law model left nodes proof (early_weaker (IsSatisfiable model) set (satisfiable_weaker model) early h)) early

-- the whole set is a test
pub whole_is_test : (model : Program) (set : List Member) → IsEarlyTest model set set
whole_is_test model set = record { front = set; between = []; kept = []; reached = subst (λ l. EarlyReaches (IsSatisfiable model) set l []) (sym (append-nil set)) start; joined = sym (append-nil set) }

-- ---- counts of asks
pub one_less : (front : List Member) (m : Member) → length (front ++ m ∷ []) ≡ suc (length front)
one_less front m = omega (arith, length-append front (m ∷ []))
