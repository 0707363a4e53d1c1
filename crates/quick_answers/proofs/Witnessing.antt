-- How far witnesses of the members of a set are found.
use Rattle.std.proofs.Common.{◌≡◌, refl, sym, ◌∙◌, subst, List, [], ◌∷◌, ◌++◌, append_assoc, append-nil, filter}
use Rattle.std.specs.Prelude.{Contains}
use Rattle.lp_model.specs.declared.members.Member.{Member}
use Rattle.lp_model.specs.Members.{has, IsInOrder}
use Rattle.lp_model.specs.MemberSets.{SetValue, IsPossibleIn, possible_in, set_without}
use Rattle.lp_model.specs.Program.{Program}
use Rattle.lp_model.proofs.Walk.{in_middle}
use Rattle.certs.specs.declared.evidence.Point.{Point}
use Rattle.certs.specs.Tales.{IsPointOf}
use Rattle.filter_steps.specs.Isolated.{AreWitnesses}
use Rattle.filter_steps.proofs.Sets.{is_possible, set_without_middle}
use Rattle.filter_steps.proofs.Witnessed.{EachSuits, are_witnesses, late_stays}

-- those members that are not to come have theirs
pub record IsWitnessed (model : Program) (set rest : List Member) (points : List Point) : Type 0 where
  pub kept : List Member
  pub is : set ≡ kept ++ rest
  pub witnessed : EachSuits (IsPointOf model) [] kept rest points

pub witnessed_first : (model : Program) (set : List Member) (points : List Point) → points ≡ [] → IsWitnessed model set set points
witnessed_first model set points none = record { kept = []; is = refl; witnessed = subst (EachSuits (IsPointOf model) [] [] set) (sym none) tt }

module _ (model : Program) (set : SetValue) (m : Member) (rest : List Member) (points : List Point) (w : IsWitnessed model set.members (m ∷ rest) points) where
  -- the next one is a member
  pub next_there : Contains set.members m
  next_there = subst (λ l. Contains l m) (sym w.is) (in_middle w.kept m rest)

  pub next_possible : set.members ≡ filter (has set.members) (possible_in set) → IsPossibleIn set m
  next_possible possible = is_possible set m possible next_there

  -- what is left without it
  pub others_are : IsInOrder set.members → (set_without set m).members ≡ w.kept ++ rest
  others_are order = set_without_middle set w.kept m rest w.is order

  -- with its witness
  pub witnessed_next : (p : Point) → IsInOrder set.members → IsPointOf model (set_without set m).members p → IsWitnessed model set.members rest (points ++ p ∷ [])
  witnessed_next p order h = record {
    kept = w.kept ++ m ∷ [];
    is = w.is ∙ sym (append_assoc w.kept (m ∷ []) rest);
    witnessed = late_stays (IsPointOf model) [] w.kept m rest points p w.witnessed (subst (λ l. IsPointOf model l p) (others_are order) h);
  }

-- in the end
pub witnessed_last : (model : Program) (set : List Member) (points : List Point) → IsWitnessed model set [] points → AreWitnesses model set points
witnessed_last model set points w = subst (λ l. AreWitnesses model l points) (sym (w.is ∙ append-nil w.kept)) (are_witnesses model w.kept points w.witnessed)
