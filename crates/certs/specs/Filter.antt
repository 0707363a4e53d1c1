-- What the filters give, by satisfiability alone. `Can` says of a list that some point satisfies it: of members, or of groups of members.
use Rattle.std.specs.Prelude.{◌≡◌, ℕ, suc, ◌≤◌, true, false, ◌||◌, ◌↔◌, List, [], ◌∷◌, ◌++◌, length, filter, All}
use Rattle.rational.specs.Rational.{◌≤ℚ◌}
use Rattle.lp_model.specs.declared.members.Member.{Member}
use Rattle.lp_model.specs.Program.{Program}
use Rattle.lp_model.specs.Members.{has, is_mark, IsInOrder}
use Rattle.lp_model.specs.Satisfaction.{Point, coordinate, Satisfies, IsSatisfiable, IsUnsatisfiable, IsIrreducible, IsIrreducibleFor, IsPart}
use Rattle.certs.specs.Violation.{total_violation, is_violated}

-- From the first member on: `kept` stays of the members so far, and `rest` is still to come.
-- One stays exactly where those kept before it, with all after it, can be satisfied.
pub data LateReaches {X : Type 0} (Can : List X → Type 0) (set : List X) : List X → List X → Type 0 where
  start : LateReaches Can set [] set
  stays : {kept : List X} {x : X} {rest : List X} → LateReaches Can set kept (x ∷ rest) → Can (kept ++ rest) → LateReaches Can set (kept ++ x ∷ []) rest
  goes : {kept : List X} {x : X} {rest : List X} → LateReaches Can set kept (x ∷ rest) → ¬ (Can (kept ++ rest)) → LateReaches Can set kept rest

-- From the last member back: `front` is still to come, and `kept` stays of the members after it.
-- One stays exactly where all before it, with those kept after it, can be satisfied.
pub data EarlyReaches {X : Type 0} (Can : List X → Type 0) (set : List X) : List X → List X → Type 0 where
  start : EarlyReaches Can set set []
  stays : {front : List X} {x : X} {kept : List X} → EarlyReaches Can set (front ++ x ∷ []) kept → Can (front ++ kept) → EarlyReaches Can set front (x ∷ kept)
  goes : {front : List X} (x : X) {kept : List X} → EarlyReaches Can set (front ++ x ∷ []) kept → ¬ (Can (front ++ kept)) → EarlyReaches Can set front kept

-- what stays of all
abbrev pub LateBy : {X : Type 0} → (List X → Type 0) → List X → List X → Type 0
LateBy Can set kept = LateReaches Can set kept []

-- and from the back
abbrev pub EarlyBy : {X : Type 0} → (List X → Type 0) → List X → List X → Type 0
EarlyBy Can set kept = EarlyReaches Can set [] kept

-- what stays of a front, with a back of the set behind that front
pub record IsLateTestBy {X : Type 0} (Can : List X → Type 0) (set test : List X) : Type 0 where
  pub kept : List X
  pub between : List X
  pub back : List X
  pub reached : LateReaches Can set kept (between ++ back)
  pub joined : test ≡ kept ++ back

-- a front of the set, with what stays of a back behind that front
pub record IsEarlyTestBy {X : Type 0} (Can : List X → Type 0) (set test : List X) : Type 0 where
  pub front : List X
  pub between : List X
  pub kept : List X
  pub reached : EarlyReaches Can set (front ++ between) kept
  pub joined : test ≡ front ++ kept

-- ---- of members
-- what a late filter leaves of a set
abbrev pub Late : Program → List Member → List Member → Type 0
Late model set kept = LateBy (IsSatisfiable model) set kept

-- and an early one
abbrev pub Early : Program → List Member → List Member → Type 0
Early model set kept = EarlyBy (IsSatisfiable model) set kept

-- a set that a late filter may ask for
abbrev pub IsLateTest : Program → List Member → List Member → Type 0
IsLateTest model set test = IsLateTestBy (IsSatisfiable model) set test

-- and an early one
abbrev pub IsEarlyTest : Program → List Member → List Member → Type 0
IsEarlyTest model set test = IsEarlyTestBy (IsSatisfiable model) set test

-- ---- of groups, each counted as all its members
-- the members of all groups
abbrev pub joined : List (List Member) → List Member
joined [] = []
joined (group ∷ groups) = group ++ joined groups

-- some point satisfies all of them
abbrev pub CanGroups : Program → List (List Member) → Type 0
CanGroups model groups = IsSatisfiable model (joined groups)

-- what a late filter leaves of groups
abbrev pub LateGroups : Program → List (List Member) → List (List Member) → Type 0
LateGroups model groups kept = LateBy (CanGroups model) groups kept

-- ---- rounds of enforcing
-- The members that are violated at a point of least total violation, among the points that satisfy the enforced ones, are enforced too.
pub record Stretches (model : Program) (set enforced next : List Member) : Type 0 where
  pub point : Point
  pub satisfies : Satisfies model enforced (coordinate point)
  pub least : (q : Point) → Satisfies model enforced (coordinate q) → total_violation model set (coordinate point) ≤ℚ total_violation model set (coordinate q)
  pub adds : next ≡ filter (λ m. has enforced m || is_violated model (coordinate point) m) set

-- a chain of so many enforced sets, from the empty one to this one
pub data Enforces (model : Program) (set : List Member) : ℕ → List Member → Type 0 where
  first : Enforces model set 1 []
  further : {n : ℕ} {enforced next : List Member} → Enforces model set n enforced → Stretches model set enforced next → Enforces model set (suc n) next

-- the last one is unsatisfiable; that the earlier ones are not, the points say
pub record Rounds (model : Program) (set : List Member) (n : ℕ) (last : List Member) : Type 0 where
  pub chain : Enforces model set n last
  pub unsatisfiable : IsUnsatisfiable model last

-- ---- the laws
-- each filter leaves one list
abbrev pub OneLateLaw : Type 0
OneLateLaw = (model : Program) (set k l : List Member) → Late model set k → Late model set l → k ≡ l

-- the early one too
abbrev pub OneEarlyLaw : Type 0
OneEarlyLaw = (model : Program) (set k l : List Member) → Early model set k → Early model set l → k ≡ l

-- what it leaves of an unsatisfiable set is irreducible
abbrev pub LateLaw : Type 0
LateLaw = (model : Program) (set k : List Member) → IsUnsatisfiable model set → Late model set k → IsIrreducible model k

-- the early one too
abbrev pub EarlyLaw : Type 0
EarlyLaw = (model : Program) (set k : List Member) → IsUnsatisfiable model set → Early model set k → IsIrreducible model k

-- as many rounds as an unsatisfiable part has members, and one more, are enough
abbrev pub RoundsLaw : Type 0
RoundsLaw = (model : Program) (set : List Member) (n : ℕ) (last part : List Member) → Rounds model set n last
    → IsPart part set → All (λ m. is_mark m ≡ false) part → IsUnsatisfiable model part → n ≤ suc (length part)

-- what "late" means: a member stays exactly where the kept members before it, with all after it, can be satisfied
abbrev pub LateMeansLaw : Type 0
LateMeansLaw = (model : Program) (front : List Member) (m : Member) (back kept : List Member) → IsInOrder (front ++ m ∷ back) → Late model (front ++ m ∷ back) kept
    → (has kept m ≡ true) ↔ IsSatisfiable model (filter (has kept) front ++ back)

-- what "early" means: a member stays exactly where all before it, with the kept members after it, can be satisfied
abbrev pub EarlyMeansLaw : Type 0
EarlyMeansLaw = (model : Program) (front : List Member) (m : Member) (back kept : List Member) → IsInOrder (front ++ m ∷ back) → Early model (front ++ m ∷ back) kept
    → (has kept m ≡ true) ↔ IsSatisfiable model (front ++ filter (has kept) back)

-- of unsatisfiable groups too
abbrev pub LateGroupsLaw : Type 0
LateGroupsLaw = (model : Program) (groups kept : List (List Member)) → ¬ (CanGroups model groups) → LateGroups model groups kept → IsIrreducibleFor (CanGroups model) kept

-- a set that a late filter may ask for is a front of what it leaves, with a back of the set
pub record IsFrontAndBack {X : Type 0} (whole_front whole_back test : List X) : Type 0 where
  pub front : List X
  pub back : List X
  pub joined : test ≡ front ++ back
  pub after : List X
  pub front_of : whole_front ≡ front ++ after
  pub before : List X
  pub back_of : whole_back ≡ before ++ back

abbrev pub LateTestLaw : Type 0
LateTestLaw = (model : Program) (set kept test : List Member) → Late model set kept → IsLateTest model set test → IsFrontAndBack kept set test

-- and one for an early filter is a front of the set, with a back of what it leaves
abbrev pub EarlyTestLaw : Type 0
EarlyTestLaw = (model : Program) (set kept test : List Member) → Early model set kept → IsEarlyTest model set test → IsFrontAndBack set kept test
