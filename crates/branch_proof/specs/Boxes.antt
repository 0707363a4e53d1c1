-- Trees of sets whose columns with marks stand in a box of whole numbers.
use Rattle.std.specs.Prelude.{◌≡◌, ℕ, zero, suc, ◌+◌, ◌*◌, ◌<◌, ◌≤◌, ℤ, ◌-ℤ◌, ◌≤ℤ◌, unsigned_abs, true, cond, List, length, Some, All}
use Rattle.rational.specs.Rational.{whole}
use Rattle.lp_model.specs.declared.members.Member.{Member}
use Rattle.lp_model.specs.declared.members.Member.TheVariants.{Lower, Upper}
use Rattle.lp_model.specs.Program.{Program, IsWellFormed}
use Rattle.lp_model.specs.MemberSets.{IsMemberFor}
use Rattle.certs.specs.declared.evidence.Node.{Node}
use Rattle.certs.specs.Plain.{number_in}
use Rattle.certs.specs.Trees.{TreeEnd, HasTree, IsTree, mark_test}

-- whole numbers for the columns, from the lower to the upper one
pub record Box : Type 0 where
  pub lower : ℕ → ℤ
  pub upper : ℕ → ℤ

-- Each column of which the program and the set have the mark has both bounds in the set; they are the box's, and do not cross.
pub record IsBoxOf (model : Program) (set : List Member) (box : Box) : Type 0 where
  pub lower_is : (j : ℕ) → mark_test model set j ≡ true → number_in model set (Lower j) ≡ Some (whole (box.lower j))
  pub upper_is : (j : ℕ) → mark_test model set j ≡ true → number_in model set (Upper j) ≡ Some (whole (box.upper j))
  pub ordered : (j : ℕ) → mark_test model set j ≡ true → box.lower j ≤ℤ box.upper j

-- how many whole numbers there are from one to another that is not below it
abbrev pub width : ℤ → ℤ → ℕ
width lower upper = unsigned_abs (upper -ℤ lower) + 1

-- the product of the values at 0, 1 up to n - 1
abbrev pub product_below : ℕ → (ℕ → ℕ) → ℕ
product_below zero f = 1
product_below (suc n) f = product_below n f * f n

-- how many points the box has in the columns with such marks
abbrev pub volume : Program → List Member → Box → ℕ
volume model set box = product_below (length model.columns) (λ j. cond (mark_test model set j) (width (box.lower j) (box.upper j)) 1)

-- how many nodes a tree takes: those that it lists, and one more where it ends at the run of a node
abbrev pub taken : List Node → TreeEnd → ℕ
taken nodes (TreeEnd.Found values) = length nodes + 1
taken nodes TreeEnd.Closed = length nodes
taken nodes (TreeEnd.TooWide on step operation) = length nodes + 1
taken nodes (TreeEnd.OutOfPivots on) = length nodes + 1
taken nodes TreeEnd.OutOfNodes = length nodes

-- they are fewer than twice the points of the box
abbrev pub SizeLaw : Type 0
SizeLaw = (model : Program) (set : List Member) (box : Box) (pivots most : ℕ) (nodes : List Node) (end : TreeEnd) → IsWellFormed model
    → All (IsMemberFor (length model.rows) (length model.columns)) set → IsBoxOf model set box → IsTree model set pivots most nodes end → taken nodes end < 2 * volume model set box

-- with so many to take a tree never runs out of them
abbrev pub BoxLaw : Type 0
BoxLaw = (model : Program) (set : List Member) (box : Box) (pivots most : ℕ) → IsWellFormed model
    → All (IsMemberFor (length model.rows) (length model.columns)) set → IsBoxOf model set box → HasTree model set pivots most TreeEnd.OutOfNodes → 2 * volume model set box ≤ most → ⊥
