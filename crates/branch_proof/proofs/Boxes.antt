-- A split parts the box of its path, so a tree has fewer nodes than twice the box has points.
use Rattle.std.proofs.Common.{◌≡◌, ◌≢◌, ◌+◌, ◌*◌, ◌<◌, ◌≤◌, ◌==◌, ℕ, zero, suc, refl, sym, ◌∙◌, ap, subst, Bool, true, false, true≢false, cond, List, [], ◌∷◌, ◌++◌, length, Option, None, Some, arith, inl, inr, ne_eqb, eq-eqb}
use Rattle.std.specs.Prelude.{All, Contains, ◌⊎◌, unsigned_abs}
use Rattle.std.specs.List.{AllZip}
use Rattle.std.proofs.Math.Nat.{one-le-mul}
use Rattle.std.proofs.lemmas.Bool.{cases_lt, eqb-true}
use Rattle.std.proofs.lemmas.Int.{ints, by_lt_z}
use Rattle.std.proofs.lemmas.List.Elements.{All-cons, All-contains, All-head, All-nil, All-tail}
use Rattle.std.proofs.lemmas.Option.{none-some}
use lib.IntN.{ℤ, pos, negsuc, ◌+ℤ◌, ◌-ℤ◌}
use lib.Signed.{◌<ℤ◌, ◌≤ℤ◌}
use Rattle.rational.specs.Rational.{ℚ, IsWhole, floor, whole, ◌≤ℚ◌}
use Rattle.rational.specs.Linear.{Assignment}
use Rattle.rational.proofs.Order.{le_antisymm_ℚ, le_trans_ℚ, lt_irrefl_ℚ, lt-le_trans_ℚ}
use Rattle.rational.proofs.Whole.{floor-le, lt-floor, whole-le, whole-whole}
use Rattle.lp_model.specs.declared.members.Member.{Member}
use Rattle.lp_model.specs.declared.members.Member.TheVariants.{Lower, Upper}
use Rattle.lp_model.specs.Members.{has, is_mark, number}
use Rattle.lp_model.specs.MemberSets.{IsMemberFor}
use Rattle.lp_model.specs.Program.{Program, IsWellFormed}
use Rattle.lp_model.specs.Satisfaction.{Holds, IsAtLeast, IsAtMost, values_at}
use Rattle.lp_model.proofs.Sets.{contains_of_has}
use Rattle.certs.specs.declared.evidence.Branch.{Branch}
use Rattle.certs.specs.declared.evidence.Node.{Node}
use Rattle.certs.specs.declared.evidence.Node.TheVariants.{Split, Leaf}
use Rattle.certs.specs.Combination.{KeepsBranch, KeepsPath}
use Rattle.certs.specs.Plain.{number_in}
use Rattle.certs.specs.Proof.{at_least, at_most}
use Rattle.certs.specs.Trees.{TreeEnd, IsSplitNode, TreeGoesOn, child_paths, mark_test}
use Rattle.certs.proofs.PlainPoints.{plain_point}
use Rattle.branch_proof.specs.Pending.{AreKnown}
use Rattle.branch_proof.proofs.Forests.{known_push}
use Rattle.branch_proof.proofs.Nodes.{mark_known, marked_by}
use Rattle.branch_proof.proofs.TreeAnswers.{broken_parts}
use Rattle.evidence_laws.proofs.PlainPaths.{plain_path}
use Rattle.branch_proof.specs.Boxes.{Box, BoxLaw, IsBoxOf, SizeLaw, product_below, taken, volume, width}

-- ---- widths
difference : (a b : ℤ) → a ≤ℤ b → (n : ℕ) × (b -ℤ a ≡ pos n)
difference a b l = by (b -ℤ a) refl
  where
    by : (z : ℤ) → b -ℤ a ≡ z → (n : ℕ) × (b -ℤ a ≡ pos n)
    by (pos n) e = (n, e)
    by (negsuc n) e = absurd (omega (arith, ints, e))

width_parted : (l k u : ℤ) → l ≤ℤ k → k <ℤ u → width l u ≡ width l k + width (k +ℤ pos 1) u
width_parted l k u a b =
    let next : (k +ℤ pos 1) ≤ℤ u = omega (arith, ints) in
    let whole_way : l ≤ℤ u = omega (arith, ints) in
    by (difference l k a) (difference (k +ℤ pos 1) u next) (difference l u whole_way)
  where
    by : (n : ℕ) × (k -ℤ l ≡ pos n) → (m : ℕ) × (u -ℤ (k +ℤ pos 1) ≡ pos m) → (r : ℕ) × (u -ℤ l ≡ pos r) → width l u ≡ width l k + width (k +ℤ pos 1) u
    by (n, e) (m, f) (r, h) =
        let x : unsigned_abs (k -ℤ l) ≡ n = ap unsigned_abs e in
        let y : unsigned_abs (u -ℤ (k +ℤ pos 1)) ≡ m = ap unsigned_abs f in
        let z : unsigned_abs (u -ℤ l) ≡ r = ap unsigned_abs h in
        let sum : r ≡ n + m + 1 = omega (arith, ints, e, f, h) in
        omega (arith, x, y, z, sum)

-- ---- products
product_same : (n : ℕ) (f g : ℕ → ℕ) → ((i : ℕ) → i < n → f i ≡ g i) → product_below n f ≡ product_below n g
product_same zero f g h = refl
product_same (suc n) f g h =
    ap (λ (p : ℕ). p * f n) (product_same n f g (λ i l. h i (omega arith))) ∙ ap (λ (q : ℕ). product_below n g * q) (h n (omega arith))

product_positive : (n : ℕ) (f : ℕ → ℕ) → ((i : ℕ) → i < n → 1 ≤ f i) → 1 ≤ product_below n f
product_positive zero f h = omega arith
product_positive (suc n) f h = one-le-mul (product_positive n f (λ i l. h i (omega arith))) (h n (omega arith))

-- one factor is parted
product_parted : (n j : ℕ) (f g h : ℕ → ℕ) → j < n → f j ≡ g j + h j → ((i : ℕ) → i ≢ j → f i ≡ g i) → ((i : ℕ) → i ≢ j → f i ≡ h i) → product_below n f ≡ product_below n g + product_below n h
product_parted zero j f g h l e a b = absurd (omega arith)
product_parted (suc n) j f g h l e a b = by (λ m. product_parted n j f g h m e a b) (cases_lt j n)
  where
    by : (j < n → product_below n f ≡ product_below n g + product_below n h) → (j < n) ⊎ (n ≤ j) → product_below n f * f n ≡ product_below n g * g n + product_below n h * h n
    by front (inl m) =
        let other : n ≢ j = λ z. absurd (omega (arith, z, m)) in
        let rest = ap (λ (p : ℕ). p * f n) (front m) in
        let first = ap (λ (q : ℕ). product_below n g * q) (a n other) in
        let second = ap (λ (q : ℕ). product_below n h * q) (b n other) in
        omega (arith, rest, first, second)
    by front (inr m) =
        let same : j ≡ n = omega (arith, l, m) in
        let first = ap (λ (p : ℕ). p * g n) (product_same n f g (λ i k. a i (λ z. absurd (omega (arith, z, k, same))))) in
        let second = ap (λ (p : ℕ). p * h n) (product_same n f h (λ i k. b i (λ z. absurd (omega (arith, z, k, same))))) in
        let parts = ap (λ (q : ℕ). product_below n f * q) (subst (λ (i : ℕ). f i ≡ g i + h i) same e) in
        omega (arith, first, second, parts)

-- ---- halves of boxes
-- another number for one column
set_at : (ℕ → ℤ) → ℕ → ℤ → ℕ → ℤ
set_at f j k i = cond (i == j) k (f i)

set_at-same : (f : ℕ → ℤ) (j : ℕ) (k : ℤ) → set_at f j k j ≡ k
unfolding set_at
set_at-same f j k = ap (λ b. cond b k (f j)) (eq-eqb j j refl)

set_at-other : (f : ℕ → ℤ) (j : ℕ) (k : ℤ) (i : ℕ) → i ≢ j → set_at f j k i ≡ f i
unfolding set_at
set_at-other f j k i n = ap (λ b. cond b k (f i)) (ne_eqb i j n)

lower_half : Box → ℕ → ℤ → Box
lower_half box j k = record { lower = box.lower; upper = set_at box.upper j k }

upper_half : Box → ℕ → ℤ → Box
upper_half box j k = record { lower = set_at box.lower j (k +ℤ pos 1); upper = box.upper }

split_last : (P : Branch → Type 0) (path : List Branch) (b : Branch) → All P (path ++ b ∷ []) → All P path × P b
split_last P [] b h = (All-nil P, All-head P b [] h)
split_last P (c ∷ path) b h =
    let rest = split_last P path b (All-tail P c (path ++ b ∷ []) h) in
    (All-cons P c path (All-head P c (path ++ b ∷ []) h) rest.0, rest.1)

module _ (model : Program) (set : List Member) where
  abbrev columns : ℕ
  columns = length model.columns

  abbrev factor : Box → ℕ → ℕ
  factor box j = cond (mark_test model set j) (width (box.lower j) (box.upper j)) 1

  abbrev points : Box → ℕ
  points box = volume model set box

  some_points : (box : Box) → 1 ≤ points box
  some_points box = product_positive columns (factor box) (λ i l. by i (mark_test model set i))
    where
      by : (i : ℕ) (b : Bool) → 1 ≤ cond b (width (box.lower i) (box.upper i)) 1
      by i true = omega arith
      by i false = omega arith

  points_parted : (box : Box) (j : ℕ) (k : ℤ) → mark_test model set j ≡ true → j < columns → box.lower j ≤ℤ k → k <ℤ box.upper j → points box ≡ points (lower_half box j k) + points (upper_half box j k)
  unfolding lower_half upper_half
  points_parted box j k marked on a b =
      product_parted columns j (factor box) (factor (lower_half box j k)) (factor (upper_half box j k)) on
      (ap (λ t. cond t (width (box.lower j) (box.upper j)) 1) marked
      ∙ width_parted (box.lower j) k (box.upper j) a b
      ∙ ap (λ (z : ℤ). width (box.lower j) z + width (k +ℤ pos 1) (box.upper j)) (sym (set_at-same box.upper j k))
      ∙ ap (λ (z : ℤ). width (box.lower j) (set_at box.upper j k j) + width z (box.upper j)) (sym (set_at-same box.lower j (k +ℤ pos 1)))
      ∙ sym (ap (λ t. cond t (width (box.lower j) (set_at box.upper j k j)) 1 + cond t (width (set_at box.lower j (k +ℤ pos 1) j) (box.upper j)) 1) marked))
      (λ i n. ap (λ (z : ℤ). cond (mark_test model set i) (width (box.lower i) z) 1) (sym (set_at-other box.upper j k i n)))
      (λ i n. ap (λ (z : ℤ). cond (mark_test model set i) (width z (box.upper i)) 1) (sym (set_at-other box.lower j (k +ℤ pos 1) i n)))

  -- ---- points in boxes
  abbrev IsIn : Box → Assignment → Type 0
  IsIn box x = (j : ℕ) → mark_test model set j ≡ true → (whole (box.lower j) ≤ℚ x j) × (x j ≤ℚ whole (box.upper j))

  -- what keeps a path in one box is in another
  record Bounds (root : Box) (path : List Branch) (box : Box) : Type 0 where
    known : AreKnown columns path
    within : (x : Assignment) → IsIn root x → KeepsPath x path → IsIn box x

  root_bounds : (root : Box) → Bounds root [] root
  root_bounds root = record { known = All-nil (λ (b : Branch). b.column < columns); within = λ x h k. h }

  lower_bounds : (root : Box) (path : List Branch) (box : Box) (j : ℕ) (k : ℤ) → j < columns → Bounds root path box → Bounds root (path ++ at_most j k ∷ []) (lower_half box j k)
  unfolding lower_half set_at
  lower_bounds root path box j k on h = record {
    known = known_push columns path (at_most j k) h.known on;
    within = λ x inside kept. let both = split_last (KeepsBranch x) path (at_most j k) kept in λ i m. (let old = h.within x inside both.0 i m in (old.0, by x i (i == j) refl both.1 old.1));
  }
    where
      by : (x : Assignment) (i : ℕ) (b : Bool) → (i == j) ≡ b → x j ≤ℚ whole k → x i ≤ℚ whole (box.upper i) → x i ≤ℚ whole (cond b k (box.upper i))
      by x i true e at old = subst (λ (n : ℕ). x n ≤ℚ whole k) (sym (eqb-true i j e)) at
      by x i false e at old = old

  upper_bounds : (root : Box) (path : List Branch) (box : Box) (j : ℕ) (k : ℤ) → j < columns → Bounds root path box → Bounds root (path ++ at_least j (k +ℤ pos 1) ∷ []) (upper_half box j k)
  unfolding upper_half set_at
  upper_bounds root path box j k on h = record {
    known = known_push columns path (at_least j (k +ℤ pos 1)) h.known on;
    within = λ x inside kept. let both = split_last (KeepsBranch x) path (at_least j (k +ℤ pos 1)) kept in λ i m. (let old = h.within x inside both.0 i m in (by x i (i == j) refl both.1 old.0, old.1));
  }
    where
      by : (x : Assignment) (i : ℕ) (b : Bool) → (i == j) ≡ b → whole (k +ℤ pos 1) ≤ℚ x j → whole (box.lower i) ≤ℚ x i → whole (cond b (k +ℤ pos 1) (box.lower i)) ≤ℚ x i
      by x i true e at old = subst (λ (n : ℕ). whole (k +ℤ pos 1) ≤ℚ x n) (sym (eqb-true i j e)) at
      by x i false e at old = old

  -- a bound that the set has is one of the program
  bound_there : (m : Member) (q : ℚ) → number_in model set m ≡ Some q → Contains set m × (number model m ≡ Some q)
  bound_there m q e = by (has set m) refl e
    where
      by : (b : Bool) → has set m ≡ b → cond b (number model m) None ≡ Some q → Contains set m × (number model m ≡ Some q)
      by true h f = (contains_of_has set m h, f)
      by false h f = absurd (none-some q f)

  -- ---- splits
  module _ (root : Box) (pivots : ℕ) (formed : IsWellFormed model) (members : All (IsMemberFor (length model.rows) columns) set) (boxed : IsBoxOf model set root) where
    -- the point of a node is in the box
    inside : (path : List Branch) (j : ℕ) (k : ℤ) (h : IsSplitNode model set pivots path j k) → IsIn root (values_at h.values)
    inside path j k h i marked =
        let x : Assignment = values_at h.values in
        let holds = plain_point model set path pivots h.values formed members h.settles in
        let lower = bound_there (Lower i) (whole (root.lower i)) (boxed.lower_is i marked) in
        let upper = bound_there (Upper i) (whole (root.upper i)) (boxed.upper_is i marked) in (
          subst (λ (o : Option ℚ). IsAtLeast o (x i)) lower.1 (All-contains (λ m. is_mark m ≡ false → Holds model x m) set (Lower i) holds lower.0 refl),
          subst (λ (o : Option ℚ). IsAtMost o (x i)) upper.1 (All-contains (λ m. is_mark m ≡ false → Holds model x m) set (Upper i) holds upper.0 refl),
        )

    record IsParted (box : Box) (j : ℕ) (k : ℤ) : Type 0 where
      marked : mark_test model set j ≡ true
      on : j < columns
      from : box.lower j ≤ℤ k
      to : k <ℤ box.upper j

    floor_from : (l : ℤ) (q : ℚ) → whole l ≤ℚ q → l ≤ℤ floor q
    floor_from l q h =
        by_lt_z (floor q) l (λ m. let next : (floor q +ℤ pos 1) ≤ℤ l = omega (arith, ints) in lt_irrefl_ℚ (lt-le_trans_ℚ (lt-floor q) (le_trans_ℚ (whole-le (floor q +ℤ pos 1) l next) h))) (λ m. m)

    floor_to : (u : ℤ) (q : ℚ) → (IsWhole q → ⊥) → q ≤ℚ whole u → floor q <ℤ u
    floor_to u q n h =
        by_lt_z (floor q) u (λ m. m)
        (λ m. let same : q ≡ whole u = le_antisymm_ℚ h (le_trans_ℚ (whole-le u (floor q) m) (floor-le q)) in absurd (n (subst IsWhole (sym same) (whole-whole u))))

    parted : (path : List Branch) (box : Box) (j : ℕ) (k : ℤ) → Bounds root path box → IsSplitNode model set pivots path j k → IsParted box j k
    parted path box j k bounds h =
        let x : Assignment = values_at h.values in
        let parts = broken_parts model set h.values j h.least in
        let kept = plain_path model set path pivots h.values formed bounds.known h.settles in
        let here = bounds.within x (inside path j k h) kept j parts.0 in
        let broken : IsWhole (x j) → ⊥ = λ e. true≢false (sym (eq-eqb (x j).den 1 e) ∙ parts.1) in
        record {
          marked = parts.0;
          on = mark_known model set j (marked_by model set j parts.0);
          from = subst (λ (z : ℤ). box.lower j ≤ℤ z) (sym h.at) (floor_from (box.lower j) (x j) here.0);
          to = subst (λ (z : ℤ). z <ℤ box.upper j) (sym h.at) (floor_to (box.upper j) (x j) broken here.1);
        }

    -- ---- the nodes of a tree
    all_points : List Box → ℕ
    all_points [] = 0
    all_points (box ∷ boxes) = points box + all_points boxes

    -- one node more where the tree ends at a node
    spare : TreeEnd → ℕ
    spare (TreeEnd.Found values) = 1
    spare TreeEnd.Closed = 0
    spare (TreeEnd.TooWide on step operation) = 1
    spare (TreeEnd.OutOfPivots on) = 1
    spare TreeEnd.OutOfNodes = 1

    spare_most : (end : TreeEnd) → spare end ≤ 1
    unfolding spare
    spare_most (TreeEnd.Found values) = omega arith
    spare_most TreeEnd.Closed = omega arith
    spare_most (TreeEnd.TooWide on step operation) = omega arith
    spare_most (TreeEnd.OutOfPivots on) = omega arith
    spare_most TreeEnd.OutOfNodes = omega arith

    closed_spare : (end : TreeEnd) → end ≡ TreeEnd.Closed → spare end ≡ 0
    unfolding spare
    closed_spare end e = ap spare e

    each_some : (boxes : List Box) → length boxes ≤ all_points boxes
    unfolding all_points
    each_some [] = omega arith
    each_some (box ∷ boxes) = let rest = each_some boxes in let some = some_points box in omega (arith, rest, some)

    ends_within : (box : Box) (boxes : List Box) (end : TreeEnd) → spare end + length (box ∷ boxes) ≤ 2 * all_points (box ∷ boxes)
    unfolding all_points
    ends_within box boxes end = let rest = each_some boxes in let some = some_points box in let most = spare_most end in omega (arith, rest, some, most)

    few_nodes : (most : ℕ) (paths : List (List Branch)) (boxes : List Box) (nodes : List Node) (end : TreeEnd) → AllZip (Bounds root) paths boxes → TreeGoesOn model set pivots most paths nodes end
        → (length nodes + spare end) + length boxes ≤ 2 * all_points boxes
    unfolding all_points
    few_nodes most [] [] [] end z h = let none : spare end ≡ 0 = closed_spare end h in omega (arith, none)
    few_nodes most [] [] (node ∷ nodes) end z h = absurd h
    few_nodes most [] (box ∷ boxes) nodes end z h = absurd z
    few_nodes most (path ∷ paths) [] nodes end z h = absurd z
    few_nodes most (path ∷ paths) (box ∷ boxes) [] end z h = let within = ends_within box boxes end in omega (arith, within)
    few_nodes zero (path ∷ paths) (box ∷ boxes) (node ∷ nodes) end z h = absurd h
    few_nodes (suc most) (path ∷ paths) (box ∷ boxes) (Leaf combo ∷ nodes) end z h =
        let rest = few_nodes most paths boxes nodes end z.1 h.1 in
        let some = some_points box in
        omega (arith, rest, some)
    few_nodes (suc most) (path ∷ paths) (box ∷ boxes) (Split j k ∷ nodes) end z h =
        let p = parted path box j k z.0 h.0 in
        let lower : Box = lower_half box j k in
        let upper : Box = upper_half box j k in
        let rest = few_nodes most ((path ++ at_most j k ∷ []) ∷ (path ++ at_least j (k +ℤ pos 1) ∷ []) ∷ paths) (lower ∷ upper ∷ boxes) nodes end
        (lower_bounds root path box j k p.on z.0, (upper_bounds root path box j k p.on z.0, z.1)) h.1 in
        let sum = points_parted box j k p.marked p.on p.from p.to in
        omega (arith, rest, sum)

    -- where none may be taken more, all that may be were
    all_taken : (most : ℕ) (paths : List (List Branch)) (nodes : List Node) → TreeGoesOn model set pivots most paths nodes TreeEnd.OutOfNodes → length nodes ≡ most
    all_taken most [] [] h = absurd (let e : TreeEnd.OutOfNodes ≡ TreeEnd.Closed = h in cc)
    all_taken most [] (node ∷ nodes) h = absurd h
    all_taken zero (path ∷ paths) [] h = refl
    all_taken (suc most) (path ∷ paths) [] h = absurd h
    all_taken zero (path ∷ paths) (node ∷ nodes) h = absurd h
    all_taken (suc most) (path ∷ paths) (node ∷ nodes) h = let rest = all_taken most (child_paths path node ++ paths) nodes h.1 in omega (arith, rest)

    tree_size : (most : ℕ) (nodes : List Node) (end : TreeEnd) → TreeGoesOn model set pivots most ([] ∷ []) nodes end → (length nodes + spare end) + 1 ≤ 2 * volume model set root
    unfolding all_points
    tree_size most nodes end h = let size = few_nodes most ([] ∷ []) (root ∷ []) nodes end (root_bounds root, tt) h in omega (arith, size)

    tree_below : (most : ℕ) (nodes : List Node) (end : TreeEnd) → TreeGoesOn model set pivots most ([] ∷ []) nodes end → taken nodes end < 2 * volume model set root
    unfolding spare
    tree_below most nodes (TreeEnd.Found values) h = let size = tree_size most nodes (TreeEnd.Found values) h in omega (arith, size)
    tree_below most nodes TreeEnd.Closed h = let size = tree_size most nodes TreeEnd.Closed h in omega (arith, size)
    tree_below most nodes (TreeEnd.TooWide on step operation) h = let size = tree_size most nodes (TreeEnd.TooWide on step operation) h in omega (arith, size)
    tree_below most nodes (TreeEnd.OutOfPivots on) h = let size = tree_size most nodes (TreeEnd.OutOfPivots on) h in omega (arith, size)
    tree_below most nodes TreeEnd.OutOfNodes h = let size = tree_size most nodes TreeEnd.OutOfNodes h in omega (arith, size)

    never_out : (most : ℕ) (nodes : List Node) → TreeGoesOn model set pivots most ([] ∷ []) nodes TreeEnd.OutOfNodes → 2 * volume model set root ≤ most → ⊥
    never_out most nodes h l = let size = tree_below most nodes TreeEnd.OutOfNodes h in let all = all_taken most ([] ∷ []) nodes h in omega (arith, size, all, l)

pub size_law : SizeLaw
size_law model set box pivots most nodes end formed members boxed h = tree_below model set box pivots formed members boxed most nodes end h

pub box_law : BoxLaw
box_law model set box pivots most formed members boxed h l = never_out model set box pivots formed members boxed most h.nodes h.tree l
