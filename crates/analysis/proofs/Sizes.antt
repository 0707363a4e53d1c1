-- How many members are soft, and sizes that do not overflow.
use Rattle.std.proofs.Common.{◌≡◌, ◌+◌, ◌*◌, ◌≤◌, sym, ap, subst, ℕ, Bool, true, false, true≢false, cond, not, List, ◌∷◌, filter, length, arith, mul-le-mul}
use Rattle.std.specs.Prelude.{All}
use Rattle.lp_model.specs.declared.members.Member.{Member}
use Rattle.lp_model.specs.Program.{Program}
use Rattle.lp_model.specs.Members.{has}
use Rattle.lp_model.specs.MemberSets.{SetValue, IsMemberFor, IsPossibleIn, place_count, possible_in}
use Rattle.lp_model.proofs.Marked.{length-members_for}
use Rattle.lp_model.specs.Shown.{most_columns, most_members, most_rows}
use Rattle.certs.specs.Checks.{IsSetOf}
use Rattle.certs.specs.Elastic.{soft_members}
use Rattle.certs.specs.Named.{IsOfSize}
use Rattle.certs.specs.Plain.{rows_in}
use Rattle.certs.proofs.Possible.{all_possible}
use Rattle.analysis.proofs.Objectives.{few_rows, kept_few}

-- the members of a set may be in another one of its size
pub possible_too : (set other : SetValue) → IsOfSize set other → set.members ≡ filter (has set.members) (possible_in set) → All (IsPossibleIn other) set.members
possible_too set other same possible =
    subst (λ n. All (IsMemberFor n other.columns) set.members) (sym same.rows)
    (subst (λ n. All (IsMemberFor set.rows n) set.members) (sym same.columns) (all_possible set possible))

-- ---- the count
-- one member more, which is soft
pub counted_more : (enforced : List Member) (m : Member) (rest : List Member) (count total : ℕ) → has enforced m ≡ false
    → count + length (soft_members (m ∷ rest) enforced) ≡ total → (count + 1) + length (soft_members rest enforced) ≡ total
counted_more enforced m rest count total e h = by (has enforced m) e h
  where
    by : (b : Bool) → b ≡ false → count + length (cond (not b) (m ∷ soft_members rest enforced) (soft_members rest enforced)) ≡ total → (count + 1) + length (soft_members rest enforced) ≡ total
    by false e h = omega (arith, h)
    by true e h = absurd (true≢false e)

-- or which is enforced
pub counted_same : (enforced : List Member) (m : Member) (rest : List Member) (count total : ℕ) → has enforced m ≡ true
    → count + length (soft_members (m ∷ rest) enforced) ≡ total → count + length (soft_members rest enforced) ≡ total
counted_same enforced m rest count total e h = by (has enforced m) e h
  where
    by : (b : Bool) → b ≡ true → count + length (cond (not b) (m ∷ soft_members rest enforced) (soft_members rest enforced)) ≡ total → count + length (soft_members rest enforced) ≡ total
    by true e h = h
    by false e h = absurd (true≢false (sym e))

-- ---- bounds
-- no more are soft than the set has
pub soft_few : (set enforced : List Member) → length (soft_members set enforced) ≤ length set
soft_few set enforced = kept_few (λ m. not (has enforced m)) set

-- a set of few rows and columns has few members
pub members_few : (set : SetValue) → set.members ≡ filter (has set.members) (possible_in set) → set.rows ≤ most_rows → set.columns ≤ most_columns → length set.members ≤ most_members
members_few set possible rows columns =
    let short : length (filter (has set.members) (possible_in set)) ≤ length (possible_in set) = kept_few (has set.members) (possible_in set) in
    let all : length (possible_in set) ≡ place_count set.rows set.columns = length-members_for set.rows set.columns in
    let same : length set.members ≡ length (filter (has set.members) (possible_in set)) = ap length possible in
    omega (arith, short, all, same, rows, columns)

-- so the rows of an enforced part, and the soft members
pub rows_and_soft : (model : Program) (set : SetValue) (enforced : List Member) → IsSetOf model set → set.members ≡ filter (has set.members) (possible_in set) → length model.rows ≤ most_rows → length model.columns ≤ most_columns
    → (length (rows_in model enforced) ≤ most_rows) × (length (soft_members set.members enforced) ≤ most_members)
rows_and_soft model set enforced same possible rows columns =
    let short : set.rows ≤ most_rows = subst (λ n. n ≤ most_rows) (sym same.rows) rows in
    let narrow : set.columns ≤ most_columns = subst (λ n. n ≤ most_columns) (sym same.columns) columns in
    let few : length set.members ≤ most_members = members_few set possible short narrow in
    let soft : length (soft_members set.members enforced) ≤ length set.members = soft_few set.members enforced in
    let kept : length (rows_in model enforced) ≤ length model.rows = few_rows model enforced in
    (omega (arith, kept, rows), omega (arith, soft, few))

-- and so the size of its dictionary
pub size_few : (rows soft columns : ℕ) → rows ≤ most_rows → soft ≤ most_members → columns ≤ most_columns → (rows + soft + 1) * (columns + soft) ≤ (most_rows + most_members + 1) * (most_columns + most_members)
size_few rows soft columns a b c =
    let high : rows + soft + 1 ≤ most_rows + most_members + 1 = omega (arith, a, b) in
    let broad : columns + soft ≤ most_columns + most_members = omega (arith, b, c) in
    mul-le-mul high broad
