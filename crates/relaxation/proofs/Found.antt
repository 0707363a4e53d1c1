-- Members that are found among the soft ones of a set, one by one.
use Rattle.std.proofs.Common.{◌≡◌, ◌+◌, ◌<◌, refl, sym, ◌∙◌, ap, subst, ℕ, suc, Bool, true, false, cond, not, ◌&&◌, ◌||◌, List, [], ◌∷◌, ◌++◌, append_assoc, append-nil, take, length, filter, get_or, arith}
use Rattle.std.specs.Prelude.{All}
use Rattle.std.proofs.Math.Seq.{take-suc}
use Rattle.std.proofs.Math.Bool.{or_assoc}
use Rattle.std.proofs.lemmas.List.Elements.{All-filter, filter-append}
use Rattle.rational.specs.Rational.{ℚ, lt_q, zero_ℚ}
use Rattle.lp_model.specs.declared.members.Member.{Member}
use Rattle.lp_model.specs.declared.members.Member.TheVariants.{Lower}
use Rattle.lp_model.specs.Members.{has, is_same}
use Rattle.lp_model.specs.MemberSets.{IsMemberFor, IsPossibleIn, SetValue, possible_in, set_with}
use Rattle.lp_model.proofs.Sets.{has_of_contains, same_members, same_self}
use Rattle.certs.specs.Elastic.{soft_members}
use Rattle.certs.specs.Named.{IsOfSize, IsPartBy}
use Rattle.certs.proofs.HasLists.{agree_on, has_of_filter}
use Rattle.certs.proofs.Parted.{filter_both, part_with}
use Rattle.certs.proofs.Possible.{all_possible}
use Rattle.relaxation.specs.Stretching.{IsTestOf}
use Rattle.relaxation.proofs.Lists.{each, one_default}

-- ---- the list of the soft members
pub listed_more : (enforced : List Member) (m : Member) (list rest all : List Member) → has enforced m ≡ false → list ++ soft_members (m ∷ rest) enforced ≡ all → (list ++ m ∷ []) ++ soft_members rest enforced ≡ all
listed_more enforced m list rest all e h =
    append_assoc list (m ∷ []) (soft_members rest enforced)
    ∙ ap (λ b. list ++ cond (not b) (m ∷ soft_members rest enforced) (soft_members rest enforced)) (sym e)
    ∙ h

pub listed_same : (enforced : List Member) (m : Member) (list rest all : List Member) → has enforced m ≡ true → list ++ soft_members (m ∷ rest) enforced ≡ all → list ++ soft_members rest enforced ≡ all
listed_same enforced m list rest all e h = ap (λ b. list ++ cond (not b) (m ∷ soft_members rest enforced) (soft_members rest enforced)) (sym e) ∙ h

-- members of a set may be in one of its size
pub possible_too : (set other : SetValue) → IsOfSize set other → All (IsPossibleIn set) set.members → All (IsPossibleIn other) set.members
possible_too set other size h =
    subst (λ r. All (IsMemberFor r other.columns) set.members) (sym size.rows) (subst (λ c. All (IsMemberFor set.rows c) set.members) (sym size.columns) h)

-- ---- what a list has with one member more
flipped : (m n : Member) → is_same m n ≡ is_same n m
flipped m n = by (is_same m n) refl (is_same n m) refl
  where
    by : (a : Bool) → is_same m n ≡ a → (b : Bool) → is_same n m ≡ b → is_same m n ≡ is_same n m
    by true e b f = e ∙ sym (ap (λ z. is_same n z) (same_members m n e) ∙ same_self n)
    by false e true f = ap (λ z. is_same m z) (same_members n m f) ∙ same_self m ∙ sym f
    by false e false f = e ∙ sym f

has_last : (list : List Member) (m n : Member) → has (list ++ m ∷ []) n ≡ (has list n || is_same n m)
has_last [] m n = by (is_same m n) ∙ flipped m n
  where
    by : (b : Bool) → (b || false) ≡ b
    by true = refl
    by false = refl
has_last (k ∷ list) m n = ap (λ b. is_same k n || b) (has_last list m n) ∙ sym (or_assoc (is_same k n) (has list n) (is_same n m))

-- by tests that agree, the same part
part_ext : (set used : SetValue) (p q : Member → Bool) → ((m : Member) → p m ≡ q m) → IsPartBy set p used → IsPartBy set q used
part_ext set used p q h is = is ∙ ap (λ (l : List Member). record set { members = l }) (agree_on (λ m. has set.members m && p m) (λ m. has set.members m && q m) (possible_in set) (λ m c. ap (λ b. has set.members m && b) (h m)))

module _ (set found : SetValue) (soft : List Member) (test : Member → Bool) (i : ℕ) (d : Member) (l : i < length soft) (part : IsPartBy set (has (filter test (take i soft))) found) where
  more : filter test (take (i + 1) soft) ≡ filter test (take i soft) ++ cond (test (get_or soft i d)) (get_or soft i d ∷ []) []
  more = ap (λ k. filter test (take k soft)) (let e : i + 1 ≡ suc i = omega arith in e) ∙ ap (filter test) (take-suc soft i d l) ∙ filter-append test (take i soft) (get_or soft i d ∷ [])

  -- the next one is found
  pub found_more : has set.members (get_or soft i d) ≡ true → test (get_or soft i d) ≡ true → IsPartBy set (has (filter test (take (i + 1) soft))) (set_with found (get_or soft i d))
  found_more there e =
      let m : Member = get_or soft i d in
      let list : List Member = filter test (take i soft) in
      part_ext set (set_with found m) (λ n. has list n || is_same n m) (has (filter test (take (i + 1) soft)))
      (λ n. sym (ap (λ k. has k n) (more ∙ ap (λ b. list ++ cond b (m ∷ []) []) e) ∙ has_last list m n))
      (part_with set found (has list) m there part)

  -- or not
  pub found_same : test (get_or soft i d) ≡ false → IsPartBy set (has (filter test (take (i + 1) soft))) found
  found_same e =
      let list : List Member = filter test (take i soft) in
      subst (λ k. IsPartBy set (has k) found) (sym (more ∙ ap (λ b. list ++ cond b (get_or soft i d ∷ []) []) e ∙ append-nil list)) part

-- by its value
module _ (set found : SetValue) (soft : List Member) (values : List ℚ) (i : ℕ) (v : ℚ) (count : length values ≡ length soft) (l : i < length soft) (is : v ≡ get_or values i v) (test : Member → Bool) (tests : IsTestOf soft values test)
    (part : IsPartBy set (has (filter test (take i soft))) found) where
  told : lt_q zero_ℚ v ≡ test (get_or soft i (Lower 0))
  told = ap (lt_q zero_ℚ) (is ∙ one_default values i v zero_ℚ (subst (λ n. i < n) (sym count) l)) ∙ tests i l

  pub above : (m : Member) → m ≡ get_or soft i m → All (λ m. has set.members m ≡ true) soft → lt_q zero_ℚ v ≡ true → IsPartBy set (has (filter test (take (i + 1) soft))) (set_with found m)
  above m same there e =
      subst (λ k. IsPartBy set (has (filter test (take (i + 1) soft))) (set_with found k)) (one_default soft i (Lower 0) m l ∙ sym same)
      (found_more set found soft test i (Lower 0) l part (there i (Lower 0) l) (sym told ∙ e))

  pub not_above : lt_q zero_ℚ v ≡ false → IsPartBy set (has (filter test (take (i + 1) soft))) found
  not_above e = found_same set found soft test i (Lower 0) l part (sym told ∙ e)

-- the soft members are of the set
pub soft_there : (set : SetValue) (enforced : List Member) → All (λ m. has set.members m ≡ true) (soft_members set.members enforced)
soft_there set enforced = All-filter (λ m. not (has enforced m)) (λ m. has set.members m ≡ true) set.members (each (λ m. has set.members m ≡ true) set.members (λ m c. has_of_contains set.members m c))

pub soft_possible : (set found : SetValue) (enforced : List Member) → IsOfSize set found → set.members ≡ filter (has set.members) (possible_in set) → All (IsPossibleIn found) (soft_members set.members enforced)
soft_possible set found enforced size possible = All-filter (λ m. not (has enforced m)) (IsPossibleIn found) set.members (possible_too set found size (all_possible set possible))

-- ---- all that are found, as a list
pub found_all : (set found : SetValue) (enforced : List Member) (test : Member → Bool) → set.members ≡ filter (has set.members) (possible_in set)
    → IsPartBy set (has (filter test (soft_members set.members enforced))) found → found ≡ record set { members = filter test (soft_members set.members enforced) }
found_all set found enforced test possible part =
    let soft : List Member = soft_members set.members enforced in
    let both : Member → Bool = λ m. not (has enforced m) && test m in
    let as_one : filter test soft ≡ filter both set.members = filter_both (λ m. not (has enforced m)) test set.members in
    part
    ∙ ap (λ (k : List Member). record set { members = k })
    (sym (filter_both (has set.members) (has (filter test soft)) (possible_in set))
    ∙ ap (filter (has (filter test soft))) (sym possible)
    ∙ ap (λ k. filter (has k) set.members) as_one
    ∙ agree_on (has (filter both set.members)) both set.members (λ m c. has_of_filter both set.members m c)
    ∙ sym as_one)
