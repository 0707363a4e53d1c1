-- Members taken out of a set, and put back.
use Rattle.std.proofs.Common.{◌≡◌, refl, sym, ◌∙◌, ap, subst, Bool, true, false, cond, not, ◌&&◌, List, [], ◌∷◌, ◌++◌, filter}
use Rattle.std.specs.Prelude.{Contains}
use Rattle.std.proofs.lemmas.List.Elements.{All-contains, All-contains_itself, All-filter}
use Rattle.std.proofs.lemmas.List.Kept.{AllPairs-filter}
use Rattle.lp_model.specs.declared.members.Member.{Member}
use Rattle.lp_model.specs.Members.{comes_before, has, is_same, IsInOrder}
use Rattle.lp_model.specs.MemberSets.{SetValue, IsPossibleIn, possible_in, set_without}
use Rattle.lp_model.specs.Satisfaction.{IsPart}
use Rattle.lp_model.proofs.Marked.{is_what_it_has}
use Rattle.lp_model.proofs.Walk.{list_without}
use Rattle.certs.proofs.Possible.{all_possible}

-- each member of a set may be in it
pub is_possible : (set : SetValue) (m : Member) → set.members ≡ filter (has set.members) (possible_in set) → Contains set.members m → IsPossibleIn set m
is_possible set m is c = All-contains (IsPossibleIn set) set.members m (all_possible set is) c

-- what is left without a member is a part
pub rest_is_part : (set : SetValue) (m : Member) → IsPart (set_without set m).members set.members
rest_is_part set m = All-filter (λ n. not (is_same n m)) (Contains set.members) set.members (All-contains_itself set.members)

-- what is left of possible members is possible, too
filter_twice : {A : Type 0} (p q : A → Bool) (xs : List A) → filter q (filter p xs) ≡ filter (λ x. p x && q x) xs
filter_twice p q [] = refl
filter_twice {A} p q (x ∷ xs) = go (p x) (filter_twice p q xs)
  where
    go : (b : Bool) → filter q (filter p xs) ≡ filter (λ x. p x && q x) xs → filter q (cond b (x ∷ filter p xs) (filter p xs)) ≡ cond (b && q x) (x ∷ filter (λ x. p x && q x) xs) (filter (λ x. p x && q x) xs)
    go true rest = ap (λ ys. cond (q x) (x ∷ ys) ys) rest
    go false rest = rest

pub rest_is_possible : (set : SetValue) (m : Member) → set.members ≡ filter (has set.members) (possible_in set) → (set_without set m).members ≡ filter (has (set_without set m).members) (possible_in set)
rest_is_possible set m is =
    let test : Member → Bool = λ n. not (is_same n m) in
    let both : Member → Bool = λ n. has set.members n && test n in
    let joined : filter test set.members ≡ filter both (possible_in set) = ap (filter test) is ∙ filter_twice (has set.members) test (possible_in set) in
    joined ∙ (is_what_it_has both (possible_in set) ∙ ap (λ (l : List Member). filter (has l) (possible_in set)) (sym joined))

-- and in order
pub rest_in_order : (set : SetValue) (m : Member) → IsInOrder set.members → IsInOrder (set_without set m).members
rest_in_order set m order = AllPairs-filter (λ a b. comes_before a b ≡ true) (λ n. not (is_same n m)) set.members order

-- a set that is so, without that member
pub set_without_middle : (set : SetValue) (front : List Member) (m : Member) (back : List Member) → set.members ≡ front ++ m ∷ back → IsInOrder set.members → (set_without set m).members ≡ front ++ back
set_without_middle set front m back is order =
    ap (filter (λ n. not (is_same n m))) is ∙ list_without front m back (subst IsInOrder is order)
