-- Members of a set that are put into a part of it, one by one.
use Rattle.std.proofs.Common.{◌≡◌, refl, sym, ◌∙◌, ap, Bool, true, false, ◌&&◌, ◌||◌, List, [], ◌∷◌, filter}
use Rattle.std.proofs.Math.Bool.{or_assoc, or-false}
use Rattle.lp_model.specs.declared.members.Member.{Member}
use Rattle.lp_model.specs.Members.{is_same, has}
use Rattle.lp_model.specs.MemberSets.{SetValue, possible_in, set_with}
use Rattle.lp_model.proofs.Sets.{same_members, same_self}
use Rattle.certs.specs.Named.{IsPartBy}
use Rattle.certs.proofs.HasLists.{agree_on}
use Rattle.certs.proofs.Parted.{filter_both, part_with}
use Rattle.elastic_filter.specs.Included.{IsPartWithin, joined_test}

-- the same set with these members
abbrev pub with_members : SetValue → List Member → SetValue
with_members set members = record set { members = members }

same_back : (m n : Member) → is_same m n ≡ is_same n m
same_back m n = by (is_same m n) (is_same n m) refl refl
  where
    by : (a b : Bool) → is_same m n ≡ a → is_same n m ≡ b → a ≡ b
    by true true e f = refl
    by false false e f = refl
    by true false e f = sym (same_self n) ∙ ap (λ k. is_same n k) (sym (same_members m n e)) ∙ f
    by false true e f = sym e ∙ ap (λ k. is_same m k) (same_members n m f) ∙ same_self m

-- what the part has so far, and what is still to come, are together what it had with all that is put in
pub record HasGrown (start : SetValue) (set further left : List Member) (now : SetValue) : Type 0 where
  pub test : Member → Bool
  pub part : IsPartBy (with_members start set) test now
  pub together : (m : Member) → (test m || has left m) ≡ joined_test start.members further m

module _ (start : SetValue) (set further : List Member) (h : IsPartWithin start set further) where
  pub grown_at_first : HasGrown start set further further start
  grown_at_first = record {
    test = has start.members;
    part = ap (with_members start) (h.part_of ∙ ap (filter (has start.members)) h.possible ∙ filter_both (has set) (has start.members) (possible_in start));
    together = λ m. refl;
  }

  pub grown_by : (m : Member) (rest : List Member) (now : SetValue) → has set m ≡ true → HasGrown start set further (m ∷ rest) now → HasGrown start set further rest (set_with now m)
  grown_by m rest now there g = record {
    test = λ n. g.test n || is_same n m;
    part = part_with (with_members start set) now g.test m there g.part;
    together = λ n. or_assoc (g.test n) (is_same n m) (has rest n) ∙ ap (λ b. g.test n || (b || has rest n)) (same_back n m) ∙ g.together n;
  }

  pub grown_at_last : (now : SetValue) → HasGrown start set further [] now → now.members ≡ filter (joined_test start.members further) set
  grown_at_last now g =
      ap (λ (s : SetValue). s.members) g.part
      ∙ agree_on (λ m. has set m && g.test m) (λ m. has set m && joined_test start.members further m) (possible_in start) (λ m c. ap (λ b. has set m && b) (sym (or-false (g.test m)) ∙ g.together m))
      ∙ sym (filter_both (has set) (joined_test start.members further) (possible_in start))
      ∙ ap (filter (joined_test start.members further)) (sym h.possible)
