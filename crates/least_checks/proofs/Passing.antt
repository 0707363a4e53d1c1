-- The members of a set that pass a test, put in one by one.
use Rattle.std.proofs.Common.{◌≡◌, refl, sym, ◌∙◌, ap, Bool, true, false, ◌&&◌, ◌||◌, List, [], ◌∷◌, filter}
use Rattle.std.proofs.Math.Bool.{or_assoc, or-false}
use Rattle.lp_model.specs.declared.members.Member.{Member}
use Rattle.lp_model.specs.Members.{is_same, has}
use Rattle.lp_model.specs.MemberSets.{SetValue, possible_in, set_with}
use Rattle.lp_model.proofs.Sets.{same_members, same_self}
use Rattle.certs.specs.Named.{IsPartBy}
use Rattle.certs.proofs.HasLists.{agree_on}
use Rattle.certs.proofs.Parted.{filter_both, part_none, part_with}

same_back : (m n : Member) → is_same m n ≡ is_same n m
same_back m n = by (is_same m n) (is_same n m) refl refl
  where
    by : (a b : Bool) → is_same m n ≡ a → is_same n m ≡ b → a ≡ b
    by true true e f = refl
    by false false e f = refl
    by true false e f = sym (same_self n) ∙ ap (λ k. is_same n k) (sym (same_members m n e)) ∙ f
    by false true e f = sym e ∙ ap (λ k. is_same m k) (same_members n m f) ∙ same_self m

-- what is there so far, and what passes of those that are still to come, is what passes of the set
pub record HasPassing (passes : Member → Bool) (set : SetValue) (left : List Member) (now : SetValue) : Type 0 where
  pub test : Member → Bool
  pub part : IsPartBy set test now
  pub together : (m : Member) → (test m || (has left m && passes m)) ≡ (has set.members m && passes m)

module _ (passes : Member → Bool) (set : SetValue) where
  pub passing_at_first : (empty : SetValue) → empty ≡ record set { members = [] } → HasPassing passes set set.members empty
  passing_at_first empty e = record { test = λ m. false; part = e ∙ part_none set; together = λ m. refl }

  module _ (m : Member) (rest : List Member) (now : SetValue) (h : HasPassing passes set (m ∷ rest) now) where
    -- the one that is next, or one of those behind it
    one_or_rest : (n : Member) (r : Bool) → passes m ≡ r → ((is_same m n || has rest n) && passes n) ≡ ((r && is_same n m) || (has rest n && passes n))
    one_or_rest n r e = by (is_same m n) refl (has rest n) r e
      where
        by : (a : Bool) → is_same m n ≡ a → (k r : Bool) → passes m ≡ r → ((is_same m n || k) && passes n) ≡ ((r && is_same n m) || (k && passes n))
        by true f k r e =
            ap (λ b. (b || k) && passes n) f
            ∙ sym (ap (passes) (same_members m n f)) ∙ e
            ∙ own r k
            ∙ ap (λ b. (r && b) || (k && r)) (sym f ∙ same_back m n)
            ∙ ap (λ q. (r && is_same n m) || (k && q)) (sym e ∙ ap (passes) (same_members m n f))
          where
            own : (r k : Bool) → r ≡ ((r && true) || (k && r))
            own true k = refl
            own false true = refl
            own false false = refl
        by false f k r e = ap (λ b. (b || k) && passes n) f ∙ ap (λ b. b || (k && passes n)) (sym (none r)) ∙ ap (λ b. (r && b) || (k && passes n)) (sym f ∙ same_back m n)
          where
            none : (r : Bool) → (r && false) ≡ false
            none true = refl
            none false = refl

    pub passing_with : has set.members m ≡ true → passes m ≡ true → HasPassing passes set rest (set_with now m)
    passing_with there e = record {
      test = λ n. h.test n || is_same n m;
      part = part_with set now h.test m there h.part;
      together = λ n. or_assoc (h.test n) (is_same n m) (has rest n && passes n) ∙ ap (λ b. h.test n || b) (sym (one_or_rest n true e)) ∙ h.together n;
    }

    pub passing_without : passes m ≡ false → HasPassing passes set rest now
    passing_without e = record {
      test = h.test;
      part = h.part;
      together = λ n. ap (λ b. h.test n || b) (sym (one_or_rest n false e)) ∙ h.together n;
    }

  pub passing_at_last : (now : SetValue) → set.members ≡ filter (has set.members) (possible_in set) → HasPassing passes set [] now → now ≡ record set { members = filter passes set.members }
  passing_at_last now possible h =
      h.part
      ∙ ap (λ (l : List Member). record set { members = l })
      (agree_on (λ m. has set.members m && h.test m) (λ m. has set.members m && passes m) (possible_in set) (λ m c. by (has set.members m) (h.test m) (passes m) (sym (or-false (h.test m)) ∙ h.together m))
      ∙ sym (filter_both (has set.members) (passes) (possible_in set))
      ∙ ap (filter (passes)) (sym possible))
    where
      by : (a t r : Bool) → t ≡ (a && r) → (a && t) ≡ (a && r)
      by true t r e = e
      by false t r e = refl
