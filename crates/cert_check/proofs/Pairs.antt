-- Two lists position by position: where the trials of what is left stop the check.
use Rattle.std.proofs.Common.{◌≡◌, ◌<◌, ◌≤◌, ◌+◌, refl, sym, ◌∙◌, ap, ℕ, Bool, true, false, List, [], ◌∷◌, length, drop, get_or, Option, Some, None}
use Rattle.std.specs.Iterator.{YieldsFirst}
use Rattle.std.proofs.lemmas.List.{at_drop_more, at_drop_all}
use Rattle.lp_model.specs.declared.members.Member.{Member}
use Rattle.lp_model.specs.Members.{is_same, has}
use Rattle.lp_model.proofs.Sets.{same_members, same_self}
use Rattle.cert_check.specs.declared.outcome.Stop.TheVariants.{Rejected}
use Rattle.cert_check.specs.Trials.{said, paired_trials, is_use_of}
use Rattle.cert_check.specs.Stops.{stop_or, first_stop}

module _ {A : Type 0} (agree : A → A → Bool) where
  pub differ : (n : ℕ) (x y : A) (xs ys : List A) → agree x y ≡ false → first_stop (paired_trials agree n (x ∷ xs) (y ∷ ys)) ≡ Some (Rejected n)
  differ n x y xs ys e = ap (λ (b : Bool). stop_or n (said b) (first_stop (paired_trials agree (n + 1) xs ys))) e

  pub agreed : (n : ℕ) (x y : A) (xs ys : List A) → agree x y ≡ true → first_stop (paired_trials agree n (x ∷ xs) (y ∷ ys)) ≡ first_stop (paired_trials agree (n + 1) xs ys)
  agreed n x y xs ys e = ap (λ (b : Bool). stop_or n (said b) (first_stop (paired_trials agree (n + 1) xs ys))) e

  module _ (n i : ℕ) (xs ys : List A) where
    -- the second list ends first
    pub ends : (x : A) → i < length xs → length ys ≤ i → first_stop (paired_trials agree n (drop i xs) (drop i ys)) ≡ Some (Rejected n)
    ends x l k =
        at_drop_more (λ (z : List A). first_stop (paired_trials agree n z (drop i ys))) xs i x l
        ∙ at_drop_all (λ (z : List A). first_stop (paired_trials agree n (get_or xs i x ∷ drop (i + 1) xs) z)) ys i k

    -- the first one does
    pub ends_there : (y : A) → length xs ≤ i → i < length ys → first_stop (paired_trials agree n (drop i xs) (drop i ys)) ≡ Some (Rejected n)
    ends_there y k l =
        at_drop_all (λ (z : List A). first_stop (paired_trials agree n z (drop i ys))) xs i k
        ∙ at_drop_more (λ (z : List A). first_stop (paired_trials agree n [] z)) ys i y l

-- ---- members
-- the printed member is not of the set
pub outside : (among : List Member) (n : ℕ) (m : Member) (rest used : List Member) → has among m ≡ false → first_stop (paired_trials (is_use_of among) n (m ∷ rest) used) ≡ Some (Rejected n)
outside among n m rest [] e = refl
outside among n m rest (u ∷ used) e = differ (is_use_of among) n m u rest used (rw e refl)

module _ (among : List Member) (n : ℕ) (m : Member) (rest used others : List Member) where
  -- the proof does not use it there
  pub not_used : (next : Option Member) → YieldsFirst (λ (l : List Member). l) used next others → ¬ (next ≡ Some m) → first_stop (paired_trials (is_use_of among) n (m ∷ rest) used) ≡ Some (Rejected n)
  not_used None yields wrong = ap (λ z. first_stop (paired_trials (is_use_of among) n (m ∷ rest) z)) yields.0
  not_used (Some u) yields wrong =
      ap (λ z. first_stop (paired_trials (is_use_of among) n (m ∷ rest) z)) yields
      ∙ differ (is_use_of among) n m u rest others (by (is_same m u) refl (has among m) refl)
    where
      by : (s : Bool) → is_same m u ≡ s → (b : Bool) → has among m ≡ b → is_use_of among m u ≡ false
      by true s b a = absurd (wrong (ap (λ (k : Member). Some k) (sym (same_members m u s))))
      by false s true a = rw (a, s) refl
      by false s false a = rw a refl

  -- it is of the set, and used there
  pub used_next : has among m ≡ true → used ≡ m ∷ others → first_stop (paired_trials (is_use_of among) (n + 1) rest others) ≡ first_stop (paired_trials (is_use_of among) n (m ∷ rest) used)
  used_next a e = sym (ap (λ z. first_stop (paired_trials (is_use_of among) n (m ∷ rest) z)) e ∙ agreed (is_use_of among) n m m rest others (rw (a, same_self m) refl))
