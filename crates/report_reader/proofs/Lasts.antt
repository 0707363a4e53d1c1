-- What comes after the last of a list in order comes after all of it.
use Rattle.std.proofs.Common.{◌≡◌, refl, sym, ap, subst, ◌∙◌, ℕ, ◌-◌, ◌<◌, ◌≤◌, Bool, true, false, true≢false, List, length, get_or, Some, arith, ◌⊎◌, inl, inr}
use Rattle.std.specs.Prelude.{AllPairs, IsTrue}
use Rattle.std.specs.List.{list_all, slice_get}
use Rattle.std.proofs.lemmas.Bool.Decides.{nat_tests}
use Rattle.std.proofs.lemmas.Bool.{cases_lt}
use Rattle.std.proofs.lemmas.Option.{slice_get_within, get_or_from_slice_get}
use Rattle.std.proofs.lemmas.List.Sums.{list_all-from_AllPass}
use Rattle.std.proofs.lemmas.List.Folds.{list_all_at}
use Rattle.lp_model.proofs.Orders.{over}
use Rattle.lp_model.specs.declared.members.Member.{Member}
use Rattle.lp_model.specs.Members.{comes_before, IsInOrder}
use Rattle.certs.specs.declared.evidence.Source.{Source}
use Rattle.certs.specs.declared.evidence.Source.TheVariants.{Member as Of, Below, Above}
use Rattle.certs.specs.declared.evidence.Share.{Share}
use Rattle.certs.specs.Order.{source_before}

module _ {X : Type 0} (before : X → X → Bool) (over : (x y z : X) → before x y ≡ true → before y z ≡ true → before x z ≡ true) where
  pub last_decides : (xs : List X) (l x : X) → AllPairs (λ y z. IsTrue (before y z)) xs → slice_get xs (length xs - 1) ≡ Some l → before l x ≡ list_all (λ y. before y x) xs
  last_decides xs l x h e = by (before l x) refl
    where
      within : length xs - 1 < length xs
      within = slice_get_within xs (length xs - 1) l e

      by : (b : Bool) → before l x ≡ b → b ≡ list_all (λ y. before y x) xs
      by true t = sym (list_all-from_AllPass (λ y. before y x) xs (λ k d lt. each k d lt (cases_lt k (length xs - 1))))
        where
          each : (k : ℕ) (d : X) → k < length xs → (k < length xs - 1) ⊎ (length xs - 1 ≤ k) → before (get_or xs k d) x ≡ true
          each k d lt (inl m) = over (get_or xs k d) l x (subst (λ y. before (get_or xs k d) y ≡ true) (get_or_from_slice_get xs (length xs - 1) l d e) (h k (length xs - 1) d m within)) t
          each k d lt (inr m) = ap (λ i. before (get_or xs i d) x) (let e : k ≡ length xs - 1 = omega arith in e) ∙ ap (λ y. before y x) (get_or_from_slice_get xs (length xs - 1) l d e) ∙ t
      by false t = sym (list_all_at (λ y. before y x) xs (length xs - 1) l within (ap (λ y. before y x) (get_or_from_slice_get xs (length xs - 1) l l e) ∙ t))

-- ---- members
pub last_member : (members : List Member) (l m : Member) → IsInOrder members → slice_get members (length members - 1) ≡ Some l → comes_before l m ≡ list_all (λ n. comes_before n m) members
last_member members l m h e = last_decides comes_before over members l m h e

-- ---- shares
source_over : (a b c : Source) → source_before a b ≡ true → source_before b c ≡ true → source_before a c ≡ true
source_over (Of l) (Of m) (Of n) h k = over l m n h k
source_over (Of l) b (Below j) h k = refl
source_over (Of l) b (Above j) h k = refl
source_over (Below i) (Of m) c h k = absurd (true≢false (sym h))
source_over (Above i) (Of m) c h k = absurd (true≢false (sym h))
source_over a b (Of n) h k = absurd (true≢false (sym k))
source_over a b c h k = grind (arith, nat_tests)

-- the source of a share, with a weight of no matter
pub last_share : (shares : List Share) (l : Share) (source : Source) → AllPairs (λ t u. IsTrue (source_before t.source u.source)) shares → slice_get shares (length shares - 1) ≡ Some l
    → source_before l.source source ≡ list_all (λ t. source_before t.source source) shares
last_share shares l source h e =
    last_decides (λ t u. source_before t.source u.source) (λ t u v p q. source_over t.source u.source v.source p q) shares l (record { source = source; weight = l.weight }) h e
