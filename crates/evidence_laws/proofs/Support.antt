-- The members of a weighting of which values meet all shares but one, whichever one it is, are irreducible.
use Rattle.std.proofs.Common.{◌≡◌, refl, sym, ◌∙◌, ap, subst, ℕ, List, [], ◌∷◌, ◌++◌, Option, None, Some}
use Rattle.std.specs.Prelude.{All}
use Rattle.std.proofs.lemmas.List.Elements.{All-head, All-tail, All-nil, All-cons}
use Rattle.rational.specs.Rational.{ℚ, zero_ℚ, ◌<ℚ◌}
use Rattle.rational.specs.Linear.{Assignment}
use Rattle.rational.proofs.Order.{le_refl_ℚ, positive-one, lt_by}
use Rattle.algebra.proofs.Ring.{zero_of, unit_of, minus}
use Rattle.lp_model.specs.declared.members.Member.{Member}
use Rattle.lp_model.specs.declared.members.Member.TheVariants.{RowLo, RowUp, Lower, Upper, Whole}
use Rattle.lp_model.specs.Program.{Program}
use Rattle.lp_model.specs.Members.{value, number}
use Rattle.lp_model.specs.Satisfaction.{Point, coordinate, values_at, IsAtLeast, IsAtMost, Holds, Satisfies, IsSatisfiable}
use Rattle.lp_model.proofs.Points.{common_denominator}
use Rattle.certs.specs.declared.evidence.Source.{Source}
use Rattle.certs.specs.declared.evidence.Source.TheVariants.{Member as Of, Below, Above}
use Rattle.certs.specs.declared.evidence.Share.{Share}
use Rattle.certs.specs.Combination.{KeepsBranch, source_value, source_number, IsCombination}
use Rattle.certs.specs.Alternative.{IsWeighting, with_source, members_of, IsMet, SupportLaw}
use Rattle.certs.proofs.Refuted.{combination_law}
use Rattle.certs.proofs.Filters.{nil_apart}

-- ---- values that are points
pub satisfiable_at : (model : Program) (set : List Member) (values : List ℚ) → Satisfies model set (values_at values) → IsSatisfiable model set
satisfiable_at model set values h =
    let p : (p : Point) × ((j : ℕ) → coordinate p j ≡ values_at values j) = common_denominator values in
    record { point = p.0; satisfies = subst (Satisfies model set) (λ i. λ j. sym (p.1 j) i) h }

-- ---- what is met exactly holds
at_least_met : (o : Option ℚ) (v : ℚ) → o ≡ Some v → IsAtLeast o v
at_least_met o v e = subst (λ z. IsAtLeast z v) (sym e) (le_refl_ℚ v)

at_most_met : (o : Option ℚ) (v : ℚ) → o ≡ Some v → IsAtMost o v
at_most_met o v e = subst (λ z. IsAtMost z v) (sym e) (le_refl_ℚ v)

none_is_not : {v : ℚ} → None ≡ Some v → ⊥
none_is_not e = cc

pub holds_met : (model : Program) (x : Assignment) (m : Member) → number model m ≡ Some (value model m x) → Holds model x m
holds_met model x (RowLo i) e = at_least_met (number model (RowLo i)) (value model (RowLo i) x) e
holds_met model x (RowUp i) e = at_most_met (number model (RowUp i)) (value model (RowUp i) x) e
holds_met model x (Lower j) e = at_least_met (number model (Lower j)) (x j) e
holds_met model x (Upper j) e = at_most_met (number model (Upper j)) (x j) e
holds_met model x (Whole j) e = absurd (none_is_not e)

source_met : (model : Program) (x : Assignment) (s : Source) (members : List Member) → source_number model [] s ≡ Some (source_value model x s) → Satisfies model members x → Satisfies model (with_source s members) x
source_met model x (Of m) members e k = All-cons (Holds model x) m members (holds_met model x m e) k
source_met model x (Below j) members e k = k
source_met model x (Above j) members e k = k

pub all_met : (model : Program) (x : Assignment) (shares : List Share) → All (λ s. source_number model [] s.source ≡ Some (source_value model x s.source)) shares → Satisfies model (members_of shares) x
all_met model x [] e = All-nil (Holds model x)
all_met model x (s ∷ shares) e =
    source_met model x s.source (members_of shares) (All-head (λ s. source_number model [] s.source ≡ Some (source_value model x s.source)) s shares e)
    (all_met model x shares (All-tail (λ s. source_number model [] s.source ≡ Some (source_value model x s.source)) s shares e))

-- ---- the shares, taken apart where their members are
record Apart (shares : List Share) (front back : List Member) : Type 0 where
  before : List Share
  share : Share
  after : List Share
  shares_are : shares ≡ before ++ share ∷ after
  front_is : members_of (before ++ after) ≡ front ++ back

with_front : (s : Share) (shares : List Share) (w : Member) (front back : List Member) → s.source ≡ Of w → Apart shares front back → Apart (s ∷ shares) (w ∷ front) back
with_front s shares w front back e a = record {
  before = s ∷ a.before;
  share = a.share;
  after = a.after;
  shares_are = ap (λ z. s ∷ z) a.shares_are;
  front_is = ap (λ z. with_source z (members_of (a.before ++ a.after))) e ∙ ap (λ z. w ∷ z) a.front_is;
}

with_branch : (s : Share) (shares : List Share) (front back : List Member) → ((members : List Member) → with_source s.source members ≡ members) → Apart shares front back → Apart (s ∷ shares) front back
with_branch s shares front back e a = record {
  before = s ∷ a.before;
  share = a.share;
  after = a.after;
  shares_are = ap (λ z. s ∷ z) a.shares_are;
  front_is = e (members_of (a.before ++ a.after)) ∙ a.front_is;
}

apart : (shares : List Share) (front : List Member) (m : Member) (back : List Member) → members_of shares ≡ front ++ m ∷ back → Apart shares front back
apart [] front m back e = absurd (nil_apart front m back e)
apart (s ∷ shares) front m back e = go (apart shares) s.source refl front e
  where
    go : ((front : List Member) (m : Member) (back : List Member) → members_of shares ≡ front ++ m ∷ back → Apart shares front back)
        → (q : Source) → s.source ≡ q → (front : List Member) → with_source q (members_of shares) ≡ front ++ m ∷ back → Apart (s ∷ shares) front back
    go rest (Of n) p [] e = record { before = []; share = s; after = shares; shares_are = refl; front_is = (let g : members_of shares ≡ back = cc in g) }
    go rest (Of n) p (w ∷ front) e =
        let head : n ≡ w = cc in
        let tail : members_of shares ≡ front ++ m ∷ back = cc in
        with_front s shares w front back (p ∙ ap Of head) (rest front m back tail)
    go rest (Below j) p front e = with_branch s shares front back (λ members. ap (λ z. with_source z members) p) (rest front m back e)
    go rest (Above j) p front e = with_branch s shares front back (λ members. ap (λ z. with_source z members) p) (rest front m back e)

-- ---- the law
weighting_refutes : (model : Program) (set : List Member) (shares : List Share) → All (λ s. zero_ℚ <ℚ s.weight) shares → IsWeighting model set shares → IsCombination model set [] shares
weighting_refutes model set shares p y = record {
  positive = p;
  there = y.there;
  cancels = y.cancels;
  contradicts = subst (λ z. z <ℚ zero_ℚ) (sym y.contradicts) (lt_by [] (minus unit_of) zero_of unit_of positive-one tt);
}

pub support_law : SupportLaw
support_law model shares p y met = record {
  cannot = λ s. combination_law model (members_of shares) [] shares (weighting_refutes model (members_of shares) shares p y) (coordinate s.point) s.satisfies (All-nil (KeepsBranch (coordinate s.point)));
  minimal = λ front m back e.
      (let a : Apart shares front back = apart shares front m back e in
      let z : IsMet model (a.before ++ a.after) = met a.before a.share a.after a.shares_are in
      satisfiable_at model (front ++ back) z.values (subst (λ set. Satisfies model set (values_at z.values)) a.front_is (all_met model (values_at z.values) (a.before ++ a.after) z.meets)));
}
