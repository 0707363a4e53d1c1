-- What the checks of a round show: the members that are enforced further.
use Rattle.std.proofs.Common.{◌≡◌, ◌<◌, ◌∙◌, refl, sym, ap, subst, Bool, true, false, cond, not, ◌||◌, ℕ, List, [], ◌∷◌, length, filter, arith}
use Rattle.std.specs.Prelude.{All, IsTrue}
use Rattle.std.specs.List.{list_all}
use Rattle.std.proofs.lemmas.Bool.{and_parts, not-false}
use Rattle.std.proofs.lemmas.List.Elements.{All-cons, All-contains, All-head, All-nil, All-tail, All-weaker}
use Rattle.rational.specs.Rational.{ℚ, eq_ℚ, le_q, neg_ℚ, one_ℚ, zero_ℚ, ◌+ℚ◌, ◌≤ℚ◌}
use Rattle.rational.specs.Linear.{Assignment}
use Rattle.rational.proofs.Compare.{eq-Decides}
use Rattle.rational.proofs.Field.{add-zero_ℚ}
use Rattle.rational.proofs.Order.{le_of_lt_ℚ, le_q-true}
use Rattle.rational.proofs.Sums.{nothing_first}
use Rattle.lp_model.specs.declared.members.Member.{Member}
use Rattle.lp_model.specs.declared.parts.Weight.TheVariants.{Soft, Rigid}
use Rattle.lp_model.specs.Program.{Program}
use Rattle.lp_model.specs.Satisfaction.{Satisfies, coordinate, values_at}
use Rattle.lp_model.specs.Members.{has, is_same}
use Rattle.lp_model.specs.MemberSets.{IsPossibleIn, SetValue, possible_in}
use Rattle.lp_model.proofs.New.{one_positive}
use Rattle.lp_model.proofs.Orders.{before_differs}
use Rattle.lp_model.proofs.Points.{common_denominator}
use Rattle.lp_model.proofs.Sets.{pairs_head, pairs_tail, same_members}
use Rattle.certs.specs.declared.evidence.Share.{Share}
use Rattle.certs.specs.declared.evidence.Source.{Source}
use Rattle.certs.specs.declared.evidence.Source.TheVariants.{Member as Of, Below, Above}
use Rattle.certs.specs.Combination.{IsCombination, IsFrom, IsThere, right_side}
use Rattle.certs.specs.Named.{IsKnownSource, IsOfSize}
use Rattle.certs.specs.Order.{AreSharesInOrder, source_before}
use Rattle.certs.specs.Tales.{IsFurther}
use Rattle.certs.specs.Violation.{IsWithinWeight, is_of, total_violation, weight_on}
use Rattle.certs.proofs.Possible.{all_possible}
use Rattle.evidence_laws.specs.Weighed.{IsDualWith, TotalLaw, weight_beside}
use Rattle.relaxation.proofs.Found.{possible_too}
use Rattle.relaxation.proofs.Reaching.{violated_further}
use Rattle.quick_answers.specs.Stretching.{AreWithin, is_enforced, is_further, is_share_within}

-- ---- what a member is given by shares in order, of which at most one is its own
module _ (enforced : List Member) (m : Member) where
  none_given : (shares : List Share) → All (λ (s : Share). is_of m s.source ≡ false) shares → weight_on shares m ≡ zero_ℚ
  none_given [] h = refl
  none_given (s ∷ shares) h =
      ap (λ b. cond b s.weight zero_ℚ +ℚ weight_on shares m) (All-head (λ (t : Share). is_of m t.source ≡ false) s shares h)
      ∙ nothing_first (weight_on shares m)
      ∙ none_given shares (All-tail (λ (t : Share). is_of m t.source ≡ false) s shares h)

  -- what stands after its own share is not its own
  not_after : (a b : Source) → is_of m a ≡ true → IsTrue (source_before a b) → is_of m b ≡ false
  not_after (Of n) (Of k) own before = subst (λ l. is_same l k ≡ false) (sym (same_members m n own)) (before_differs n k before)
  not_after (Of n) (Below j) own before = refl
  not_after (Of n) (Above j) own before = refl
  not_after (Below j) b own before = absurd (let e : false ≡ true = own in cc)
  not_after (Above j) b own before = absurd (let e : false ≡ true = own in cc)

  -- a share of one that is not enforced is of at most 1
  own_weight : (s : Share) → has enforced m ≡ false → is_of m s.source ≡ true → is_share_within enforced s ≡ true → s.weight ≤ℚ one_ℚ
  own_weight s free own within = by (le_q s.weight one_ℚ) refl
    where
      not_enforced : (a : Source) → is_of m a ≡ true → is_enforced enforced a ≡ false
      not_enforced (Of n) e = subst (λ l. has enforced l ≡ false) (same_members m n e) free
      not_enforced (Below j) e = refl
      not_enforced (Above j) e = refl

      by : (b : Bool) → le_q s.weight one_ℚ ≡ b → s.weight ≤ℚ one_ℚ
      by true e = le_q-true s.weight one_ℚ e
      by false e = absurd (let f : (le_q s.weight one_ℚ || is_enforced enforced s.source) ≡ true = within in let g = not_enforced s.source own in cc)

  -- with one share more before those that give it at most 1
  one_more : (s : Share) (shares : List Share) → has enforced m ≡ false → All (λ (t : Share). IsTrue (source_before s.source t.source)) shares
      → is_share_within enforced s ≡ true → weight_on shares m ≤ℚ one_ℚ → weight_on (s ∷ shares) m ≤ℚ one_ℚ
  one_more s shares free after own others = by (is_of m s.source) refl
    where
      by : (b : Bool) → is_of m s.source ≡ b → weight_on (s ∷ shares) m ≤ℚ one_ℚ
      by true e =
          let rest = All-weaker (λ (t : Share). IsTrue (source_before s.source t.source)) (λ (t : Share). is_of m t.source ≡ false) (λ t k. not_after s.source t.source e k) shares after in
          subst (λ q. q ≤ℚ one_ℚ)
          (sym (ap (λ b. cond b s.weight zero_ℚ +ℚ weight_on shares m) e ∙ ap (λ q. s.weight +ℚ q) (none_given shares rest) ∙ add-zero_ℚ s.weight))
          (own_weight s free e own)
      by false e = subst (λ q. q ≤ℚ one_ℚ) (sym (ap (λ b. cond b s.weight zero_ℚ +ℚ weight_on shares m) e ∙ nothing_first (weight_on shares m))) others

  at_most_one : (shares : List Share) → has enforced m ≡ false → AreSharesInOrder shares → list_all (is_share_within enforced) shares ≡ true → weight_on shares m ≤ℚ one_ℚ
  at_most_one [] free order within = le_of_lt_ℚ one_positive
  at_most_one (s ∷ shares) free order within =
      let both = and_parts (is_share_within enforced s) (list_all (is_share_within enforced) shares) within in
      one_more s shares free (pairs_head (λ (t u : Share). IsTrue (source_before t.source u.source)) s shares order) both.0
      (at_most_one shares free (pairs_tail (λ (t u : Share). IsTrue (source_before t.source u.source)) s shares order) both.1)

  within_beside : (shares : List Share) → AreSharesInOrder shares → list_all (is_share_within enforced) shares ≡ true → IsWithinWeight (weight_on shares m) (weight_beside enforced m)
  within_beside shares order within = by (has enforced m) refl
    where
      by : (b : Bool) → has enforced m ≡ b → IsWithinWeight (weight_on shares m) (cond b Rigid (Soft one_ℚ))
      by true e = tt
      by false e = at_most_one shares e order within

-- so it is for a whole set
pub all_within : (enforced set : List Member) (shares : List Share) → AreSharesInOrder shares → list_all (is_share_within enforced) shares ≡ true → AreWithin set enforced shares
all_within enforced [] shares order within = All-nil (λ m. IsWithinWeight (weight_on shares m) (weight_beside enforced m))
all_within enforced (m ∷ set) shares order within =
    All-cons (λ m. IsWithinWeight (weight_on shares m) (weight_beside enforced m)) m set (within_beside enforced m shares order within) (all_within enforced set shares order within)

-- the members that a combination names are ones that a set of the same size may have
pub all_known : (model : Program) (set enforced : SetValue) (shares : List Share) → IsOfSize set enforced → set.members ≡ filter (has set.members) (possible_in set)
    → All (IsThere model set.members []) shares → All (λ (s : Share). IsKnownSource enforced s.source) shares
all_known model set enforced shares size possible there =
    All-weaker (IsThere model set.members []) (λ (s : Share). IsKnownSource enforced s.source) (λ s h. known s.source h.from) shares there
  where
    known : (source : Source) → IsFrom set.members source → IsKnownSource enforced source
    known (Of m) c = All-contains (IsPossibleIn enforced) set.members m (possible_too set enforced size (all_possible set possible)) c
    known (Below j) c = tt
    known (Above j) c = tt

-- a count that is not 0 is that of some
pub some_there : (list : List Member) (n : ℕ) → n ≡ length list → (n ≡ 0 → ⊥) → 0 < length list
some_there [] n e h = absurd (h e)
some_there (m ∷ list) n e h = omega arith

-- ---- a total that was compared
-- what does not differ is the same
pub same_by : (a b : ℚ) (t : Bool) → t ≡ not (eq_ℚ a b) → t ≡ false → a ≡ b
same_by a b t e f = (eq-Decides a b).0 (not-false (eq_ℚ a b) (sym e ∙ f))

-- ---- a combination of the set that gives no member beside the enforced ones more than 1
module _ (model : Program) (set enforced : List Member) (shares : List Share) where
  dual_of : (t : ℚ) → IsCombination model set [] shares → AreWithin set enforced shares → t ≡ neg_ℚ (right_side model [] shares)
      → IsDualWith (weight_beside enforced) model set [] shares t
  dual_of t h within total = record { positive = h.positive; there = h.there; cancels = h.cancels; within = within; total = total }

  -- where the total violation is its right side, negated, the members found at the values are enforced further
  pub round_shown : TotalLaw → IsCombination model set [] shares → AreWithin set enforced shares
      → (values : List ℚ) → Satisfies model enforced (values_at values) → total_violation model set (values_at values) ≡ neg_ℚ (right_side model [] shares)
      → (found : List Member) → found ≡ filter (is_further model enforced (values_at values)) set → 0 < length found → IsFurther model set enforced found
  round_shown law h within values held total found is some =
      let p = common_denominator values in
      let same : ◌≡◌ {A = Assignment} (coordinate p.0) (values_at values) = λ i. λ j. p.1 j i in
      let least : neg_ℚ (right_side model [] shares) ≡ total_violation model set (coordinate p.0) = sym total ∙ ap (λ (x : Assignment). total_violation model set x) (sym same) in
      violated_further model set enforced p.0 found
      (subst (Satisfies model enforced) (sym same) held)
      (λ q k. law model set enforced shares (total_violation model set (coordinate p.0)) (dual_of (total_violation model set (coordinate p.0)) h within (sym least)) (coordinate q) k)
      (is ∙ ap (λ (x : Assignment). filter (is_further model enforced x) set) (sym same))
      some
