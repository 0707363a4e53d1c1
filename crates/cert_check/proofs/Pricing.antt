-- What is so where nothing stops the check of a total with its price.
use Rattle.std.proofs.Common.{◌≡◌, false, true≢false, ◌+◌, ◌<◌, refl, sym, ap, ◌∙◌, ℕ, List, [], ◌∷◌, length, get_or, Option, None, Some, arith}
use Rattle.std.specs.Prelude.{Contains, IfSome}
use Rattle.std.proofs.lemmas.List.Elements.{All-contains, All-nil, All-weaker}
use Rattle.algebra.specs.Gcd.{gcd, gcd_within}
use Rattle.rational.specs.Rational.{ℚ, frac, ◌+ℚ◌, ◌*ℚ◌, eq_ℚ, neg_ℚ, zero_ℚ, one_ℚ}
use Rattle.rational.proofs.Compare.{eq-Decides}
use lib.IntN.{ℤ}
use Rattle.frac128.specs.Limit.{limit}
use Rattle.frac128.specs.Width.{is_wide}
use Rattle.frac128.specs.Calculation.{first_wide, product_steps}
use Rattle.lp_model.specs.declared.members.Member.{Member}
use Rattle.lp_model.specs.Program.{Program, IsWellFormed}
use Rattle.lp_model.specs.Members.{active_members}
use Rattle.lp_model.specs.Satisfaction.{values_at, IsPart}
use Rattle.certs.specs.declared.evidence.Branch.{Branch}
use Rattle.certs.specs.declared.evidence.Checked.{Checked}
use Rattle.certs.specs.declared.evidence.Checked.TheVariants.{Yes, No, Wide}
use Rattle.certs.specs.declared.evidence.Node.{Node}
use Rattle.certs.specs.declared.evidence.Node.TheVariants.{Split, Leaf}
use Rattle.certs.specs.declared.evidence.Point.{Point}
use Rattle.certs.specs.declared.evidence.Proof.{Proof}
use Rattle.certs.specs.declared.evidence.Share.{Share}
use Rattle.certs.specs.declared.evidence.Source.{Source}
use Rattle.certs.specs.declared.evidence.Source.TheVariants.{Member as Of, Below, Above}
use Rattle.certs.specs.Alternative.{IsPrice}
use Rattle.certs.specs.Checks.{outcome, combination_steps, price_steps}
use Rattle.certs.specs.Combination.{IsCombination, IsFrom, IsThere, right_side}
use Rattle.certs.proofs.Passed.{combination_check_law, price_check_law}
use Rattle.branch_proof.specs.declared.checks.Judged.{Judged}
use Rattle.branch_proof.specs.Walk.{judgement, unless_failed}
use Rattle.price_checks.specs.Costs.{cost_steps, HasCost, CostLaw, PricedLaw}
use Rattle.cert_check.specs.declared.outcome.Stop.TheVariants.{Rejected}
use Rattle.cert_check.specs.Trials.{leaf_shares, on_line, price_trials}
use Rattle.cert_check.specs.Stops.{first_stop}
use Rattle.cert_check.specs.Truth.{IsPricedBy}
use Rattle.cert_check.proofs.Firsts.{found_yes}

-- ---- a proof of one leaf
-- it passes where its combination does
leaf_passes : (c : Checked) → unless_failed 0 c Judged.Yes ≡ Judged.Yes → c ≡ Yes
leaf_passes Yes e = refl
leaf_passes No e = absurd (cc)
leaf_passes (Wide o) e = absurd (cc)

-- no shares leave 0, which is not -1
apart : eq_ℚ zero_ℚ (neg_ℚ one_ℚ) ≡ false
unfolding frac neg_ℚ gcd gcd_within eq_ℚ
apart = refl

not_none : zero_ℚ ≡ neg_ℚ one_ℚ → ⊥
not_none e = true≢false (sym ((eq-Decides zero_ℚ (neg_ℚ one_ℚ)).1 e) ∙ apart)

module _ (model : Program) (set among : List Member) (part : IsPart set among) where
  -- what comes from members comes from those that they are part of
  from_among : (q : Source) → IsFrom set q → IsFrom among q
  from_among (Of m) h = All-contains (Contains among) set m part h
  from_among (Below j) h = tt
  from_among (Above j) h = tt

  -- and a combination of them is one of those
  pub combination_among : (shares : List Share) → IsCombination model set [] shares → IsCombination model among [] shares
  combination_among shares c = record {
    positive = c.positive;
    there = All-weaker (IsThere model set []) (IsThere model among []) (λ s t. record { from = from_among s.source t.from; number = t.number }) shares c.there;
    cancels = c.cancels;
    contradicts = c.contradicts;
  }

module _ (model : Program) (formed : IsWellFormed model) (set : List Member) where
  -- where the right side of its leaf is -1, it has one, and its shares are a combination
  leaf_combination : (nodes : List Node) → judgement model set nodes ≡ Judged.Yes → right_side model [] (leaf_shares nodes) ≡ neg_ℚ one_ℚ → IsCombination model set [] (leaf_shares nodes)
  leaf_combination [] e r = absurd (not_none r)
  leaf_combination (Split j k ∷ nodes) e r = absurd (not_none r)
  leaf_combination (Leaf combo ∷ []) e r =
      combination_check_law limit model set [] combo.shares formed (All-nil (λ (b : Branch). b.column < length model.columns))
      (leaf_passes (outcome (combination_steps model set [] combo.shares)) e)
  leaf_combination (Leaf combo ∷ (node ∷ nodes)) e r = absurd (not_none r)

  -- ---- the total and the price
  pub priced_by : CostLaw → PricedLaw → IsPart set (active_members model) → (n : ℕ) (proof : Proof) (price : Option (ℚ × Point)) → judgement model set proof.nodes ≡ Judged.Yes → first_stop (price_trials model n proof price) ≡ None → IfSome price (λ p. IsPricedBy model proof p.0 p.1)
  priced_by costs shows part n proof None j e = tt
  priced_by costs shows part n proof (Some p) j e =
      let active = active_members model in
      let shares = leaf_shares proof.nodes in
      let z = values_at p.1.values in
      let costed = outcome (cost_steps model shares p.0) in
      let priced = outcome (price_steps model active p.0 z) in
      let one = found_yes n costed (first_stop (on_line (n + 1) priced ∷ [])) e in
      let two = found_yes (n + 1) priced None one.1 in
      let has : HasCost model shares p.0 = costs model shares p.0 one.0 in
      let price : IsPrice model active p.0 z = price_check_law limit model active p.0 z two.0 in
      let combination = combination_among model set active part shares (leaf_combination proof.nodes j has.right) in
      record { cheapest = (shows model active shares p.0 z combination has price).0; total = has.total; price = price }

-- ---- where the proof is not one leaf
-- its right side is 0, which is not -1
no_shares : (model : Program) (t : ℚ) → outcome (cost_steps model [] t) ≡ No
unfolding frac ◌+ℚ◌ ◌*ℚ◌ neg_ℚ gcd gcd_within eq_ℚ first_wide is_wide product_steps
no_shares model t = refl

other_nodes : (nodes : List Node) → (length nodes ≡ 1 → ⊥) → leaf_shares nodes ≡ []
other_nodes [] h = refl
other_nodes (Split j k ∷ []) h = refl
other_nodes (Split j k ∷ (node ∷ nodes)) h = refl
other_nodes (Leaf combo ∷ []) h = absurd (h refl)
other_nodes (Leaf combo ∷ (node ∷ nodes)) h = refl

-- and the line of the total fails
total_fails : (model : Program) (n : ℕ) (nodes : List Node) (t : ℚ) → leaf_shares nodes ≡ [] → first_stop (on_line n (outcome (cost_steps model (leaf_shares nodes) t)) ∷ []) ≡ Some (Rejected n)
total_fails model n nodes t e = ap (λ (shares : List Share). first_stop (on_line n (outcome (cost_steps model shares t)) ∷ [])) e ∙ ap (λ (f : Checked). first_stop (on_line n f ∷ [])) (no_shares model t)

pub none_alone : (model : Program) (n : ℕ) (nodes : List Node) (t : ℚ) → (length nodes ≡ 1 → ⊥) → first_stop (on_line n (outcome (cost_steps model (leaf_shares nodes) t)) ∷ []) ≡ Some (Rejected n)
none_alone model n nodes t h = total_fails model n nodes t (other_nodes nodes h)

split_shares : (nodes : List Node) (x : Node) (j : ℕ) (k : ℤ) → 0 < length nodes → x ≡ get_or nodes 0 x → x ≡ Split j k → leaf_shares nodes ≡ []
split_shares [] x j k l is e = absurd (omega (arith, l))
split_shares (Split i b ∷ []) x j k l is e = refl
split_shares (Split i b ∷ (node ∷ nodes)) x j k l is e = refl
split_shares (Leaf combo ∷ nodes) x j k l is e = absurd (let both : Leaf combo ≡ Split j k = sym is ∙ e in cc)

pub split_first : (model : Program) (n : ℕ) (nodes : List Node) (t : ℚ) (x : Node) (j : ℕ) (k : ℤ) → 0 < length nodes → x ≡ get_or nodes 0 x → x ≡ Split j k
    → first_stop (on_line n (outcome (cost_steps model (leaf_shares nodes) t)) ∷ []) ≡ Some (Rejected n)
split_first model n nodes t x j k l is e = total_fails model n nodes t (split_shares nodes x j k l is e)
