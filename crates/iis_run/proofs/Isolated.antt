-- The trials of an irreducible set with its witnesses, its rounds and its price are not failed.
use Rattle.std.proofs.Common.{◌≡◌, ◌+◌, ◌<◌, ◌≤◌, refl, sym, ◌∙◌, ap, subst, ℕ, zero, suc, true, ◌&&◌, nat_lt, nat_le, List, [], ◌∷◌, ◌++◌, append_assoc, flat_map, length, length-append, lt-ltb, slice_index_or, zip, arith, Option, None, Some}
use Rattle.std.specs.Prelude.{All, Contains}
use Rattle.std.proofs.lemmas.Bool.{and_from, le-leb}
use Rattle.std.proofs.lemmas.List.Elements.{All-cons, All-head, All-tail, All-weaker}
use Rattle.rational.specs.Rational.{ℚ}
use Rattle.frac128.specs.Limit.{limit}
use Rattle.lp_model.specs.declared.members.Member.{Member}
use Rattle.lp_model.specs.Program.{Program}
use Rattle.lp_model.specs.Members.{active_members, is_active, IsInOrder}
use Rattle.lp_model.specs.Satisfaction.{values_at, IsPart, Satisfies}
use Rattle.lp_model.proofs.Sets.{members_law}
use Rattle.lp_model.proofs.Walk.{list_without}
use Rattle.certs.specs.declared.evidence.Combo.{Combo}
use Rattle.certs.specs.declared.evidence.Node.{Node}
use Rattle.certs.specs.declared.evidence.Node.TheVariants.{Leaf}
use Rattle.certs.specs.declared.evidence.Point.{Point}
use Rattle.certs.specs.declared.evidence.Proof.{Proof}
use Rattle.certs.specs.Alternative.{IsPrice}
use Rattle.certs.specs.Checks.{outcome, price_steps}
use Rattle.certs.specs.Filter.{Enforces, first, further}
use Rattle.certs.specs.Proof.{IsProof}
use Rattle.certs.specs.Tales.{IsPointOf}
use Rattle.certs.proofs.Refused.{price_no_law}
use Rattle.filter_steps.specs.Isolated.{AreWitnesses, without}
use Rattle.price_checks.specs.Costs.{cost_steps, HasCost}
use Rattle.price_checks.proofs.Cost.{cost_no_law}
use Rattle.report_text.specs.declared.report.Core.{Core}
use Rattle.report_text.specs.Grammar.{proof_phrases, rounds_phrases, witness_phrases}
use Rattle.cert_check.specs.Trials.{on_line, said, leaf_shares, others, point_trial, price_trials, proof_trials, rounds_trials, tail_trials, witness_trials, witnesses_of, irreducible_trials}
use Rattle.iis_run.proofs.Unfailed.{IsUnfailed, AreUnfailed, nothing, one_more, alone, joined, said_true}
use Rattle.iis_run.proofs.Shown.{point_unfailed, proof_unfailed}

-- ---- witnesses
-- the members without the one at a place
without_at : (front : List Member) (m : Member) (back : List Member) (k : ℕ) → k ≡ length front → without (front ++ m ∷ back) k ≡ front ++ back
without_at [] m back zero e = refl
without_at [] m back (suc k) e = absurd (omega (arith, e))
without_at (f ∷ front) m back zero e = absurd (let h : 0 ≡ suc (length front) = e in omega (arith, h))
without_at (f ∷ front) m back (suc k) e = ap (λ (l : List Member). f ∷ l) (without_at front m back k (let h : suc k ≡ suc (length front) = e in omega (arith, h)))

module _ (model : Program) (set : List Member) (order : IsInOrder set) where
  -- a witness satisfies the others
  others_satisfied : (front : List Member) (m : Member) (back : List Member) (w : Point) → set ≡ front ++ m ∷ back → Satisfies model (without set (length front + 0)) (values_at w.values) → Satisfies model (others set m) (values_at w.values)
  others_satisfied front m back w is h =
      let left : without set (length front + 0) ≡ front ++ back = ap (λ (l : List Member). without l (length front + 0)) is ∙ without_at front m back (length front + 0) (omega arith) in
      let right : others set m ≡ front ++ back = ap (λ (l : List Member). others l m) is ∙ list_without front m back (subst IsInOrder is order) in
      subst (λ (l : List Member). Satisfies model l (values_at w.values)) (left ∙ sym right) h

  -- the members from a place on, each with the witness of its place
  witnesses_unfailed : (n : ℕ) (front back : List Member) (points : List Point) → set ≡ front ++ back → All (λ m. is_active model m ≡ true) back
      → ((i : ℕ) (d : Point) → i < length points → IsPointOf model (without set (length front + i)) (slice_index_or points i d)) → AreUnfailed (witness_trials model set n (zip back points))
  witnesses_unfailed n front [] points is active each = nothing
  witnesses_unfailed n front (m ∷ back) [] is active each = nothing
  witnesses_unfailed n front (m ∷ back) (w ∷ points) is active each =
      let next = n + length (witness_phrases (m, w)) in
      let rest = witness_trials model set next (zip back points) in
      let longer : length (front ++ m ∷ []) ≡ length front + 1 = length-append front (m ∷ []) in
      one_more n (said (is_active model m)) (point_trial model (others set m) (n + 1) w ∷ rest) (said_true (is_active model m) (All-head (λ k. is_active model k ≡ true) m back active))
      (All-cons IsUnfailed (point_trial model (others set m) (n + 1) w) rest
      (point_unfailed model (others set m) (n + 1) w (others_satisfied front m back w is (each 0 w (let l : 0 < suc (length points) = omega arith in l)).satisfies))
      (witnesses_unfailed next (front ++ m ∷ []) back points (is ∙ sym (append_assoc front (m ∷ []) back)) (All-tail (λ k. is_active model k ≡ true) m back active)
      (λ i d l. subst (λ k. IsPointOf model (without set k) (slice_index_or points i d)) (omega (arith, longer)) (each (suc i) d (let h : suc i < suc (length points) = omega arith in h)))))

-- ---- rounds
-- an enforced set is one of a chain of at least one
pub enforces_some : (model : Program) (set : List Member) (n : ℕ) (last : List Member) → Enforces model set n last → 0 < n
enforces_some model set n last first = omega arith
enforces_some model set n last (further chain next) = omega arith

pub rounds_unfailed : (members n : ℕ) (rounds : Option ℕ) (count : ℕ) → rounds ≡ Some count → 0 < count → count ≤ suc members → AreUnfailed (rounds_trials members n rounds)
rounds_unfailed members n rounds count is some few =
    subst (λ (o : Option ℕ). AreUnfailed (rounds_trials members n o)) (sym is)
    (alone n (said (nat_lt 0 count && nat_le count (members + 1))) (said_true (nat_lt 0 count && nat_le count (members + 1)) (and_from (nat_lt 0 count) (nat_le count (members + 1)) (lt-ltb 0 count some) (le-leb count (members + 1) (omega (arith, few))))))

pub no_rounds : (members n : ℕ) (rounds : Option ℕ) → rounds ≡ None → AreUnfailed (rounds_trials members n rounds)
no_rounds members n rounds is = subst (λ (o : Option ℕ). AreUnfailed (rounds_trials members n o)) (sym is) nothing

-- ---- a total with its price
pub no_price : (model : Program) (n : ℕ) (proof : Proof) (price : Option (ℚ × Point)) → price ≡ None → AreUnfailed (price_trials model n proof price)
no_price model n proof price is = subst (λ (o : Option (ℚ × Point)). AreUnfailed (price_trials model n proof o)) (sym is) nothing

pub price_unfailed : (model : Program) (n : ℕ) (proof : Proof) (price : Option (ℚ × Point)) (combo : Combo) (t : ℚ) (p : Point) → price ≡ Some (t, p) → proof.nodes ≡ Leaf combo ∷ [] → HasCost model combo.shares t → IsPrice model (active_members model) t (values_at p.values)
    → AreUnfailed (price_trials model n proof price)
price_unfailed model n proof price combo t p is leaf has priced =
    let shares = leaf_shares proof.nodes in
    let tried = outcome (price_steps model (active_members model) t (values_at p.values)) in
    let costs : HasCost model shares t = subst (λ (l : List Node). HasCost model (leaf_shares l) t) (sym leaf) has in
    subst (λ (o : Option (ℚ × Point)). AreUnfailed (price_trials model n proof o)) (sym is)
    (one_more n (outcome (cost_steps model shares t)) (on_line (n + 1) tried ∷ []) (cost_no_law model shares t costs) (alone (n + 1) tried (price_no_law limit model (active_members model) t (values_at p.values) priced)))

-- ---- all together
pub core_unfailed : (model : Program) (n : ℕ) (core : Core) → IsPart core.members.members (active_members model) → IsInOrder core.members.members → IsProof model core.members.members core.proof.nodes → AreWitnesses model core.members.members core.witnesses
    → ((line : ℕ) → AreUnfailed (rounds_trials (length core.members.members) line core.rounds)) → ((line : ℕ) → AreUnfailed (price_trials model line core.proof core.price)) → AreUnfailed (irreducible_trials model n core)
core_unfailed model n core part order proves witnesses rounds price =
    let set = core.members.members in
    let next = n + (2 + length (flat_map witness_phrases (witnesses_of core))) in
    let behind = next + length (proof_phrases core.proof) in
    let last = behind + length (rounds_phrases core.rounds) in
    let active = All-weaker (Contains (active_members model)) (λ m. is_active model m ≡ true) (λ m c. ((members_law model).1 m).0 c) set part in
    joined (witness_trials model set (n + 2) (witnesses_of core)) (proof_trials model set (next + 1) core.proof ++ tail_trials model behind core)
    (witnesses_unfailed model set order (n + 2) [] set core.witnesses refl active (λ i d l. subst (λ k. IsPointOf model (without set k) (slice_index_or core.witnesses i d)) (omega arith) (witnesses.each i d l)))
    (joined (proof_trials model set (next + 1) core.proof) (tail_trials model behind core) (proof_unfailed model set (next + 1) core.proof proves)
    (joined (rounds_trials (length set) behind core.rounds) (price_trials model last core.proof core.price) (rounds behind) (price last)))
