-- What satisfies the rigid members costs at least what a cost tree shows.
use Rattle.std.proofs.Common.{List, [], ◌∷◌, ◌++◌, ◌⊎◌, inl, inr, refl, sym, subst}
use Rattle.std.proofs.lemmas.Bool.{and_parts}
use Rattle.std.proofs.lemmas.List.Elements.{All-contains, All-nil, All-push}
use lib.IntN.{pos, ◌+ℤ◌}
use Rattle.rational.specs.Rational.{ℚ, ◌≤ℚ◌}
use Rattle.rational.specs.Linear.{Assignment}
use Rattle.rational.proofs.Order.{le_trans_ℚ}
use Rattle.rational.proofs.Whole.{whole_cases}
use Rattle.lp_model.specs.declared.members.Member.{Member}
use Rattle.lp_model.specs.declared.members.Member.TheVariants.{Whole}
use Rattle.lp_model.specs.Program.{Program}
use Rattle.lp_model.specs.Members.{exists, has, weight}
use Rattle.lp_model.specs.Satisfaction.{Holds, Satisfies}
use Rattle.lp_model.proofs.Sets.{Contains-filter, contains_of_has}
use Rattle.certs.specs.declared.evidence.Branch.{Branch}
use Rattle.certs.specs.declared.evidence.CostNode.{CostNode}
use Rattle.certs.specs.declared.evidence.CostNode.TheVariants.{Split, Bound, Cut}
use Rattle.certs.specs.Combination.{KeepsBranch, KeepsPath}
use Rattle.certs.specs.CostTrees.{cost_paths, CostsFrom, CostsLaw, IsCostNode}
use Rattle.certs.specs.Proof.{at_least, at_most}
use Rattle.certs.specs.Violation.{is_rigid, rigid_members, weighted_violation}
use Rattle.certs.proofs.Refuted.{combination_law}
use Rattle.evidence_laws.proofs.Excluded.{In, in_left, in_right}
use Rattle.evidence_laws.proofs.Missed.{least_law}

module _ (model : Program) (set : List Member) (total : ℚ) (x : Assignment) (h : Satisfies model (rigid_members model set) x) where
  abbrev Shown : Type 0
  Shown = total ≤ℚ weighted_violation model set x

  -- a node on a path that is kept shows the total, or has a child on one
  step : (path : List Branch) (node : CostNode) → IsCostNode model set total path node → KeepsPath x path → Shown ⊎ ((q : List Branch) × (In (cost_paths path node) q × KeepsPath x q))
  step path (Split j k) c keeps =
      let marked = and_parts (exists model (Whole j)) (has set (Whole j)) c in
      let there = Contains-filter (λ m. is_rigid (weight model m)) set (Whole j) (contains_of_has set (Whole j) marked.1) refl in
      inr (elim (whole_cases (x j) k (All-contains (Holds model x) (rigid_members model set) (Whole j) h there marked.0)) [
        | inl l ↦ (path ++ at_most j k ∷ [], (inl refl, All-push (KeepsBranch x) path (at_most j k) keeps l))
        | inr l ↦ (path ++ at_least j (k +ℤ pos 1) ∷ [], (inr (inl refl), All-push (KeepsBranch x) path (at_least j (k +ℤ pos 1)) keeps l))
      ])
  step path (Bound combo) c keeps = inl (le_trans_ℚ c.1.1 (least_law model set path combo.shares c.0 c.1.0 x h keeps))
  step path (Cut combo) c keeps = absurd (combination_law model (rigid_members model set) path combo.shares c x h keeps)

  shown : (paths : List (List Branch)) (nodes : List CostNode) → CostsFrom model set total paths nodes → (q : List Branch) → In paths q → KeepsPath x q → Shown
  shown [] nodes c q i keeps = absurd i
  shown (path ∷ paths) [] c q i keeps = absurd c
  shown (path ∷ paths) (node ∷ nodes) c q (inr i) keeps = shown (cost_paths path node ++ paths) nodes c.1 q (in_right (cost_paths path node) paths q i) keeps
  shown (path ∷ paths) (node ∷ nodes) c q (inl e) keeps =
      elim (step path node c.0 (subst (KeepsPath x) (sym e) keeps)) [
        | inl s ↦ s
        | inr below ↦ shown (cost_paths path node ++ paths) nodes c.1 below.0 (in_left (cost_paths path node) paths below.0 below.1.0) below.1.1
      ]

pub costs_law : CostsLaw
costs_law model set total nodes c x h = shown model set total x h ([] ∷ []) nodes c [] (inl refl) (All-nil (KeepsBranch x))
