-- A proof uses members of its own set alone.
use Rattle.std.proofs.Common.{◌≡◌, refl, sym, ◌∙◌, ap, subst, Bool, true, false, true≢false, ◌&&◌, List, [], ◌∷◌, ◌++◌, inl, inr}
use Rattle.std.specs.Prelude.{All, Contains}
use Rattle.std.specs.List.{list_any}
use Rattle.std.proofs.lemmas.Bool.{and_from, and_right, or_cases}
use Rattle.std.proofs.lemmas.List.Elements.{All-contains, All-head, All-tail, filter_agree}
use Rattle.std.proofs.lemmas.List.Folds.{list_any-append}
use lib.IntN.{pos, ◌+ℤ◌}
use Rattle.lp_model.specs.declared.members.Member.{Member}
use Rattle.lp_model.specs.declared.members.Member.TheVariants.{Whole}
use Rattle.lp_model.specs.Program.{Program}
use Rattle.lp_model.specs.Members.{is_active, is_same, active_members, possible_members}
use Rattle.lp_model.specs.Satisfaction.{IsPart}
use Rattle.lp_model.proofs.Sets.{same_members, members_law}
use Rattle.certs.specs.declared.evidence.Branch.{Branch}
use Rattle.certs.specs.declared.evidence.Node.{Node}
use Rattle.certs.specs.declared.evidence.Share.{Share}
use Rattle.certs.specs.declared.evidence.Source.{Source}
use Rattle.certs.specs.declared.evidence.Source.TheVariants.{Member as Of, Below, Above}
use Rattle.certs.specs.Combination.{IsFrom, IsThere}
use Rattle.certs.specs.Named.{node_uses, used_members}
use Rattle.certs.specs.Proof.{Tree, Tip, Fork, preorder, at_most, at_least, IsTreeProof, IsProof}
use Rattle.certs.specs.Violation.{is_of}
use Rattle.certs.proofs.Parted.{filter_both}

module _ (model : Program) (set : List Member) (m : Member) where
  source_in : (source : Source) → is_of m source ≡ true → IsFrom set source → Contains set m
  source_in (Of n) e from = subst (Contains set) (sym (same_members m n e)) from
  source_in (Below j) e from = absurd (true≢false (sym e))
  source_in (Above j) e from = absurd (true≢false (sym e))

  shares_in : (path : List Branch) (shares : List Share) → All (IsThere model set path) shares → list_any (λ s. is_of m s.source) shares ≡ true → Contains set m
  shares_in path [] h e = absurd (true≢false (sym e))
  shares_in path (s ∷ shares) h e =
      elim (or_cases (is_of m s.source) (list_any (λ t. is_of m t.source) shares) e) [
        | inl u ↦ source_in s.source u (All-head (IsThere model set path) s shares h).from
        | inr u ↦ shares_in path shares (All-tail (IsThere model set path) s shares h) u
      ]

  -- a member that one of the nodes of the tree uses
  tree_in : (path : List Branch) (t : Tree) → IsTreeProof model set path t → list_any (node_uses m) (preorder t) ≡ true → Contains set m
  tree_in path (Tip shares) p e =
      elim (or_cases (list_any (λ s. is_of m s.source) shares) false e) [
        | inl u ↦ shares_in path shares p.there u
        | inr u ↦ absurd (true≢false (sym u))
      ]
  tree_in path (Fork j k lower upper) p e =
      elim (or_cases (is_same m (Whole j)) (list_any (node_uses m) (preorder lower ++ preorder upper)) e) [
        | inl u ↦ subst (Contains set) (sym (same_members m (Whole j) u)) p.0.in_set
        | inr u ↦
            elim (or_cases (list_any (node_uses m) (preorder lower)) (list_any (node_uses m) (preorder upper)) (sym (list_any-append (node_uses m) (preorder lower) (preorder upper)) ∙ u)) [
              | inl v ↦ tree_in (path ++ at_most j k ∷ []) lower p.1 v
              | inr v ↦ tree_in (path ++ at_least j (k +ℤ pos 1) ∷ []) upper p.2 v
            ]
      ]

  pub proof_in : (nodes : List Node) → IsProof model set nodes → list_any (node_uses m) nodes ≡ true → Contains set m
  proof_in nodes p e = tree_in [] p.tree p.proves (ap (list_any (node_uses m)) p.listed ∙ e)

-- whether one of the nodes uses the member
abbrev uses : List Node → Member → Bool
uses nodes m = list_any (node_uses m) nodes

-- so what a proof of active members uses of all possible members, it uses of the active ones
pub used_active : (model : Program) (set : List Member) (nodes : List Node) → IsPart set (active_members model) → IsProof model set nodes → used_members (possible_members model) nodes ≡ used_members (active_members model) nodes
used_active model set nodes part p =
    filter_agree (uses nodes) (λ m. is_active model m && uses nodes m) (λ m. agree m (uses nodes m) refl) (possible_members model) ∙ sym (filter_both (is_active model) (uses nodes) (possible_members model))
  where
    agree : (m : Member) (b : Bool) → uses nodes m ≡ b → uses nodes m ≡ (is_active model m && uses nodes m)
    agree m true e =
        let active : is_active model m ≡ true = ((members_law model).1 m).0 (All-contains (Contains (active_members model)) set m part (proof_in model set m nodes p e)) in
        e ∙ sym (and_from (is_active model m) (uses nodes m) active e)
    agree m false e = e ∙ sym (and_right (is_active model m) (uses nodes m) e)
