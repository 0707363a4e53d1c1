-- Proofs of a set as proofs of its parts: those that have all members which the nodes use.
use Rattle.std.proofs.Common.{◌≡◌, ◌<◌, refl, sym, ◌∙◌, ap, subst, suc, Bool, true, false, true≢false, not, List, [], ◌∷◌, ◌++◌, length, arith, get_or}
use Rattle.std.specs.Prelude.{Contains}
use Rattle.std.specs.List.{list_any}
use Rattle.std.proofs.lemmas.List.Elements.{All-contains_itself, Contains-append_left, Contains-append_right}
use Rattle.std.proofs.lemmas.List.Folds.{list_any_at}
use lib.IntN.{pos, ◌+ℤ◌}
use Rattle.lp_model.specs.declared.members.Member.{Member}
use Rattle.lp_model.specs.declared.members.Member.TheVariants.{Whole}
use Rattle.lp_model.specs.Program.{Program}
use Rattle.lp_model.specs.Members.{has, is_same}
use Rattle.lp_model.specs.MemberSets.{SetValue, set_without}
use Rattle.lp_model.proofs.Sets.{same_members, same_self, Contains-cons, Contains-filter}
use Rattle.certs.specs.declared.evidence.Branch.{Branch}
use Rattle.certs.specs.declared.evidence.Node.{Node}
use Rattle.certs.specs.declared.evidence.Node.TheVariants.{Split, Leaf}
use Rattle.certs.specs.declared.evidence.Share.{Share}
use Rattle.certs.specs.declared.evidence.Source.{Source}
use Rattle.certs.specs.declared.evidence.Source.TheVariants.{Member as Of, Below, Above}
use Rattle.certs.specs.Combination.{IsFrom, IsThere}
use Rattle.certs.specs.Named.{node_uses, used_set}
use Rattle.certs.specs.Proof.{Tree, Tip, Fork, preorder, at_most, at_least, IsMarked, IsTreeProof, IsProof}
use Rattle.certs.specs.Violation.{is_of}
use Rattle.certs.proofs.HasLists.{has_of_filter}

-- an element that passes is one
any_of : {A : Type 0} (p : A → Bool) (xs : List A) (x : A) → Contains xs x → p x ≡ true → list_any p xs ≡ true
any_of p xs x (k, l, e) t = list_any_at p xs k x l (subst (λ (z : _). p z ≡ true) (sym e) t)

-- the part has every member of the set that one of the nodes uses
HasUsed : List Member → List Member → List Node → Type 0
HasUsed set part nodes = (n : Node) → Contains nodes n → (m : Member) → node_uses m n ≡ true → Contains set m → Contains part m

source_within : (set part : List Member) (shares : List Share) → ((m : Member) → list_any (λ s. is_of m s.source) shares ≡ true → Contains set m → Contains part m)
    → (s : Share) → Contains shares s → (source : Source) → s.source ≡ source → IsFrom set source → IsFrom part source
source_within set part shares h s c (Of m) e from = h m (any_of (λ t. is_of m t.source) shares s c (subst (λ z. is_of m z ≡ true) (sym e) (same_self m))) from
source_within set part shares h s c (Below j) e from = tt
source_within set part shares h s c (Above j) e from = tt

tree_within : (model : Program) (set part : List Member) (path : List Branch) (t : Tree) → HasUsed set part (preorder t) → IsTreeProof model set path t → IsTreeProof model part path t
unfolding HasUsed
tree_within model set part path (Tip shares) h c = record {
  positive = c.positive;
  cancels = c.cancels;
  contradicts = c.contradicts;
  there = λ k d l.
      let s : Share = get_or shares k d in
      let there : IsThere model set path s = c.there k d l in
      record {
        number = there.number;
        from = source_within set part shares (λ m u. h (Leaf (record { shares = shares })) (0, (let z : 0 < 1 = omega arith in z), refl) m u) s (All-contains_itself shares k d l) s.source refl there.from;
      };
}
tree_within model set part path (Fork j k lower upper) h p =
    let marked : IsMarked model set j = p.0 in (
      record { exists = marked.exists; in_set = h (Split j k) (0, (let z : 0 < suc (length (preorder lower ++ preorder upper)) = omega arith in z), refl) (Whole j) (same_self (Whole j)) marked.in_set },
      tree_within model set part (path ++ at_most j k ∷ []) lower (λ n c. h n (Contains-cons (Split j k) (preorder lower ++ preorder upper) n (Contains-append_left (preorder lower) (preorder upper) n c))) p.1,
      tree_within model set part (path ++ at_least j (k +ℤ pos 1) ∷ []) upper (λ n c. h n (Contains-cons (Split j k) (preorder lower ++ preorder upper) n (Contains-append_right (preorder lower) (preorder upper) n c))) p.2,
    )

proof_within : (model : Program) (set part : List Member) (nodes : List Node) → HasUsed set part nodes → IsProof model set nodes → IsProof model part nodes
proof_within model set part nodes h p = record { tree = p.tree; listed = p.listed; proves = tree_within model set part [] p.tree (subst (HasUsed set part) (sym p.listed) h) p.proves }

-- a member that no node uses can be left out
pub proof_without : (model : Program) (set : SetValue) (m : Member) (nodes : List Node) → list_any (node_uses m) nodes ≡ false → IsProof model set.members nodes → IsProof model (set_without set m).members nodes
unfolding HasUsed
proof_without model set m nodes none p =
    proof_within model set.members (set_without set m).members nodes
    (λ n c k u d. Contains-filter (λ o. not (is_same o m)) set.members k d (other n c k u (is_same k m) refl)) p
  where
    other : (n : Node) → Contains nodes n → (k : Member) → node_uses k n ≡ true → (b : Bool) → is_same k m ≡ b → not (is_same k m) ≡ true
    other n c k u true e = absurd (true≢false (sym (any_of (node_uses m) nodes n c (subst (λ z. node_uses z n ≡ true) (same_members k m e) u)) ∙ none))
    other n c k u false e = ap not e

-- a proof of a set is one of the members that it uses
pub proof_of_used : (model : Program) (set : SetValue) (nodes : List Node) → IsProof model set.members nodes → IsProof model (used_set set nodes).members nodes
unfolding HasUsed
proof_of_used model set nodes p =
    proof_within model set.members (used_set set nodes).members nodes
    (λ n c k u d. Contains-filter (λ m. list_any (node_uses m) nodes) set.members k d (any_of (node_uses k) nodes n c u)) p

-- the members that a proof uses, as a set tells them
pub used_tells : (set : SetValue) (nodes : List Node) (m : Member) → Contains set.members m → has (used_set set nodes).members m ≡ list_any (node_uses m) nodes
used_tells set nodes m c = has_of_filter (λ n. list_any (node_uses n) nodes) set.members m c
