-- The members of a set may be in it, and so may those that a proof of it names.
use lib.IntN.{pos, ◌+ℤ◌}
use Rattle.std.proofs.Common.{◌≡◌, sym, subst, List, [], ◌∷◌, ◌++◌, length, filter}
use Rattle.std.specs.Prelude.{All, Contains}
use Rattle.std.proofs.lemmas.List.Elements.{All-append, All-cons, All-contains, All-contains_itself, All-filter, All-nil, All-weaker}
use Rattle.lp_model.specs.declared.members.Member.TheVariants.{Whole}
use Rattle.lp_model.specs.Members.{has}
use Rattle.lp_model.specs.MemberSets.{SetValue, IsMemberFor, IsPossibleIn, possible_in}
use Rattle.lp_model.specs.Program.{Program}
use Rattle.lp_model.proofs.Marked.{possible_is}
use Rattle.certs.specs.declared.evidence.Branch.{Branch}
use Rattle.certs.specs.declared.evidence.Node.{Node}
use Rattle.certs.specs.declared.evidence.Node.TheVariants.{Split, Leaf}
use Rattle.certs.specs.declared.evidence.Share.{Share}
use Rattle.certs.specs.declared.evidence.Source.{Source}
use Rattle.certs.specs.declared.evidence.Source.TheVariants.{Member as Of, Below, Above}
use Rattle.certs.specs.declared.solving.Verdict.{Verdict}
use Rattle.certs.specs.declared.solving.Verdict.TheVariants.{Feasible, Infeasible}
use Rattle.certs.specs.Checks.{IsSetOf}
use Rattle.certs.specs.Combination.{IsFrom, IsThere}
use Rattle.certs.specs.Named.{IsKnownNode, IsKnownSource}
use Rattle.certs.specs.Proof.{IsMarked, IsProof, IsTreeProof, Tree, Tip, Fork, preorder, at_least, at_most}
use Rattle.certs.specs.Tales.{IsKnownVerdict, IsVerdict}

-- the members of a set may be in it
pub all_possible : (set : SetValue) → set.members ≡ filter (has set.members) (possible_in set) → All (IsPossibleIn set) set.members
all_possible set is =
    let every : All (IsPossibleIn set) (possible_in set) = All-weaker (Contains (possible_in set)) (IsPossibleIn set) (λ m c. possible_is set.rows set.columns m c) (possible_in set) (All-contains_itself (possible_in set)) in
    subst (All (IsPossibleIn set)) (sym is) (All-filter (has set.members) (IsPossibleIn set) (possible_in set) every)

-- those of a set of a program's are ones of the program
pub members_for_model : (model : Program) (set : SetValue) → IsSetOf model set → set.members ≡ filter (has set.members) (possible_in set) → All (IsMemberFor (length model.rows) (length model.columns)) set.members
members_for_model model set same is =
    subst (λ n. All (IsMemberFor (length model.rows) n) set.members) same.columns
    (subst (λ n. All (IsMemberFor n set.columns) set.members) same.rows (all_possible set is))

-- ---- the nodes of a proof name members that the set may have
known_source : (set : SetValue) → All (IsPossibleIn set) set.members → (source : Source) → IsFrom set.members source → IsKnownSource set source
known_source set possible (Of m) c = All-contains (IsPossibleIn set) set.members m possible c
known_source set possible (Below j) c = tt
known_source set possible (Above j) c = tt

tree_known : (model : Program) (set : SetValue) (path : List Branch) (t : Tree) → All (IsPossibleIn set) set.members → IsTreeProof model set.members path t → All (IsKnownNode set) (preorder t)
tree_known model set path (Tip shares) possible c =
    All-cons (IsKnownNode set) (Leaf (record { shares = shares })) []
    (All-weaker (IsThere model set.members path) (λ (s : Share). IsKnownSource set s.source) (λ s there. known_source set possible s.source there.from) shares c.there)
    (All-nil (IsKnownNode set))
tree_known model set path (Fork j k lower upper) possible p =
    let marked : IsMarked model set.members j = p.0 in
    All-cons (IsKnownNode set) (Split j k) (preorder lower ++ preorder upper)
    (All-contains (IsPossibleIn set) set.members (Whole j) possible marked.in_set)
    (All-append (IsKnownNode set) (preorder lower) (preorder upper) (tree_known model set (path ++ at_most j k ∷ []) lower possible p.1) (tree_known model set (path ++ at_least j (k +ℤ pos 1) ∷ []) upper possible p.2))

pub known_nodes : (model : Program) (set : SetValue) (nodes : List Node) → set.members ≡ filter (has set.members) (possible_in set) → IsProof model set.members nodes → All (IsKnownNode set) nodes
known_nodes model set nodes is p = subst (All (IsKnownNode set)) p.listed (tree_known model set [] p.tree (all_possible set is) p.proves)

pub known_verdict : (model : Program) (set : SetValue) (verdict : Verdict) → set.members ≡ filter (has set.members) (possible_in set) → IsVerdict model set.members verdict → IsKnownVerdict set verdict
known_verdict model set (Feasible point) is h = tt
known_verdict model set (Infeasible proof) is h = known_nodes model set proof.nodes is h
