-- What the judgement of a list of nodes says, and what comes of its nodes one by one.
use Rattle.std.proofs.Common.{◌≡◌, ◌<◌, ◌≤◌, ◌+◌, ◌-◌, ℕ, refl, ap, sym, ◌∙◌, subst, List, [], ◌∷◌, ◌++◌, append-nil, length, drop, get_or, arith}
use Rattle.std.specs.Prelude.{◌↔◌}
use Rattle.std.proofs.lemmas.List.{drop_more, drop_all, length-drop}
use Rattle.std.proofs.lemmas.List.Elements.{All-nil, All-cons}
use Rattle.lp_model.specs.declared.members.Member.{Member}
use Rattle.lp_model.specs.Program.{Program, IsWellFormed}
use Rattle.lp_model.specs.Satisfaction.{IsUnsatisfiable}
use Rattle.certs.specs.declared.evidence.Branch.{Branch}
use Rattle.certs.specs.declared.evidence.Checked.{Checked}
use Rattle.certs.specs.declared.evidence.Checked.TheVariants.{Yes as Passes, No as Fails, Wide as TooWide}
use Rattle.certs.specs.declared.evidence.Node.{Node}
use Rattle.certs.specs.Proof.{preorder, IsProof}
use Rattle.certs.proofs.Refuted.{proof_law}
use Rattle.branch_proof.specs.declared.checks.Judged.{Judged}
use Rattle.branch_proof.specs.declared.checks.Judged.TheVariants.{Yes, No}
use Rattle.certs.specs.Trees.{child_paths}
use Rattle.branch_proof.specs.Walk.{judgement, node_check, unless_failed, walk, IsWithin}
use Rattle.branch_proof.specs.Narrow.{IsNarrowProof}
use Rattle.branch_proof.specs.Pending.{AreKnown}
use Rattle.branch_proof.proofs.Forests.{IsTaken, IsNeverNo, forest_of, one_tree, walk-taken, walk-never_no}

-- ---- all nodes
proof_by : (model : Program) (set : List Member) (nodes : List Node) → IsWellFormed model → judgement model set nodes ≡ Yes → IsNarrowProof model set nodes
proof_by model set nodes f e =
    let Known : List Branch → Type 0 = AreKnown (length model.columns) in
    let forest = forest_of model set 0 ([] ∷ []) nodes f (All-cons Known [] [] (All-nil (λ (b : Branch). b.column < length model.columns)) (All-nil Known)) e in
    let (t, (listed, taken)) = one_tree (IsTaken model set) [] nodes forest in
    record { proof = record { tree = t; listed = listed; proves = taken.0 }; narrow = taken.1 }

yes_by : (model : Program) (set : List Member) (nodes : List Node) → IsNarrowProof model set nodes → judgement model set nodes ≡ Yes
yes_by model set nodes p =
    ap (judgement model set) (sym (append-nil (preorder p.proof.tree) ∙ p.proof.listed)) ∙ walk-taken model set p.proof.tree 0 [] [] [] p.proof.proves p.narrow (λ k. refl)

never_no : (model : Program) (set : List Member) (nodes : List Node) → IsProof model set nodes → IsNeverNo (judgement model set nodes)
never_no model set nodes p =
    subst (λ (l : List Node). IsNeverNo (judgement model set l)) (append-nil (preorder p.tree) ∙ p.listed) (walk-never_no model set p.tree 0 [] [] [] p.proves (λ k m e. cc))

unless_within : (n count : ℕ) (c : Checked) (rest : Judged) → n < count → IsWithin count rest → IsWithin count (unless_failed n c rest)
unless_within n count Passes rest l h = h
unless_within n count Fails rest l h = omega arith
unless_within n count (TooWide o) rest l h = l

walk_within : (model : Program) (set : List Member) (n : ℕ) (paths : List (List Branch)) (nodes : List Node) (count : ℕ) → n + length nodes ≡ count → IsWithin count (walk model set n paths nodes)
walk_within model set n [] [] count e = tt
walk_within model set n [] (node ∷ nodes) count e = omega arith
walk_within model set n (path ∷ paths) [] count e = omega arith
walk_within model set n (path ∷ paths) (node ∷ nodes) count e =
    unless_within n count (node_check model set path node) (walk model set (n + 1) (child_paths path node ++ paths) nodes) (omega arith)
    (walk_within model set (n + 1) (child_paths path node ++ paths) nodes count (omega arith))

-- what is said of a judgement, as the contract of the check has it
abbrev pub IsTold : Program → List Member → List Node → Judged → Type 0
IsTold model set nodes judged = record {
  said : judged ≡ judgement model set nodes;
  yes : (judged ≡ Yes) ↔ IsNarrowProof model set nodes;
  never_no : IsProof model set nodes → IsNeverNo judged;
  unsatisfiable : judged ≡ Yes → IsUnsatisfiable model set;
  within : IsWithin (length nodes) judged;
}

pub told : (model : Program) (set : List Member) (nodes : List Node) (judged : Judged) → IsWellFormed model → judged ≡ judgement model set nodes → IsTold model set nodes judged
told model set nodes judged f e = record {
  said = e;
  yes = (λ y. proof_by model set nodes f (sym e ∙ y), λ p. e ∙ yes_by model set nodes p);
  never_no = λ p m n. never_no model set nodes p m (sym e ∙ n);
  unsatisfiable = λ y. proof_law model set nodes (proof_by model set nodes f (sym e ∙ y)).proof;
  within = subst (IsWithin (length nodes)) (sym e) (walk_within model set 0 ([] ∷ []) nodes (length nodes) (omega arith));
}

-- ---- one node: where those before it pass, and it with the others, on a path and those that follow, is judged as all are
pub at_node : (model : Program) (set : List Member) (nodes : List Node) (n : ℕ) (path : List Branch) (paths : List (List Branch)) (node : Node) (c : Checked) → n < length nodes → node ≡ get_or nodes n node
    → walk model set n (path ∷ paths) (drop n nodes) ≡ judgement model set nodes → c ≡ node_check model set path node
    → unless_failed n c (walk model set (n + 1) (child_paths path node ++ paths) (drop (n + 1) nodes)) ≡ judgement model set nodes
at_node model set nodes n path paths node c within is left found =
    ap (λ (k : Checked). unless_failed n k (walk model set (n + 1) (child_paths path node ++ paths) (drop (n + 1) nodes))) found
    ∙ (sym (ap (walk model set n (path ∷ paths)) (drop_more nodes n node within ∙ ap (λ (x : Node). x ∷ drop (n + 1) nodes) (sym is))) ∙ left)

-- ---- and the last one
pub ends_whole : (model : Program) (set : List Member) (nodes : List Node) (n : ℕ) → length nodes ≤ n → walk model set n [] (drop n nodes) ≡ judgement model set nodes → Yes ≡ judgement model set nodes
ends_whole model set nodes n l e = sym (ap (walk model set n []) (drop_all n nodes l)) ∙ e

over_cases : (model : Program) (set : List Member) (nodes : List Node) (n : ℕ) → 0 < length nodes → walk model set n [] nodes ≡ No (n + length nodes)
over_cases model set [] n l = absurd (omega arith)
over_cases model set (node ∷ nodes) n l = refl

pub ends_early : (model : Program) (set : List Member) (nodes : List Node) (n : ℕ) → n < length nodes → walk model set n [] (drop n nodes) ≡ judgement model set nodes → No (length nodes) ≡ judgement model set nodes
ends_early model set nodes n l e =
    let more : length (drop n nodes) ≡ length nodes - n = length-drop n nodes in
    sym (over_cases model set (drop n nodes) n (omega (arith, more)) ∙ ap No (omega (arith, more))) ∙ e

pub ends_open : (model : Program) (set : List Member) (nodes : List Node) (n : ℕ) (path : List Branch) (paths : List (List Branch)) → n ≡ length nodes → walk model set n (path ∷ paths) (drop n nodes) ≡ judgement model set nodes → No (length nodes) ≡ judgement model set nodes
ends_open model set nodes n path paths l e =
    ap No (sym l) ∙ (sym (ap (walk model set n (path ∷ paths)) (drop_all n nodes (omega arith))) ∙ e)
