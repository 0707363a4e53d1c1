-- The nodes of a proof, and how many subtrees are due behind them.
use Rattle.std.proofs.Common.{◌≡◌, refl, sym, ap, subst, ◌∙◌, ℕ, zero, suc, ◌+◌, ◌-◌, Bool, true, false, true≢false, List, [], ◌∷◌, ◌++◌, length, append_assoc, append-nil, None, arith}
use Rattle.std.specs.Prelude.{map, flat_map, replicate, All}
use Rattle.std.proofs.lemmas.List.{append_cancel_left}
use Rattle.std.proofs.lemmas.List.Elements.{All-head, All-tail}
use Rattle.certs.specs.declared.evidence.Node.{Node}
use Rattle.certs.specs.declared.evidence.Node.TheVariants.{Split, Leaf}
use Rattle.certs.specs.Proof.{Tree, Tip, Fork, preorder}
use Rattle.lp_model.specs.Program.{Program, IsWellFormed}
use Rattle.report_text.specs.declared.phrases.Phrase.{Phrase}
use Rattle.report_text.specs.Grammar.{node_phrases}
use Rattle.report_text.specs.Form.{IsNodeFor, IsOneTree}
use Rattle.report_reader.specs.Kinds.{begins, next_in, is_there}
use Rattle.report_reader.specs.Things.{share_of, may_use, nodes_on, due_after}
use Rattle.report_reader.proofs.Sorted.{uses_alone}

-- whether a phrase begins a node
abbrev pub is_node : Phrase → Bool
is_node (Phrase.Split j k) = true
is_node Phrase.Leaf = true
is_node q = false

-- the nodes take the place of subtrees that are due, and leave so many due
abbrev pub Leaves : ℕ → List Node → ℕ → Type 0
Leaves d [] e = d ≡ e
Leaves zero (n ∷ ns) e = ⊥
Leaves (suc d) (Leaf combo ∷ ns) e = Leaves d ns e
Leaves (suc d) (Split j k ∷ ns) e = Leaves (suc (suc d)) ns e

-- one node more
pub one_more : (d : ℕ) (ns : List Node) (e : ℕ) (n : Node) → Leaves d ns (suc e) → Leaves d (ns ++ n ∷ []) (due_after (suc e) n)
one_more d [] e (Leaf combo) h = subst (λ k. Leaves k (Leaf combo ∷ []) (suc e - 1)) (sym h) (let t : e ≡ suc e - 1 = omega arith in t)
one_more d [] e (Split j k) h = subst (λ m. Leaves m (Split j k ∷ []) (suc e + 1)) (sym h) (let t : suc (suc e) ≡ suc e + 1 = omega arith in t)
one_more zero (m ∷ ns) e n h = absurd h
one_more (suc d) (Leaf combo ∷ ns) e n h = one_more d ns e n h
one_more (suc d) (Split j k ∷ ns) e n h = one_more (suc (suc d)) ns e n h

-- with so many trees behind them nodes are trees
pub completed : (d : ℕ) (ns : List Node) (e : ℕ) (trees : List Tree) → Leaves d ns e → length trees ≡ e → (all : List Tree) × ((length all ≡ d) × (flat_map preorder all ≡ ns ++ flat_map preorder trees))
completed d [] e trees h l = (trees, (l ∙ sym h, refl))
completed zero (n ∷ ns) e trees h l = absurd h
completed (suc d) (Leaf combo ∷ ns) e trees h l =
    let t = completed d ns e trees h l in
    (Tip combo.shares ∷ t.0, (ap suc t.1.0, ap (λ ms. Leaf combo ∷ ms) t.1.1))
completed (suc d) (Split j k ∷ ns) e trees h l = by (completed (suc (suc d)) ns e trees h l)
  where
    by : (all : List Tree) × ((length all ≡ suc (suc d)) × (flat_map preorder all ≡ ns ++ flat_map preorder trees)) → (all : List Tree) × ((length all ≡ suc d) × (flat_map preorder all ≡ Split j k ∷ (ns ++ flat_map preorder trees)))
    by ([], t) = absurd (let a = t.0 in omega arith)
    by (lower ∷ [], t) = absurd (let a = t.0 in omega arith)
    by (lower ∷ upper ∷ all, t) = (Fork j k lower upper ∷ all, ((let a = t.0 in omega arith), ap (λ ms. Split j k ∷ ms) (append_assoc (preorder lower) (preorder upper) (flat_map preorder all) ∙ t.1)))

-- one tree
pub one_tree : (ns : List Node) (e : ℕ) (trees : List Tree) → Leaves 1 ns e → length trees ≡ e → IsOneTree (ns ++ flat_map preorder trees)
one_tree ns e trees h l = by (completed 1 ns e trees h l)
  where
    by : (all : List Tree) × ((length all ≡ 1) × (flat_map preorder all ≡ ns ++ flat_map preorder trees)) → IsOneTree (ns ++ flat_map preorder trees)
    by ([], t) = absurd (let a = t.0 in omega arith)
    by (tree ∷ [], t) = record { tree = tree; listed = sym (append-nil (preorder tree)) ∙ t.1 }
    by (tree ∷ next ∷ all, t) = absurd (let a = t.0 in omega arith)

-- leaves without shares in the place of what is due
abbrev pub tips : ℕ → List Tree
tips e = replicate e (Tip [])

-- ---- one node
pub node_begins : (n : Node) (m : List Phrase) → begins is_node (node_phrases n ++ m) ≡ true
node_begins (Split j k) m = refl
node_begins (Leaf combo) m = refl

-- a phrase that begins a node is no share
no_share : (q : Phrase) → is_node q ≡ true → share_of q ≡ None
no_share (Phrase.Use s) h = absurd (true≢false (sym h))
no_share q h = refl

not_on : (n : Node) (q : Phrase) → is_node q ≡ true → nodes_on (n ∷ []) q ≡ false
not_on (Split j k) q h = refl
not_on (Leaf combo) q h = ap (λ o. is_there (next_in may_use combo.shares o)) (no_share q h)

pub not_on_front : (n : Node) (m : List Phrase) → begins is_node m ≡ true → begins (nodes_on (n ∷ [])) m ≡ false
not_on_front n [] h = absurd (true≢false (sym h))
not_on_front n (q ∷ m) h = not_on n q h

-- the last node decides what goes on with nodes
pub last_on : (ns : List Node) (n : Node) (q : Phrase) → nodes_on (ns ++ n ∷ []) q ≡ nodes_on (n ∷ []) q
last_on [] n q = refl
last_on (m ∷ []) n q = refl
last_on (m ∷ o ∷ ns) n q = last_on (o ∷ ns) n q

module _ (model : Program) (names : IsWellFormed model) where
  -- a node is known by what it says
  pub node_alone : (a b : Node) (m n : List Phrase) → IsNodeFor model a → IsNodeFor model b → node_phrases a ++ m ≡ node_phrases b ++ n → begins (nodes_on (a ∷ [])) m ≡ false → begins (nodes_on (b ∷ [])) n ≡ false → a ≡ b
  node_alone (Split i k) (Split j l) m n ha hb e na nb = let same : Phrase.Split i k ≡ Phrase.Split j l = cc in let c : i ≡ j = cc in let d : k ≡ l = cc in ap (λ x. Split x k) c ∙ ap (λ x. Split j x) d
  node_alone (Split i k) (Leaf combo) m n ha hb e na nb = absurd (cc)
  node_alone (Leaf combo) (Split j l) m n ha hb e na nb = absurd (cc)
  node_alone (Leaf combo) (Leaf other) m n ha hb e na nb =
      let rest : map Phrase.Use combo.shares ++ m ≡ map Phrase.Use other.shares ++ n = cc in
      ap (λ ss. Leaf (record { shares = ss })) (uses_alone model names combo.shares other.shares m n ha hb rest na nb)

  -- what goes on with the first of nodes behind it: nothing, where another stands there
  first_apart : (n : Node) (ns : List Node) (m : List Phrase) → begins (nodes_on (n ∷ ns)) m ≡ false → begins (nodes_on (n ∷ [])) (flat_map node_phrases ns ++ m) ≡ false
  first_apart n [] m h = h
  first_apart n (o ∷ ns) m h = not_on_front n (flat_map node_phrases (o ∷ ns) ++ m) (subst (λ l. begins is_node l ≡ true) (sym (append_assoc (node_phrases o) (flat_map node_phrases ns) m)) (node_begins o (flat_map node_phrases ns ++ m)))

  next_apart : (n : Node) (ns : List Node) (m : List Phrase) → begins (nodes_on (n ∷ ns)) m ≡ false → begins (nodes_on ns) m ≡ false
  next_apart n [] [] h = refl
  next_apart n [] (q ∷ m) h = refl
  next_apart n (o ∷ ns) m h = h

  -- Trees and nodes that say the same: the trees have these nodes first. What is behind them is said by the trees that are left.
  pub trees_left : (d : ℕ) (ns : List Node) (e : ℕ) (trees : List Tree) (m rest : List Phrase) → Leaves d ns e → length trees ≡ d → All (IsNodeFor model) ns → All (IsNodeFor model) (flat_map preorder trees)
      → flat_map node_phrases (flat_map preorder trees) ++ m ≡ flat_map node_phrases ns ++ rest → begins (nodes_on (flat_map preorder trees)) m ≡ false → begins (nodes_on ns) rest ≡ false
      → (left : List Tree) × ((length left ≡ e) × (flat_map preorder trees ≡ ns ++ flat_map preorder left))
  trees_left d [] e trees m rest h l fs gs eq a b = (trees, (l ∙ h, refl))
  trees_left zero (n ∷ ns) e trees m rest h l fs gs eq a b = absurd h
  trees_left (suc d) (n ∷ ns) e [] m rest h l fs gs eq a b = absurd (omega arith)
  trees_left (suc d) (n ∷ ns) e (Tip shares ∷ trees) m rest h l fs gs eq a b =
      let root = Leaf (record { shares = shares }) in
      let same = node_alone root n (flat_map node_phrases (flat_map preorder trees) ++ m) (flat_map node_phrases ns ++ rest) (All-head (IsNodeFor model) root (flat_map preorder trees) gs) (All-head (IsNodeFor model) n ns fs)
      (sym (append_assoc (node_phrases root) (flat_map node_phrases (flat_map preorder trees)) m) ∙ eq ∙ append_assoc (node_phrases n) (flat_map node_phrases ns) rest)
      (first_apart root (flat_map preorder trees) m a) (first_apart n ns rest b) in
      let h2 : Leaves d ns e = subst (λ r. Leaves (suc d) (r ∷ ns) e) (sym same) h in
      let t = trees_left d ns e trees m rest h2 (omega arith) (All-tail (IsNodeFor model) n ns fs) (All-tail (IsNodeFor model) root (flat_map preorder trees) gs)
      (append_cancel_left (node_phrases n) _ _ (ap (λ r. node_phrases r ++ (flat_map node_phrases (flat_map preorder trees) ++ m)) (sym same) ∙ sym (append_assoc (node_phrases root) (flat_map node_phrases (flat_map preorder trees)) m) ∙ eq ∙ append_assoc (node_phrases n) (flat_map node_phrases ns) rest))
      (next_apart root (flat_map preorder trees) m a) (next_apart n ns rest b) in
      (t.0, (t.1.0, ap (λ r. r ∷ flat_map preorder trees) same ∙ ap (λ ms. n ∷ ms) t.1.1))
  trees_left (suc d) (n ∷ ns) e (Fork j k lower upper ∷ trees) m rest h l fs gs eq a b =
      let root = Split j k in
      let below = lower ∷ upper ∷ trees in
      let flat : flat_map preorder (Fork j k lower upper ∷ trees) ≡ root ∷ flat_map preorder below = ap (λ ms. root ∷ ms) (append_assoc (preorder lower) (preorder upper) (flat_map preorder trees)) in
      let gs2 = subst (All (IsNodeFor model)) flat gs in
      let eq2 = ap (λ ms. flat_map node_phrases ms ++ m) (sym flat) ∙ eq in
      let a2 = subst (λ ms. begins (nodes_on ms) m ≡ false) flat a in
      let same = node_alone root n (flat_map node_phrases (flat_map preorder below) ++ m) (flat_map node_phrases ns ++ rest) (All-head (IsNodeFor model) root (flat_map preorder below) gs2) (All-head (IsNodeFor model) n ns fs)
      (sym (append_assoc (node_phrases root) (flat_map node_phrases (flat_map preorder below)) m) ∙ eq2 ∙ append_assoc (node_phrases n) (flat_map node_phrases ns) rest)
      (first_apart root (flat_map preorder below) m a2) (first_apart n ns rest b) in
      let h2 : Leaves (suc (suc d)) ns e = subst (λ r. Leaves (suc d) (r ∷ ns) e) (sym same) h in
      let t = trees_left (suc (suc d)) ns e below m rest h2 (omega arith) (All-tail (IsNodeFor model) n ns fs) (All-tail (IsNodeFor model) root (flat_map preorder below) gs2)
      (append_cancel_left (node_phrases n) _ _ (ap (λ r. node_phrases r ++ (flat_map node_phrases (flat_map preorder below) ++ m)) (sym same) ∙ sym (append_assoc (node_phrases root) (flat_map node_phrases (flat_map preorder below)) m) ∙ eq2 ∙ append_assoc (node_phrases n) (flat_map node_phrases ns) rest))
      (next_apart root (flat_map preorder below) m a2) (next_apart n ns rest b) in
      (t.0, (t.1.0, flat ∙ ap (λ r. r ∷ flat_map preorder below) same ∙ ap (λ ms. n ∷ ms) t.1.1))
