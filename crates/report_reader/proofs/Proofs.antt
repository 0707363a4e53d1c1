-- Proofs are read node by node.
use Rattle.std.proofs.Common.{◌≡◌, refl, sym, ap, subst, ◌∙◌, ◌≤◌, ◌<◌, ℕ, zero, suc, ◌+◌, ℤ, Bool, true, false, true≢false, ◌||◌, List, [], ◌∷◌, ◌++◌, length, append_assoc, append-nil, Some, None, arith, ◌⊎◌, inl, inr}
use Rattle.std.specs.Prelude.{map, flat_map, All, Result, Ok, Err}
use Rattle.std.proofs.lemmas.List.{append_cancel_left, length-append, length-replicate}
use Rattle.std.proofs.lemmas.List.Concat.{flat_map-append}
use Rattle.std.proofs.lemmas.List.Elements.{All-nil, All-cons, All-head, All-append, All-push}
use Rattle.certs.proofs.Lists.{all_back}
use Rattle.certs.specs.declared.evidence.Combo.{Combo}
use Rattle.certs.specs.declared.evidence.Share.{Share}
use Rattle.certs.specs.declared.evidence.Node.{Node}
use Rattle.certs.specs.declared.evidence.Node.TheVariants.{Split, Leaf}
use Rattle.certs.specs.Proof.{Tree, Tip, Fork, preorder}
use Rattle.lp_model.specs.Program.{Program, IsWellFormed}
use Rattle.report_text.specs.declared.phrases.Phrase.{Phrase}
use Rattle.report_text.specs.Grammar.{node_phrases}
use Rattle.report_text.specs.Form.{IsNodeFor, is_one_leaf}
use Rattle.report_reader.specs.declared.reader.ReportStop.{ReportStop}
use Rattle.report_reader.specs.declared.cursor.Cursor.{Cursor}
use Rattle.report_reader.specs.declared.reader.ReportStop.TheVariants.{Memory}
use Rattle.report_reader.specs.Kinds.{word, both, begins, lines_from, IsCursorAt, IsFrontOf, IsWrong, IsOutcome, IsReading, IsReadingFrom, IsRead, IsEnded, IsCursor, Passes, PassesFrom, Pushes}
use Rattle.report_reader.specs.Things.{found, nodes_on, is_leaf, node, node_of, tree, uses, due_after}
use Rattle.report_reader.proofs.Both.{Alone, Follows, both_read}
use Rattle.report_reader.proofs.Passing.{Comes, ComesFrom, comes_start, comes_before, comes_whole, comes_wrong, comes_stopped, comes_more, says, one_ahead, word_read, word_alone, read_to, room, room_read, room_some}
use Rattle.report_reader.proofs.Sorted.{no_uses}
use Rattle.report_reader.proofs.Trees.{Leaves, one_more, one_tree, tips, is_node, node_begins, not_on_front, last_on, trees_left}

-- ---- one leaf
-- a tree of leaves is one
pub one_leaf : (t : Tree) → All (λ n. is_leaf n ≡ true) (preorder t) → is_one_leaf (preorder t) ≡ true
one_leaf (Tip shares) h = refl
one_leaf (Fork j k lower upper) h = absurd (true≢false (sym (All-head (λ n. is_leaf n ≡ true) (Split j k) (preorder lower ++ preorder upper) h)))

-- the nodes of one leaf are leaves
leaves_of : (ns : List Node) → is_one_leaf ns ≡ true → All (λ n. is_leaf n ≡ true) ns
leaves_of [] h = absurd (true≢false (sym h))
leaves_of (Split j k ∷ []) h = absurd (true≢false (sym h))
leaves_of (Leaf combo ∷ []) h = All-cons (λ n. is_leaf n ≡ true) (Leaf combo) [] refl (All-nil (λ n. is_leaf n ≡ true))
leaves_of (Split j k ∷ n ∷ ns) h = absurd (true≢false (sym h))
leaves_of (Leaf combo ∷ n ∷ ns) h = absurd (true≢false (sym h))

leaf_alone : (n : Node) → is_leaf n ≡ true → is_one_leaf (n ∷ []) ≡ true
leaf_alone (Split j k) h = absurd (true≢false (sym h))
leaf_alone (Leaf combo) h = refl

one_is_leaf : (n : Node) → is_one_leaf (n ∷ []) ≡ true → is_leaf n ≡ true
one_is_leaf (Split j k) h = h
one_is_leaf (Leaf combo) h = refl

tips_are_leaves : (d : ℕ) → All (λ n. is_leaf n ≡ true) (flat_map preorder (tips d))
tips_are_leaves zero = All-nil (λ n. is_leaf n ≡ true)
tips_are_leaves (suc d) = All-cons (λ n. is_leaf n ≡ true) (Leaf (record { shares = [] })) (flat_map preorder (tips d)) refl (tips_are_leaves d)

-- a tree takes the place of one that is due
tree_leaves : (t : Tree) (d : ℕ) (ns : List Node) (e : ℕ) → Leaves d ns e → Leaves (suc d) (preorder t ++ ns) e
tree_leaves (Tip shares) d ns e h = h
tree_leaves (Fork j k lower upper) d ns e h =
    subst (λ l. Leaves (suc (suc d)) l e) (sym (append_assoc (preorder lower) (preorder upper) ns)) (tree_leaves lower (suc d) (preorder upper ++ ns) e (tree_leaves upper d ns e h))

-- nodes of a proof so far
pub record Growing (model : Program) (splits : Bool) (ns : List Node) (due : ℕ) : Type 0 where
  pub leaves : Leaves 1 ns due
  pub each : All (IsNodeFor model) ns
  pub may : splits ≡ false → All (λ n. is_leaf n ≡ true) ns

-- what a loop keeps that reads them
pub record ReadsNodes (model : Program) (splits : Bool) (old mid : Cursor) (ns : List Node) (due : ℕ) : Type 0 where
  pub stands : IsCursor model mid
  pub came : Comes model (tree model splits) old mid (flat_map node_phrases ns)
  pub grown : (q : Phrase) → mid.ahead ≡ Ok q → Growing model splits ns due × ((due ≤ length ns + 1) × (nodes_on ns q ≡ false))

module _ (model : Program) (names : IsWellFormed model) (splits : Bool) where
  -- ---- a tree is known by what it says
  pub tree_alone : Alone (tree model splits)
  tree_alone a b m n ha hb e na nb =
      let t = ha.0.one in
      let u = hb.0.one in
      let hu : Leaves 1 b 0 = subst (λ l. Leaves 1 l 0) (append-nil (preorder u.tree) ∙ u.listed) (tree_leaves u.tree 0 [] 0 refl) in
      let is : flat_map preorder (t.tree ∷ []) ≡ a = append-nil (preorder t.tree) ∙ t.listed in
      let left = trees_left model names 1 b 0 (t.tree ∷ []) m n hu refl hb.0.each (subst (All (IsNodeFor model)) (sym is) ha.0.each) (ap (λ l. flat_map node_phrases l ++ m) is ∙ e) (subst (λ l. begins (nodes_on l) m ≡ false) (sym is) na) nb in
      sym is ∙ left.1.1 ∙ ap (λ l. b ++ l) (none left.0 left.1.0) ∙ append-nil b
    where
      none : (ts : List Tree) → length ts ≡ 0 → flat_map preorder ts ≡ []
      none [] h = refl
      none (t ∷ ts) h = absurd (omega arith)

  -- ---- nodes so far
  pub none_grown : Growing model splits [] 1
  none_grown = record { leaves = refl; each = All-nil (IsNodeFor model); may = λ e. All-nil (λ n. is_leaf n ≡ true) }

  pub node_grown : (ns : List Node) (due : ℕ) (n : Node) → Growing model splits ns (suc due) → (node model splits).IsFor n → Growing model splits (ns ++ n ∷ []) (due_after (suc due) n)
  node_grown ns due n h form = record {
    leaves = one_more 1 ns due n h.leaves;
    each = All-push (IsNodeFor model) ns n h.each form.0;
    may = λ e. All-push (λ n. is_leaf n ≡ true) ns n (h.may e) (one_is_leaf n (form.1 e));
  }

  tips_form : (d : ℕ) → All (IsNodeFor model) (flat_map preorder (tips d))
  tips_form zero = All-nil (IsNodeFor model)
  tips_form (suc d) = All-cons (IsNodeFor model) (Leaf (record { shares = [] })) (flat_map preorder (tips d)) (no_uses model) (tips_form d)

  -- with leaves in the place of what is due they are a proof
  pub grown_form : (ns : List Node) (due : ℕ) → Growing model splits ns due → (tree model splits).IsFor (ns ++ flat_map preorder (tips due))
  grown_form ns due h =
      let one = one_tree ns due (tips due) h.leaves (length-replicate due (Tip [])) in (
        record { one = one; each = All-append (IsNodeFor model) ns (flat_map preorder (tips due)) h.each (tips_form due) },
        λ e. ap is_one_leaf (sym one.listed) ∙ one_leaf one.tree (subst (All (λ n. is_leaf n ≡ true)) (sym one.listed) (All-append (λ n. is_leaf n ≡ true) ns (flat_map preorder (tips due)) (h.may e) (tips_are_leaves due))),
      )

  pub grown_front : (ns : List Node) (due : ℕ) → Growing model splits ns due → IsFrontOf (tree model splits) (flat_map node_phrases ns)
  grown_front ns due h = record {
    value = ns ++ flat_map preorder (tips due);
    form = grown_form ns due h;
    more = flat_map node_phrases (flat_map preorder (tips due));
    is = flat_map-append node_phrases ns (flat_map preorder (tips due));
  }

  -- The nodes of a proof that go on with these: one more, and what is behind it.
  record NextNode (ns all : List Node) (m rest : List Phrase) : Type 0 where
    pub root : Node
    pub others : List Node
    pub is : all ≡ ns ++ root ∷ others
    pub form : (node model splits).IsFor root
    pub said : node_phrases root ++ (flat_map node_phrases others ++ m) ≡ rest

  next_node : (ns : List Node) (due : ℕ) (all : List Node) (m rest : List Phrase) → Growing model splits ns (suc due) → (tree model splits).IsFor all → flat_map node_phrases all ++ m ≡ flat_map node_phrases ns ++ rest → begins (nodes_on all) m ≡ false → begins (nodes_on ns) rest ≡ false → NextNode ns all m rest
  next_node ns due all m rest h form e na nb = by left.0 left.1.0 left.1.1
    where
      is : flat_map preorder (form.0.one.tree ∷ []) ≡ all
      is = append-nil (preorder form.0.one.tree) ∙ form.0.one.listed

      left : (left : List Tree) × ((length left ≡ suc due) × (flat_map preorder (form.0.one.tree ∷ []) ≡ ns ++ flat_map preorder left))
      left = trees_left model names 1 ns (suc due) (form.0.one.tree ∷ []) m rest h.leaves refl h.each (subst (All (IsNodeFor model)) (sym is) form.0.each) (ap (λ l. flat_map node_phrases l ++ m) is ∙ e) (subst (λ l. begins (nodes_on l) m ≡ false) (sym is) na) nb

      found : (root : Node) (others : List Node) → all ≡ ns ++ root ∷ others → NextNode ns all m rest
      found root others cut = record {
        root = root;
        others = others;
        is = cut;
        form = (
          All-head (IsNodeFor model) root others (all_back (IsNodeFor model) ns (root ∷ others) (subst (All (IsNodeFor model)) cut form.0.each)),
          λ f. leaf_alone root (All-head (λ n. is_leaf n ≡ true) root others (all_back (λ n. is_leaf n ≡ true) ns (root ∷ others) (subst (All (λ n. is_leaf n ≡ true)) cut (leaves_of all (form.1 f))))),
        );
        said = append_cancel_left (flat_map node_phrases ns) _ _
            (ap (λ l. flat_map node_phrases ns ++ l) (sym (append_assoc (node_phrases root) (flat_map node_phrases others) m)) ∙ sym (append_assoc (flat_map node_phrases ns) (flat_map node_phrases (root ∷ others)) m)
            ∙ ap (λ l. l ++ m) (sym (flat_map-append node_phrases ns (root ∷ others)) ∙ ap (flat_map node_phrases) (sym cut)) ∙ e);
      }

      by : (ts : List Tree) → length ts ≡ suc due → flat_map preorder (form.0.one.tree ∷ []) ≡ ns ++ flat_map preorder ts → NextNode ns all m rest
      by [] l cut = absurd (omega arith)
      by (Tip shares ∷ ts) l cut = found (Leaf (record { shares = shares })) (flat_map preorder ts) (sym is ∙ cut)
      by (Fork j k lower upper ∷ ts) l cut = found (Split j k) ((preorder lower ++ preorder upper) ++ flat_map preorder ts) (sym is ∙ cut)

  -- a phrase that begins no node is wrong where a subtree is due
  found_node : (b : Bool) (n : Node) (m : List Phrase) (q : Phrase) (rest : List Phrase) → node_phrases n ++ m ≡ q ∷ rest → (b ≡ false → is_one_leaf (n ∷ []) ≡ true) → node_of b q ≡ None → ⊥
  found_node true (Split j k) m q rest e may none = let same : Phrase.Split j k ≡ q = cc in let t : Some (Split j k) ≡ None = ap (node_of true) same ∙ none in absurd (cc)
  found_node false (Split j k) m q rest e may none = true≢false (sym (may refl))
  found_node true (Leaf combo) m q rest e may none = let same : Phrase.Leaf ≡ q = cc in let t : Some (Leaf (record { shares = [] })) ≡ None = ap (node_of true) same ∙ none in absurd (cc)
  found_node false (Leaf combo) m q rest e may none = let same : Phrase.Leaf ≡ q = cc in let t : Some (Leaf (record { shares = [] })) ≡ None = ap (node_of false) same ∙ none in absurd (cc)

  pub wrong_node : (ns : List Node) (due : ℕ) (q : Phrase) → Growing model splits ns (suc due) → nodes_on ns q ≡ false → node_of splits q ≡ None → IsWrong (tree model splits) (flat_map node_phrases ns) q
  wrong_node ns due q h off none all m rest form e = by (begins (nodes_on all) m) refl
    where
      by : (b : Bool) → begins (nodes_on all) m ≡ b → begins (nodes_on all) m ≡ true
      by true f = f
      by false f =
          let next = next_node ns due all m (q ∷ rest) h form e f off in
          absurd (found_node splits next.root (flat_map node_phrases next.others ++ m) q rest next.said next.form.1 none)

  -- a node more
  pub more_nodes : (old mid new : Cursor) (ns : List Node) (due : ℕ) (n : Node) (q : Phrase) → IsCursor model new → Growing model splits ns (suc due) → nodes_on ns q ≡ false → mid.ahead ≡ Ok q → Comes model (tree model splits) old mid (flat_map node_phrases ns) → IsReading model (node model splits) mid new n
      → Comes model (tree model splits) old new (flat_map node_phrases (ns ++ n ∷ []))
  more_nodes old mid new ns due n q c h off f came read =
      subst (λ l. Comes model (tree model splits) old new l) (ap (λ l. flat_map node_phrases ns ++ l) (sym (append-nil (node_phrases n))) ∙ sym (flat_map-append node_phrases ns (n ∷ [])))
      (comes_more model names (tree model splits) (node model splits) (flat_map node_phrases ns) q right wrong old mid new n c came f read)
    where
      right : (front : List Phrase) → (front ≡ []) ⊎ ((tail : List Phrase) × (front ≡ q ∷ tail)) → IsFrontOf (node model splits) front → IsFrontOf (tree model splits) (flat_map node_phrases ns ++ front)
      right front starts t =
          let longer = grown_front (ns ++ t.value ∷ []) (due_after (suc due) t.value) (node_grown ns due t.value h t.form) in
          record {
            value = longer.value;
            form = longer.form;
            more = t.more ++ longer.more;
            is = longer.is ∙ ap (λ l. l ++ longer.more) (flat_map-append node_phrases ns (t.value ∷ []) ∙ ap (λ l. flat_map node_phrases ns ++ l) (append-nil (node_phrases t.value) ∙ t.is) ∙ sym (append_assoc (flat_map node_phrases ns) front t.more)) ∙ append_assoc (flat_map node_phrases ns ++ front) t.more longer.more;
          }

      wrong : (front : List Phrase) (r : Phrase) → ((tail : List Phrase) → (more : List Phrase) × (front ++ r ∷ tail ≡ q ∷ more)) → IsWrong (node model splits) front r → IsWrong (tree model splits) (flat_map node_phrases ns ++ front) r
      wrong front r head w all m rest form e = by (begins (nodes_on all) m) refl
        where
          ends : (ns2 : List Node) (root : Node) (others : List Node) → all ≡ ns2 ++ root ∷ others → begins (nodes_on (root ∷ [])) (flat_map node_phrases others ++ m) ≡ true → begins (nodes_on all) m ≡ false → ⊥
          ends ns2 root [] cut t f =
              let same : (l : List Phrase) → begins (nodes_on all) l ≡ begins (nodes_on (root ∷ [])) l = λ l. ap (λ a. begins (nodes_on a) l) cut ∙ same_begins l in
              true≢false (sym t ∙ sym (same m) ∙ f)
            where
              same_begins : (l : List Phrase) → begins (nodes_on (ns2 ++ root ∷ [])) l ≡ begins (nodes_on (root ∷ [])) l
              same_begins [] = refl
              same_begins (x ∷ l) = last_on ns2 root x
          ends ns2 root (o ∷ others) cut t f =
              true≢false (sym t ∙ not_on_front root (flat_map node_phrases (o ∷ others) ++ m) (subst (λ l. begins is_node l ≡ true) (sym (append_assoc (node_phrases o) (flat_map node_phrases others) m)) (node_begins o (flat_map node_phrases others ++ m))))

          by : (b : Bool) → begins (nodes_on all) m ≡ b → begins (nodes_on all) m ≡ true
          by true f = f
          by false f =
              let starts = head rest in
              let next = next_node ns due all m (front ++ r ∷ rest) h form (e ∙ append_assoc (flat_map node_phrases ns) front (r ∷ rest)) f (ap (begins (nodes_on ns)) starts.1 ∙ off) in
              absurd (ends ns next.root next.others next.is (w next.root (flat_map node_phrases next.others ++ m) rest next.form next.said) f)

  -- ---- the loop
  pub nodes_start : (old : Cursor) → IsCursor model old → ReadsNodes model splits old old [] 1
  nodes_start old c = record { stands = c; came = comes_start model names (tree model splits) old c; grown = λ q f. (none_grown, (omega arith, refl)) }

  pub node_some : (s : Result Phrase ReportStop) (n : Node) → found (node_of splits) s ≡ Some n → (q : Phrase) × (s ≡ Ok q)
  node_some (Ok q) n e = (q, refl)
  node_some (Err stop) n e = absurd (cc)

  said_some : (n : Node) → 0 < length (node_phrases n)
  said_some (Split j k) = omega arith
  said_some (Leaf combo) = omega arith

  -- a node is read, and pushed
  pub nodes_more : (old mid next new : Cursor) (ns ms : List Node) (due : ℕ) (n : Node) (q : Phrase) → mid.ahead ≡ Ok q → ReadsNodes model splits old mid ns (suc due) → IsRead model (node model splits) mid next n → IsCursor model next → Pushes next ns n new ms → ReadsNodes model splits old new ms (due_after (suc due) n)
  nodes_more old mid next new ns ms due n q f h read c pushes =
      let g = h.grown q f in
      let came = more_nodes old mid next ns due n q c g.0 g.1.1 f h.came read.reading in
      elim pushes [
        | inl p ↦ subst (λ (z : Cursor). ReadsNodes model splits old z ms (due_after (suc due) n)) (sym p.0) (subst (λ l. ReadsNodes model splits old next l (due_after (suc due) n)) (sym p.1) (record {
          stands = c;
          came = came;
          grown = λ r e. (
              let outcome = subst (λ s. IsReadingFrom model (node model splits) s mid next n) f read.reading in
              let passed = subst (λ s. IsOutcome model (node model splits) (lines_from model q mid.rest.now) mid.number n s next) e outcome in
              (node_grown ns due n g.0 passed.form, (few ns due n g.1.0, nodes_last ns n r ∙ subst (λ s. IsEnded (node model splits) n s) e read.ended))
              );
        }))
        | inr p ↦ subst (λ (z : Cursor). ReadsNodes model splits old z ms (due_after (suc due) n)) (sym p.0) (record {
          stands = record { names = c.names; at = tt };
          came = (let start = comes_before model names (tree model splits) old mid (flat_map node_phrases ns) q f h.came in subst (λ s. ComesFrom model (tree model splits) s old (record next { ahead = Err Memory }) (flat_map node_phrases ms)) (sym start.1) tt);
          grown = λ r e. absurd (cc);
        })
      ]
    where
      nodes_last : (ns : List Node) (n : Node) (r : Phrase) → nodes_on (ns ++ n ∷ []) r ≡ nodes_on (n ∷ []) r
      nodes_last ns n r = last_on ns n r

      few : (ns : List Node) (due : ℕ) (n : Node) → suc due ≤ length ns + 1 → due_after (suc due) n ≤ length (ns ++ n ∷ []) + 1
      few ns due (Split j k) h = let l = length-append ns (Split j k ∷ []) in omega arith
      few ns due (Leaf combo) h = let l = length-append ns (Leaf combo ∷ []) in omega arith

  -- fewer lines are left
  pub nodes_smaller : (mid next new : Cursor) (ns ms : List Node) (n : Node) (q : Phrase) → mid.ahead ≡ Ok q → IsCursor model mid → IsRead model (node model splits) mid next n → IsCursor model next → Pushes next ns n new ms → room new.ahead new.number < room mid.ahead mid.number
  nodes_smaller mid next new ns ms n q f c read d pushes = elim pushes [
    | inl p ↦ subst (λ (z : Cursor). room z.ahead z.number < room mid.ahead mid.number) (sym p.0) (room_read model names (node model splits) mid next n q f c d (said_some n) read.reading)
    | inr p ↦ subst (λ (z : Cursor). room z.ahead z.number < room mid.ahead mid.number) (sym p.0) (room_some model names mid q f c)
  ]

  -- where no node may stand though a subtree is due, reading stops
  pub nodes_wrong : (old mid new : Cursor) (ns : List Node) (due : ℕ) → ReadsNodes model splits old mid ns (suc due) → found (node_of splits) mid.ahead ≡ None → Passes model false mid new → IsRead model (tree model splits) old new ns
  nodes_wrong old mid new ns due h none passes = by mid.ahead refl passes
    where
      finish : (q : Phrase) → mid.ahead ≡ Ok q → IsReading model (tree model splits) old new ns
      finish q f =
          let g = h.grown q f in
          comes_wrong model names (tree model splits) old mid new (flat_map node_phrases ns) ns h.stands h.came passes (grown_front ns (suc due) g.0)
          (λ r e. wrong_node ns due r g.0 (h.grown r e).1.1 (subst (λ s. found (node_of splits) s ≡ None) e none))

      by : (s : Result Phrase ReportStop) → mid.ahead ≡ s → PassesFrom model s false mid new → IsRead model (tree model splits) old new ns
      by (Ok q) f t = record { reading = finish q f; ended = subst (λ (z : Cursor). IsEnded (tree model splits) ns z.ahead) (sym t) tt }
      by (Err stop) f t = subst (λ (z : Cursor). IsRead model (tree model splits) old z ns) (sym t) (record { reading = comes_stopped model names (tree model splits) old mid (flat_map node_phrases ns) ns stop f h.came; ended = subst (λ s. IsEnded (tree model splits) ns s) (sym f) tt })

  -- where none is due the proof is whole
  pub nodes_end : (old mid : Cursor) (ns : List Node) → ReadsNodes model splits old mid ns 0 → IsRead model (tree model splits) old mid ns
  nodes_end old mid ns h = by mid.ahead refl
    where
      by : (s : Result Phrase ReportStop) → mid.ahead ≡ s → IsRead model (tree model splits) old mid ns
      by (Ok q) f =
          let g = h.grown q f in
          let form = subst (tree model splits).IsFor (append-nil ns) (grown_form ns 0 g.0) in
          record { reading = comes_whole model names (tree model splits) old mid ns form h.came; ended = subst (λ s. IsEnded (tree model splits) ns s) (sym f) g.1.1 }
      by (Err stop) f = record { reading = comes_stopped model names (tree model splits) old mid (flat_map node_phrases ns) ns stop f h.came; ended = subst (λ s. IsEnded (tree model splits) ns s) (sym f) tt }

-- ---- one node
pub begun_leaf : (splits : Bool) (s : Result Phrase ReportStop) (combo : Combo) → found (node_of splits) s ≡ Some (Leaf combo) → s ≡ says Phrase.Leaf
begun_leaf splits (Err stop) combo e = absurd (cc)
begun_leaf splits (Ok Phrase.Leaf) combo e = refl
begun_leaf true (Ok q) combo e = absurd (cc)
begun_leaf false (Ok q) combo e = absurd (cc)

pub begun_is_leaf : (splits : Bool) (s : Result Phrase ReportStop) (n : Node) → is_leaf n ≡ true → found (node_of splits) s ≡ Some n → s ≡ says Phrase.Leaf
begun_is_leaf splits s (Split j k) leaf e = absurd (true≢false (sym leaf))
begun_is_leaf splits s (Leaf combo) leaf e = begun_leaf splits s combo e

split_of : (splits : Bool) (q : Phrase) (j : ℕ) (k : ℤ) → node_of splits q ≡ Some (Split j k) → (q ≡ Phrase.Split j k) × (splits ≡ true)
split_of true (Phrase.Split i l) j k e = let same : Split i l ≡ Split j k = cc in let a : i ≡ j = cc in let b : l ≡ k = cc in (ap (λ x. Phrase.Split x l) a ∙ ap (λ x. Phrase.Split j x) b, refl)
split_of splits Phrase.Leaf j k e = absurd (let t : Leaf (record { shares = [] }) ≡ Split j k = cc in cc)
split_of splits q j k e = absurd (let t : None ≡ Some (Split j k) = e in cc)

pub begun_split : (splits : Bool) (s : Result Phrase ReportStop) (j : ℕ) (k : ℤ) → found (node_of splits) s ≡ Some (Split j k) → (s ≡ says (Phrase.Split j k)) × (splits ≡ true)
begun_split splits (Err stop) j k e = absurd (let t : None ≡ Some (Split j k) = e in cc)
begun_split splits (Ok q) j k e = let t = split_of splits q j k e in (ap says t.0, t.1)

module _ (model : Program) (names : IsWellFormed model) where
  pub split_read : (old new : Cursor) (j : ℕ) (k : ℤ) → old.ahead ≡ Ok (Phrase.Split j k) → IsCursor model old → Passes model true old new → IsRead model (node model true) old new (Split j k)
  split_read old new j k f c passes =
      let form = (subst (λ s. IsCursorAt model s old) f c.at).0 in
      read_to model names (word (Phrase.Split j k)) (node model true) (λ u. Split j k) (λ u h. (form, λ e. absurd (true≢false e))) (λ u. refl) (λ u q. refl) old new tt c
      (λ p g w more rest h e. all p (sym g ∙ f) w more rest e)
      (word_read model names (Phrase.Split j k) true old new (λ e q g. one_ahead q (Phrase.Split j k) (sym g ∙ f)) (λ e g. true≢false e) c passes)
    where
      all : (p : Phrase) → says p ≡ says (Phrase.Split j k) → (w : Node) (more rest : List Phrase) → node_phrases w ++ more ≡ p ∷ rest → (u : Unit {0}) × (Unit {0} × (Split j k ≡ w))
      all p g (Split i l) more rest e =
          let same : p ≡ Phrase.Split j k = one_ahead p (Phrase.Split j k) g in
          let first : Phrase.Split i l ≡ p = cc in
          let both : Phrase.Split j k ≡ Phrase.Split i l = sym same ∙ sym first in
          let a : j ≡ i = cc in
          let b : k ≡ l = cc in
          (tt, (tt, ap (λ x. Split x k) a ∙ ap (λ x. Split i x) b))
      all p g (Leaf combo) more rest e =
          let same : p ≡ Phrase.Split j k = one_ahead p (Phrase.Split j k) g in
          let first : Phrase.Leaf ≡ p = cc in
          absurd (let both : Phrase.Leaf ≡ Phrase.Split j k = first ∙ same in cc)

  uses_behind : Follows (word Phrase.Leaf) (uses model)
  uses_behind = record { alone = word_alone model names Phrase.Leaf; some = []; form = no_uses model; apart = λ x y. off (map Phrase.Use y) }
    where
      off : (l : List Phrase) → begins (λ q. false) l ≡ false
      off [] = refl
      off (q ∷ l) = refl

  pub leaf_read : (splits : Bool) (old mid new : Cursor) (shares : List Share) → old.ahead ≡ Ok Phrase.Leaf → IsCursor model old → Passes model true old mid → IsCursor model mid → IsRead model (uses model) mid new shares → IsCursor model new → IsRead model (node model splits) old new (Leaf (record { shares = shares }))
  leaf_read splits old mid new shares f c passes d read e =
      read_to model names (both (word Phrase.Leaf) (uses model)) (node model splits) (λ v. Leaf (record { shares = v.1 })) (λ v h. (h.1, λ e. refl)) (λ v. refl) on old new (tt, shares) c
      (λ p g w more rest h e. all p (sym g ∙ f) w more rest h.0 e)
      (both_read model names (word Phrase.Leaf) (uses model) uses_behind old mid new tt shares (word_read model names Phrase.Leaf true old mid (λ e q g. one_ahead q Phrase.Leaf (sym g ∙ f)) (λ e g. true≢false e) c passes) d read e)
    where
      or_none : (b : Bool) → b ≡ (b || false)
      or_none true = refl
      or_none false = refl

      on : (v : (both (word Phrase.Leaf) (uses model)).Value) (q : Phrase) → nodes_on (Leaf (record { shares = v.1 }) ∷ []) q ≡ (both (word Phrase.Leaf) (uses model)).goes_on v q
      on v q = or_none ((uses model).goes_on v.1 q)

      all : (p : Phrase) → says p ≡ says Phrase.Leaf → (w : Node) (more rest : List Phrase) → IsNodeFor model w → node_phrases w ++ more ≡ p ∷ rest → (v : (both (word Phrase.Leaf) (uses model)).Value) × ((both (word Phrase.Leaf) (uses model)).IsFor v × (Leaf (record { shares = v.1 }) ≡ w))
      all p g (Leaf combo) more rest h e = ((tt, combo.shares), ((tt, h), refl))
      all p g (Split i l) more rest h e =
          let same : p ≡ Phrase.Leaf = one_ahead p Phrase.Leaf g in
          let first : Phrase.Split i l ≡ p = cc in
          absurd (let both : Phrase.Split i l ≡ Phrase.Leaf = first ∙ same in cc)

  pub begun_read : (splits : Bool) (old new : Cursor) (n : Node) → is_leaf n ≡ false → found (node_of splits) old.ahead ≡ Some n → IsCursor model old → Passes model true old new → IsRead model (node model splits) old new n
  begun_read splits old new (Leaf combo) leaf e c passes = absurd (true≢false leaf)
  begun_read splits old new (Split j k) leaf e c passes =
      let t = begun_split splits old.ahead j k e in
      subst (λ (b : Bool). IsRead model (node model b) old new (Split j k)) (sym t.1) (split_read old new j k t.0 c passes)
