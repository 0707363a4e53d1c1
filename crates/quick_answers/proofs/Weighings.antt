-- What a weighting that was checked shows of its members.
use Rattle.std.proofs.Common.{◌≡◌, ◌<◌, refl, sym, ap, ◌∙◌, subst, List, [], ◌∷◌, ◌++◌, length, get_or, arith}
use Rattle.std.specs.Prelude.{All}
use Rattle.std.proofs.lemmas.List.Elements.{All-cons, All-nil, All-weaker, Contains-append_right}
use Rattle.rational.specs.Rational.{ℚ}
use Rattle.lp_model.specs.declared.members.Member.{Member}
use Rattle.lp_model.specs.Program.{Program}
use Rattle.lp_model.specs.MemberSets.{SetValue}
use Rattle.lp_model.specs.Satisfaction.{IsIrreducible, IsUnsatisfiable, coordinate, values_at}
use Rattle.certs.specs.declared.evidence.Combo.{Combo}
use Rattle.certs.specs.declared.evidence.Node.{Node}
use Rattle.certs.specs.declared.evidence.Node.TheVariants.{Split, Leaf}
use Rattle.certs.specs.declared.evidence.Point.{Point}
use Rattle.certs.specs.declared.evidence.Proof.{Proof}
use Rattle.certs.specs.declared.evidence.Share.{Share}
use Rattle.certs.specs.declared.evidence.Source.{Source}
use Rattle.certs.specs.declared.evidence.Source.TheVariants.{Member as Of, Below, Above}
use Rattle.certs.specs.Alternative.{IsPrice, members_of, with_source}
use Rattle.certs.specs.Combination.{CombinationLaw, IsCombination, IsFrom, KeepsBranch}
use Rattle.certs.specs.Checks.{IsSetOf}
use Rattle.certs.specs.Named.{used_set}
use Rattle.certs.specs.Order.{AreSharesInOrder}
use Rattle.certs.specs.Proof.{IsProof, IsTreeProof, Tree, Tip, Fork, preorder}
use Rattle.certs.specs.Tales.{IsPointOf}
use Rattle.filter_steps.specs.Isolated.{AreWitnesses, without}
use Rattle.filter_steps.proofs.Witnessed.{satisfiable_by}
use Rattle.alt_polyhedron.specs.Pricing.{IsCheapestSet}
use Rattle.price_checks.specs.Costs.{HasCost, PricedLaw}
use Rattle.quick_answers.specs.Cores.{IsListed}

-- ---- the members of shares
-- what is from a list is from it with one more in front
more : (source other : Source) (list : List Member) → IsFrom list other → IsFrom (with_source source list) other
more (Of m) (Of n) list h = Contains-append_right (m ∷ []) list n h
more (Of m) (Below j) list h = tt
more (Of m) (Above j) list h = tt
more (Below i) other list h = h
more (Above i) other list h = h

-- the source of a share is from its own members
own : (source : Source) (list : List Member) → IsFrom (with_source source list) source
own (Of m) list = (0, omega arith, refl)
own (Below j) list = tt
own (Above j) list = tt

own_sources : (shares : List Share) → All (λ s. IsFrom (members_of shares) s.source) shares
own_sources [] = All-nil (λ (s : Share). IsFrom (members_of []) s.source)
own_sources (s ∷ shares) =
    All-cons (λ (t : Share). IsFrom (members_of (s ∷ shares)) t.source) s shares (own s.source (members_of shares))
    (All-weaker (λ (t : Share). IsFrom (members_of shares) t.source) (λ (t : Share). IsFrom (members_of (s ∷ shares)) t.source) (λ t h. more s.source t.source (members_of shares) h) shares (own_sources shares))

-- a combination is one of its own members
pub own_combination : (model : Program) (set : List Member) (shares : List Share) → IsCombination model set [] shares → IsCombination model (members_of shares) [] shares
own_combination model set shares h = record {
  positive = h.positive;
  there = λ k d l. record { from = own_sources shares k d l; number = (h.there k d l).number };
  cancels = h.cancels;
  contradicts = h.contradicts;
}

-- the one leaf's combination proves the set
pub leaf_proves : (model : Program) (set : List Member) (combo : Combo) (proof : Proof) → IsCombination model set [] combo.shares → proof.nodes ≡ Leaf combo ∷ [] → IsProof model set proof.nodes
leaf_proves model set combo proof h leaf = record { tree = Tip combo.shares; listed = sym leaf; proves = h }

-- ---- irreducible members
without_at : (front : List Member) (m : Member) (back : List Member) → without (front ++ m ∷ back) (length front) ≡ front ++ back
without_at [] m back = refl
without_at (f ∷ front) m back = ap (λ (l : List Member). f ∷ l) (without_at front m back)

in_front : (front : List Member) (m : Member) (back : List Member) → length front < length (front ++ m ∷ back)
in_front [] m back = omega arith
in_front (f ∷ front) m back = (let h = in_front front m back in omega (arith, h))

-- members that cannot be satisfied are irreducible where each has a witness
pub irreducible_by : (model : Program) (set : List Member) (points : List Point) → IsUnsatisfiable model set → AreWitnesses model set points → IsIrreducible model set
irreducible_by model set points cannot w = record {
  cannot = cannot;
  minimal = λ front m back is.
      let none : Point = record { values = [] } in
      let within : length front < length points = (let i = in_front front m back in let n = ap (λ (l : List Member). length l) is in let a = w.as_many in omega (arith, i, n, a)) in
      satisfiable_by model (front ++ back) (get_or points (length front) none)
      (subst (λ l. IsPointOf model l (get_or points (length front) none)) (ap (λ (l : List Member). without l (length front)) is ∙ without_at front m back) (w.each (length front) none within));
}

-- what has a combination cannot be satisfied
none_satisfies : (model : Program) (set : List Member) (shares : List Share) → CombinationLaw → IsCombination model set [] shares → IsUnsatisfiable model set
none_satisfies model set shares law h = λ s. law model set [] shares h (coordinate s.point) s.satisfies (All-nil (KeepsBranch (coordinate s.point)))

-- ---- a core
-- the leaf of a proof is one
one_leaf : (proof : Proof) (a b : Combo) → proof.nodes ≡ Leaf a ∷ [] → proof.nodes ≡ Leaf b ∷ [] → b ≡ a
one_leaf proof a b e f = (let same : Leaf b ∷ [] ≡ Leaf a ∷ [] = sym f ∙ e in cc)

pub cheapest_shown : (model : Program) (set : List Member) (combo : Combo) (proof : Proof) (members : SetValue) (total : ℚ) (price : Point) (points : List Point)
    → CombinationLaw → PricedLaw → proof.nodes ≡ Leaf combo ∷ [] → IsListed model proof members → IsCombination model set [] combo.shares → AreSharesInOrder combo.shares
    → HasCost model combo.shares total → length price.values ≡ length model.columns → IsPrice model set total (values_at price.values) → AreWitnesses model members.members points
    → IsCheapestSet model set members combo total price
cheapest_shown model set combo proof members total price points refutes priced leaf listed h ordered cost each is_price w =
    let same = one_leaf proof combo listed.combo leaf listed.leaf in
    let cheapest = (priced model set combo.shares total (values_at price.values) h cost is_price).0 in
    let own : IsCombination model members.members [] combo.shares = subst (λ (k : Combo). IsCombination model members.members [] k.shares) same listed.own_combination in
    record {
      positive = h.positive;
      ordered = ordered;
      weighting = cheapest.weighting;
      cheapest = cheapest;
      combination = h;
      set_of = listed.set_of;
      members_are = subst (λ (k : Combo). members.members ≡ members_of k.shares) same listed.members_are;
      own_combination = own;
      irreducible = irreducible_by model members.members points (none_satisfies model members.members combo.shares refutes own) w;
      total_is = cost.total;
      each_column = each;
      price_is = is_price;
    }

-- ---- the members of a proof's leaf
leaf_only : (model : Program) (set : List Member) (combo : Combo) (nodes : List Node) → nodes ≡ Leaf combo ∷ [] → (tree : Tree) → preorder tree ≡ nodes → IsTreeProof model set [] tree → IsCombination model set [] combo.shares
leaf_only model set combo nodes leaf (Tip shares) listed h = (let same : Leaf (record { shares = shares }) ∷ [] ≡ Leaf combo ∷ [] = listed ∙ leaf in let is : record { shares = shares } ≡ combo = cc in subst (λ (k : Combo). IsCombination model set [] k.shares) is h)
leaf_only model set combo nodes leaf (Fork j k lower upper) listed h = absurd (let same : Split j k ∷ (preorder lower ++ preorder upper) ≡ Leaf combo ∷ [] = listed ∙ leaf in let impossible : ⊥ = cc in impossible)

-- those that the proof uses, where they are the members of its leaf
pub leaf_listed : (model : Program) (set : SetValue) (combo : Combo) (proof : Proof) (members : SetValue) → proof.nodes ≡ Leaf combo ∷ [] → IsSetOf model set → IsProof model set.members proof.nodes
    → members ≡ used_set set proof.nodes → members.members ≡ members_of combo.shares → IsListed model proof members
leaf_listed model set combo proof members leaf same p used are = record {
  combo = combo;
  leaf = leaf;
  set_of = record { rows = ap (λ (s : SetValue). s.rows) used ∙ same.rows; columns = ap (λ (s : SetValue). s.columns) used ∙ same.columns };
  members_are = are;
  own_combination = subst (λ l. IsCombination model l [] combo.shares) (sym are) (own_combination model set.members combo.shares (leaf_only model set.members combo proof.nodes leaf p.tree p.listed p.proves));
}
