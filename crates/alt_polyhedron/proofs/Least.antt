-- What the dictionary gives where the cost is least is a cheapest irreducible set.
use Rattle.std.proofs.Common.{◌≡◌, ◌+◌, ◌<◌, sym, ◌∙◌, ap, subst, ℕ, List, [], ◌∷◌, length, is_some, arith}
use Rattle.std.specs.Prelude.{All, IsTrue}
use Rattle.std.proofs.lemmas.List.Kept.{AllPairs-filter}
use Rattle.algebra.proofs.Ring.{minus, unit_of, zero_of}
use Rattle.rational.specs.Rational.{ℚ, neg_ℚ, one_ℚ, zero_ℚ, ◌<ℚ◌}
use Rattle.rational.proofs.Order.{lt_by, positive-one}
use Rattle.lp_model.specs.declared.members.Member.{Member}
use Rattle.lp_model.specs.Program.{Program, IsWellFormed}
use Rattle.lp_model.specs.Members.{IsInOrder, comes_before, number}
use Rattle.lp_model.specs.MemberSets.{SetValue}
use Rattle.lp_model.specs.Satisfaction.{values_at, IsIrreducible}
use Rattle.certs.specs.declared.evidence.Combo.{Combo}
use Rattle.certs.specs.declared.evidence.Node.TheVariants.{Leaf}
use Rattle.certs.specs.declared.evidence.Point.{Point}
use Rattle.certs.specs.declared.evidence.Share.{Share}
use Rattle.certs.specs.Alternative.{cost, members_of, IsCheapest, IsPrice, IsWeighting}
use Rattle.certs.specs.Checks.{IsSetOf}
use Rattle.certs.specs.Combination.{IsCombination, IsFrom}
use Rattle.certs.specs.Named.{used_members, used_set}
use Rattle.certs.specs.Order.{AreSharesInOrder}
use Rattle.certs.specs.System.{CheapestLaw, IsLastTable, LastTableLaw, alternative_system, bounding, price_at, price_total, support}
use Rattle.certs.specs.Tableau.{Tableau, value_of}
use Rattle.evidence_laws.specs.Tables.{TermsLaw, terms_of}
use Rattle.dictionary.specs.Value.{DictionaryValue, tableau_of}
use Rattle.simplex.specs.Duals.{objective_multiple}
use Rattle.relaxation.specs.Runs.{StandsBest}
use Rattle.alt_polyhedron.specs.Pricing.{IsCheapestSet}
use Rattle.alt_polyhedron.specs.Reading.{IsPriceRead}
use Rattle.alt_polyhedron.proofs.Ending.{last_table, optimal, row_read, size_is}
use Rattle.alt_polyhedron.proofs.Prices.{same_price}
use Rattle.alt_polyhedron.proofs.Shares.{leaf_uses, support_each, support_from, support_in_order, support_same}

-- a right side of -1 contradicts
below_zero : (q : ℚ) → q ≡ neg_ℚ one_ℚ → q <ℚ zero_ℚ
below_zero q e = subst (λ z. z <ℚ zero_ℚ) (sym e) (lt_by [] (minus unit_of) zero_of unit_of positive-one tt)

-- ---- by the laws of last tables
pub record TableLaws : Type 0 where
  pub terms : TermsLaw
  pub last : LastTableLaw
  pub cheapest : CheapestLaw

module _ (laws : TableLaws) (model : Program) (set : List Member) (now : DictionaryValue) (formed : IsWellFormed model) (stands : StandsBest (alternative_system model set) now) where
  abbrev t : Tableau
  t = tableau_of now

  abbrev n : ℕ
  n = length (bounding model set)

  abbrev c : ℕ
  c = length model.columns

  abbrev shares : List Share
  shares = support (bounding model set) (value_of (tableau_of now))

  last : IsLastTable model set t.basis (terms_of t) (value_of t)
  last = last_table laws.terms model set now stands

  weighting : IsWeighting model set shares
  weighting = (laws.last model set t.basis (terms_of t) (value_of t) formed last).weighting

  irreducible : IsIrreducible model (members_of shares)
  irreducible = (laws.last model set t.basis (terms_of t) (value_of t) formed last).irreducible

  priced : IsPrice model set (price_total model set (terms_of t)) (price_at model set (terms_of t))
  priced = (laws.cheapest model set t.basis (terms_of t) (value_of t) formed last (optimal laws.terms model set now stands)).0

  cost_is : cost model shares ≡ price_total model set (terms_of t)
  cost_is = (laws.cheapest model set t.basis (terms_of t) (value_of t) formed last (optimal laws.terms model set now stands)).1

  cheapest : IsCheapest model set shares
  cheapest = (laws.cheapest model set t.basis (terms_of t) (value_of t) formed last (optimal laws.terms model set now stands)).2

  -- ---- as the dictionary's numbers
  total_read : price_total model set (terms_of t) ≡ objective_multiple t (n + c)
  total_read = row_read laws.terms model set now stands (n + c) (let s = size_is laws.terms model set now stands in omega (arith, s))

  price_read : (j : ℕ) → j < c → price_at model set (terms_of t) j ≡ neg_ℚ (objective_multiple t (n + j))
  price_read j l = ap neg_ℚ (row_read laws.terms model set now stands (n + j) (let s = size_is laws.terms model set now stands in omega (arith, s)))

  -- the values of the first variables give the support
  pub shares_are : (members : List Member) (list values : List ℚ) (made : List Share) → made ≡ support members (values_at list) → members ≡ bounding model set → list ≡ values
      → ((v : ℕ) → v < now.columns → values_at values v ≡ value_of (tableau_of now) v) → now.columns ≡ length (bounding model set)
      → made ≡ support (bounding model set) (value_of (tableau_of now))
  shares_are members list values made e m l at count =
      e
      ∙ ap (λ k. support k (values_at list)) m
      ∙ ap (λ z. support (bounding model set) (values_at z)) l
      ∙ support_same (bounding model set) (values_at values) (value_of t) (λ v b. at v (subst (λ k. v < k) (sym count) b))

  -- its shares are of the set
  pub shares_of_set : All (λ s. IsFrom set s.source) (support (bounding model set) (value_of (tableau_of now)))
  shares_of_set = λ k d l. (weighting.there k d l).from

  positive : All (λ s. zero_ℚ <ℚ s.weight) shares
  positive = support_each (λ s. zero_ℚ <ℚ s.weight) (bounding model set) (value_of t) (λ m q c p. p)

  refutes : (own : List Member) → All (λ s. IsFrom own s.source) shares → IsCombination model own [] shares
  refutes own from = record {
    positive = positive;
    there = λ k d l. record { from = from k d l; number = (weighting.there k d l).number };
    cancels = weighting.cancels;
    contradicts = below_zero _ weighting.contradicts;
  }

  ordered : IsInOrder set → AreSharesInOrder shares
  ordered h = support_in_order (bounding model set) (value_of t) (AllPairs-filter (λ a b. IsTrue (comes_before a b)) (λ m. is_some (number model m)) set h)

  pub cheapest_set : (old used : SetValue) (combo : Combo) (total : ℚ) (price : Point) → set ≡ old.members → IsSetOf model old → IsInOrder set
      → combo.shares ≡ support (bounding model set) (value_of (tableau_of now)) → used ≡ used_set old (Leaf combo ∷ [])
      → total ≡ objective_multiple (tableau_of now) (length (bounding model set) + length model.columns)
      → IsPriceRead (tableau_of now) (length (bounding model set)) (length model.columns) price.values → IsCheapestSet model set used combo total price
  cheapest_set old used combo total price of same order is uses sum read =
      let whole : price_total model set (terms_of t) ≡ total = total_read ∙ sym sum in
      let members : used.members ≡ members_of combo.shares =
      ap (λ (u : SetValue). u.members) uses ∙ ap (λ s. used_members s (Leaf combo ∷ [])) (sym of) ∙ leaf_uses (λ m. is_some (number model m)) set (value_of t) combo order is in
      let own : used.members ≡ members_of shares = members ∙ ap members_of is in
      record {
        positive = subst (All (λ (s : Share). zero_ℚ <ℚ s.weight)) (sym is) positive;
        ordered = subst AreSharesInOrder (sym is) (ordered order);
        weighting = subst (IsWeighting model set) (sym is) weighting;
        cheapest = subst (IsCheapest model set) (sym is) cheapest;
        combination = subst (IsCombination model set []) (sym is) (refutes set shares_of_set);
        set_of = subst (IsSetOf model) (sym uses) (record { rows = same.rows; columns = same.columns });
        members_are = members;
        own_combination = subst (λ l. IsCombination model l [] combo.shares) (sym own) (subst (IsCombination model (members_of shares) []) (sym is) (refutes (members_of shares) (support_from (bounding model set) (value_of t))));
        irreducible = subst (IsIrreducible model) (sym own) irreducible;
        total_is = ap (cost model) is ∙ cost_is ∙ whole;
        each_column = read.each_column;
        price_is = subst (λ q. IsPrice model set q (values_at price.values)) whole
            (same_price model formed (price_at model set (terms_of t)) (values_at price.values) (λ j l. price_read j l ∙ sym (read.values_are j l)) set (price_total model set (terms_of t)) priced);
      }
