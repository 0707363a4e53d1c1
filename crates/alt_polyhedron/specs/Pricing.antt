-- What the cheapest irreducible set of a set is, and its stops.
use Rattle.std.specs.Prelude.{◌≡◌, ⊤, ℕ, List, [], length, All}
use Rattle.rational.specs.Rational.{ℚ, zero_ℚ, ◌<ℚ◌}
use Rattle.lp_model.specs.declared.members.Member.{Member}
use Rattle.lp_model.specs.Program.{Program}
use Rattle.lp_model.specs.MemberSets.{SetValue}
use Rattle.lp_model.specs.Satisfaction.{values_at, IsIrreducible, IsSatisfiable}
use Rattle.certs.specs.declared.evidence.Combo.{Combo}
use Rattle.certs.specs.declared.evidence.Point.{Point}
use Rattle.certs.specs.declared.solving.Site.{Site}
use Rattle.certs.specs.declared.solving.SiteKind.TheVariants.{Alternative}
use Rattle.certs.specs.declared.solving.Stop.{Stop}
use Rattle.certs.specs.declared.solving.Stop.TheVariants.{Wide, Pivots, Nodes, Large, Memory}
use Rattle.certs.specs.Alternative.{cost, members_of, IsCheapest, IsPrice, IsWeighting}
use Rattle.certs.specs.Checks.{IsSetOf}
use Rattle.certs.specs.Combination.{IsCombination}
use Rattle.certs.specs.Order.{AreSharesInOrder}
use Rattle.certs.specs.Sites.{IsStopped}
use Rattle.alt_polyhedron.specs.declared.pricing.Priced.{Priced}
use Rattle.alt_polyhedron.specs.declared.pricing.Priced.TheVariants.{Feasible, Set}

-- A cheapest weighting of the set with right side -1, its weights above 0 and its shares in member order, which refutes the
-- set; the members that it uses, which it refutes alone and which are irreducible; its cost, and a price for that cost with a
-- value for each column.
pub record IsCheapestSet (model : Program) (set : List Member) (members : SetValue) (combo : Combo) (total : ℚ) (price : Point) : Type 0 where
  pub positive : All (λ s. zero_ℚ <ℚ s.weight) combo.shares
  pub ordered : AreSharesInOrder combo.shares
  pub weighting : IsWeighting model set combo.shares
  pub cheapest : IsCheapest model set combo.shares
  pub combination : IsCombination model set [] combo.shares
  pub set_of : IsSetOf model members
  pub members_are : members.members ≡ members_of combo.shares
  pub own_combination : IsCombination model members.members [] combo.shares
  pub irreducible : IsIrreducible model members.members
  pub total_is : cost model combo.shares ≡ total
  pub each_column : length price.values ≡ length model.columns
  pub price_is : IsPrice model set total (values_at price.values)

-- some point satisfies the set; or nothing does, and this is a cheapest irreducible set
abbrev pub IsPricing : Program → List Member → Priced → Type 0
IsPricing model set Feasible = IsSatisfiable model set
IsPricing model set (Set members combo total price) = IsCheapestSet model set members combo total price

-- the site is that of the system of the alternative of just this set, with no enforced part and on no path
pub record IsAlternativeSite (model : Program) (set : List Member) (site : Site) : Type 0 where
  pub kind : site.kind ≡ Alternative
  pub set_of : IsSetOf model site.set
  pub set_is : site.set.members ≡ set
  pub enforced_of : IsSetOf model site.enforced
  pub none_enforced : site.enforced.members ≡ []
  pub path_is : site.path ≡ []

-- Its run stops so within the pivots. Want of memory may come at any time.
abbrev pub IsPricingStop : Program → List Member → ℕ → Stop → Type 0
IsPricingStop model set pivots (Wide site step operation) = IsAlternativeSite model set site × IsStopped model (record { pivots = pivots; nodes = 0 }) (Wide site step operation)
IsPricingStop model set pivots (Pivots site) = IsAlternativeSite model set site × IsStopped model (record { pivots = pivots; nodes = 0 }) (Pivots site)
IsPricingStop model set pivots (Nodes site) = ⊥
IsPricingStop model set pivots (Large size) = ⊥
IsPricingStop model set pivots Memory = ⊤
