-- What combinations and duals of an elastic system are in the program.
use Rattle.std.proofs.Common.{◌≡◌, ◌+◌, ◌<◌, refl, sym, ◌∙◌, ap, subst, ℕ, Bool, true, false, true≢false, cond, ◌==◌, not, List, [], ◌∷◌, ◌++◌, map, length, get_or, Option, None, Some, IsSome, arith, inl, inr, eq-eqb, ne_eqb}
use Rattle.std.specs.Prelude.{All, AllPairs, Contains, IsTrue}
use Rattle.std.proofs.lemmas.Bool.{cases_lt, cond-false, not-true}
use Rattle.std.proofs.lemmas.List.{get_or-map, length-map}
use Rattle.std.proofs.lemmas.List.Elements.{All-contains, All-contains_itself, All-map, All-nil, All-weaker, filter_passes}
use Rattle.std.proofs.lemmas.List.Kept.{AllPairs-filter}
use Rattle.algebra.proofs.Ring.{x0, ◌:+◌, ◌:*◌, minus, zero_of, unit_of}
use Rattle.rational.specs.Rational.{ℚ, ◌+ℚ◌, ◌*ℚ◌, neg_ℚ, zero_ℚ, one_ℚ, ◌≤ℚ◌, ◌<ℚ◌}
use Rattle.rational.specs.Sum.{sum_over}
use Rattle.rational.specs.Linear.{Term, factor_of}
use Rattle.rational.proofs.Field.{ring_ℚ}
use Rattle.rational.proofs.Order.{le_of_lt_ℚ, le_refl_ℚ, lt_irrefl_ℚ, neg-le_ℚ}
use Rattle.rational.proofs.Sums.{sum_over-append, sum_over-ext_on}
use Rattle.lp_model.specs.declared.members.Member.{Member}
use Rattle.lp_model.specs.declared.members.Side.{Side}
use Rattle.lp_model.specs.declared.members.Side.TheVariants.{Lo, Up}
use Rattle.lp_model.specs.declared.parts.Weight.{Weight}
use Rattle.lp_model.specs.declared.parts.Weight.TheVariants.{Soft as Weighs, Rigid}
use Rattle.lp_model.specs.Program.{Program, IsWellFormed}
use Rattle.lp_model.specs.MemberSets.{IsMemberFor}
use Rattle.lp_model.specs.Members.{column_form, comes_before, form, has, is_same, side as member_side, weight}
use Rattle.lp_model.proofs.Orders.{after_differs, before_differs, not_itself}
use Rattle.lp_model.proofs.Sets.{Contains-filter, contains_of_has, same_members, same_self}
use Rattle.certs.specs.declared.evidence.Branch.{Branch}
use Rattle.certs.specs.declared.evidence.Source.TheVariants.{Member as Of}
use Rattle.certs.specs.declared.evidence.Share.{Share}
use Rattle.certs.specs.Alternative.{cost_of}
use Rattle.certs.specs.Combination.{number_or_zero, signed, multiple, source_form, source_number, IsThere, column_sum, right_side}
use Rattle.certs.specs.Elastic.{cost_terms, elastic_factor, soft_members}
use Rattle.certs.specs.Named.{member_of, named, IsNamedCombination}
use Rattle.certs.specs.Order.{AreSharesInOrder, source_before}
use Rattle.certs.specs.System.{LinearSystem, VariableShare, limit_on, variable_form, variable_limits}
use Rattle.certs.specs.Violation.{IsWithinWeight, is_of, is_rigid, rigid_members, weight_on}
use Rattle.certs.proofs.Further.{factor_past, further_columns_law}
use Rattle.simplex.specs.Duals.{IsNamedDual, IsVariableDual}
use Rattle.relaxation.specs.declared.systems.Costs.{Costs}
use Rattle.relaxation.specs.declared.systems.Costs.TheVariants.{Weights}
use Rattle.relaxation.specs.Costs.{cost_by, objective_by, system_by}
use Rattle.relaxation.specs.Laws.{IsElastic, RefutesEnforced, ShowsLeast}
use Rattle.relaxation.specs.Origins.{origins}
use Rattle.relaxation.specs.Shares.{placed, source_member}
use Rattle.relaxation.specs.declared.origins.Origin.{Origin}
use Rattle.relaxation.proofs.Formed.{member_form}
use Rattle.relaxation.proofs.Inserted.{AreApart, IsFor, all_ordered, counted, placed_all, placed_sum}
use Rattle.relaxation.proofs.Rows.{length_columns}
use Rattle.relaxation.proofs.Soft.{IsNumbered}
use Rattle.relaxation.proofs.Standing.{IsMember, Standing, member_at, one_source, stands}
use Rattle.relaxation.proofs.Standing.Standing.{OfBound, OfLimit, OfRow, OfSoft}
use Rattle.relaxation.proofs.Sums.{all_nothing, costs_at, costs_before, sum_over-le, sum_over-map, sum_over-neg}

-- ---- what a share of an elastic variable adds to its column
with_factor : (side : Side) (w : ℚ) (b : Bool) → signed side w *ℚ cond b (elastic_factor side) zero_ℚ ≡ neg_ℚ (cond b w zero_ℚ)
with_factor Lo w true = ring_ℚ (w ∷ []) (minus x0 :* unit_of) (minus x0) tt
with_factor Lo w false = ring_ℚ (w ∷ []) (minus x0 :* zero_of) (minus zero_of) tt
with_factor Up w true = ring_ℚ (w ∷ []) (x0 :* minus unit_of) (minus x0) tt
with_factor Up w false = ring_ℚ (w ∷ []) (x0 :* zero_of) (minus zero_of) tt

of_limit : (w : ℚ) (b : Bool) → neg_ℚ w *ℚ (cond b one_ℚ zero_ℚ +ℚ zero_ℚ) ≡ neg_ℚ (cond b w zero_ℚ)
of_limit w true = ring_ℚ (w ∷ []) (minus x0 :* (unit_of :+ zero_of)) (minus x0) tt
of_limit w false = ring_ℚ (w ∷ []) (minus x0 :* (zero_of :+ zero_of)) (minus zero_of) tt

-- a positive number counts no less where more hold
part_below : (t b : Bool) (w : ℚ) → zero_ℚ <ℚ w → (t ≡ true → b ≡ true) → cond t w zero_ℚ ≤ℚ cond b w zero_ℚ
part_below true b w p h = subst (λ z. w ≤ℚ cond z w zero_ℚ) (sym (h refl)) (le_refl_ℚ w)
part_below false true w p h = le_of_lt_ℚ p
part_below false false w p h = le_refl_ℚ zero_ℚ

at_most_nothing : (w : ℚ) (b : Bool) → zero_ℚ <ℚ w → neg_ℚ (cond b w zero_ℚ) ≤ℚ zero_ℚ
at_most_nothing w b p =
    subst (λ z. neg_ℚ (cond b w zero_ℚ) ≤ℚ z) (ring_ℚ [] (minus zero_of) zero_of tt) (neg-le_ℚ (part_below false b w p (λ e. absurd (true≢false (sym e)))))

-- a form with one more term
last_factor : (terms : List Term) (t : Term) (j : ℕ) → factor_of (terms ++ t ∷ []) j ≡ factor_of terms j +ℚ (cond (t.column == j) t.factor zero_ℚ +ℚ zero_ℚ)
last_factor terms t j = sum_over-append (λ (s : Term). cond (s.column == j) s.factor zero_ℚ) terms (t ∷ [])

module _ (model : Program) (set enforced : List Member) (costs : Costs) (elastic : IsElastic model set enforced) (formed : IsWellFormed model) where
  abbrev system : LinearSystem
  system = system_by model set enforced costs

  abbrev n : ℕ
  n = length model.columns

  abbrev size : ℕ
  size = length system.columns

  abbrev softs : List Member
  softs = soft_members set enforced

  abbrev rows : List Origin
  rows = origins model set enforced

  abbrev Stands : ℕ → Side → Option Member → Type 0
  Stands v side q = Standing model set enforced costs elastic v side q

  abbrev member_of_limit : VariableShare → Option Member
  member_of_limit s = member_at model set enforced costs elastic s.variable s.side

  record IsFine (s : VariableShare) : Type 0 where
    positive : zero_ℚ <ℚ s.weight
    there : IsSome (limit_on (variable_limits system s.variable) s.side)
    what : Stands s.variable s.side (member_of_limit s)

  size_is : size ≡ n + length softs
  size_is = length_columns model set enforced (cost_by model costs)

  member_known : (m : Member) → IsMemberFor (length model.rows) n m → All (λ (t : Term). t.column < n) (form model m)
  member_known m l = (member_form model m formed l).known

  -- one soft member stands at one place
  one_at : (i j : ℕ) (d : Member) → i < length softs → j < length softs → is_same (get_or softs i d) (get_or softs j d) ≡ true → i ≡ j
  one_at i j d l m h =
      let kept : AllPairs (λ m n. IsTrue (comes_before m n)) softs = AllPairs-filter (λ m n. IsTrue (comes_before m n)) (λ m. not (has enforced m)) set elastic.ordered in
      elim (cases_lt i j) [
        | inl g ↦ absurd (true≢false (sym h ∙ before_differs (get_or softs i d) (get_or softs j d) (kept i j d g m)))
        | inr g ↦ (elim (cases_lt j i) [
          | inl k ↦ absurd (true≢false (sym h ∙ after_differs (get_or softs j d) (get_or softs i d) (kept j i d k l)))
          | inr k ↦ omega (arith, g, k)
        ])
      ]

  -- ---- its columns
  -- whether it is a row or a limit of elastic variable number i
  abbrev hits : (v : ℕ) (side : Side) (q : Option Member) → Stands v side q → ℕ → Bool
  hits v side q (OfBound a) i = false
  hits v side q (OfRow a) i = false
  hits v side q (OfSoft a) i = a.of.0 == (n + i)
  hits v side q (OfLimit a) i = v == (n + i)

  no_factor : (side : Side) (w : ℚ) (terms other : List Term) (i : ℕ) → All (λ (t : Term). t.column < n) terms → terms ≡ other → signed side w *ℚ factor_of other (n + i) ≡ neg_ℚ zero_ℚ
  no_factor side w terms other i h e =
      ap (λ z. signed side w *ℚ factor_of z (n + i)) (sym e)
      ∙ ap (λ z. signed side w *ℚ z) (factor_past n terms (n + i) h (omega arith))
      ∙ ring_ℚ (signed side w ∷ []) (x0 :* zero_of) (minus zero_of) tt

  -- what it adds there
  pull : (v : ℕ) (side : Side) (w : ℚ) (q : Option Member) (a : Stands v side q) (i : ℕ) → signed side w *ℚ factor_of (variable_form system v) (n + i) ≡ neg_ℚ (cond (hits v side q a i) w zero_ℚ)
  pull v side w q (OfBound a) i = no_factor side w _ (variable_form system v) i (member_known _ a.part.known) a.form_is
  pull v side w q (OfRow a) i = no_factor side w _ (variable_form system v) i (member_known _ a.part.known) a.form_is
  pull v side w q (OfSoft a) i =
      let m : Member = a.of.1 in
      let b : Bool = a.of.0 == (n + i) in
      ap (λ z. signed side w *ℚ factor_of z (n + i)) (sym a.form_is)
      ∙ ap (λ z. signed side w *ℚ z)
      (last_factor (form model m) (record { column = a.of.0; factor = elastic_factor (member_side m) }) (n + i)
      ∙ ap (λ z. z +ℚ (cond b (elastic_factor (member_side m)) zero_ℚ +ℚ zero_ℚ)) (factor_past n (form model m) (n + i) (member_known m a.part.known) (omega arith))
      ∙ ring_ℚ (cond b (elastic_factor (member_side m)) zero_ℚ ∷ []) (zero_of :+ (x0 :+ zero_of)) x0 tt)
      ∙ ap (λ z. signed side w *ℚ cond b (elastic_factor z) zero_ℚ) a.part.side_is
      ∙ with_factor side w b
  pull v side w q (OfLimit a) i =
      ap (λ z. signed side w *ℚ factor_of z (n + i)) (sym a.form_is)
      ∙ ap (λ z. signed z w *ℚ factor_of (column_form v) (n + i)) a.side_is
      ∙ of_limit w (v == (n + i))

  -- what a share of a member adds to a column, and to the right side
  abbrev in_column : ℕ → Share → ℚ
  in_column j s = multiple s *ℚ factor_of (source_form model s.source) j

  abbrev in_right : Share → ℚ
  in_right s = multiple s *ℚ number_or_zero (source_number model [] s.source)

  -- which is what the share of the limit adds to a column of the program
  column_value : (j : ℕ) → j < n → (s : VariableShare) → IsFine s
      → counted (in_column j) s.weight (member_of_limit s) ≡ signed s.side s.weight *ℚ factor_of (variable_form system s.variable) j
  column_value j l s h = by (member_of_limit s) h.what
    where
      plain : (q : Option Member) (m : Member) → IsMember model set enforced costs elastic s.variable s.side q m → form model m ≡ variable_form system s.variable
          → counted (in_column j) s.weight q ≡ signed s.side s.weight *ℚ factor_of (variable_form system s.variable) j
      plain q m a e = ap (counted (in_column j) s.weight) a.is ∙ (λ i. signed (a.side_is i) s.weight *ℚ factor_of (e i) j)

      by : (q : Option Member) → Stands s.variable s.side q → counted (in_column j) s.weight q ≡ signed s.side s.weight *ℚ factor_of (variable_form system s.variable) j
      by q (OfBound a) = plain q _ a.part a.form_is
      by q (OfRow a) = plain q _ a.part a.form_is
      by q (OfSoft a) =
          let m : Member = a.of.1 in
          let first = a.number.number in
          ap (counted (in_column j) s.weight) a.part.is
          ∙ ap (λ z. signed z s.weight *ℚ factor_of (form model m) j) a.part.side_is
          ∙ ap (λ z. signed s.side s.weight *ℚ z)
          (ring_ℚ (factor_of (form model m) j ∷ []) x0 (x0 :+ (zero_of :+ zero_of)) tt
          ∙ ap (λ z. factor_of (form model m) j +ℚ (z +ℚ zero_ℚ)) (sym (cond-false (a.of.0 == j) (elastic_factor (member_side m)) zero_ℚ (ne_eqb a.of.0 j (λ e. absurd (omega (arith, e, first, l))))))
          ∙ sym (last_factor (form model m) (record { column = a.of.0; factor = elastic_factor (member_side m) }) j))
          ∙ ap (λ z. signed s.side s.weight *ℚ factor_of z j) a.form_is
      by q (OfLimit a) =
          let at = a.at in
          ap (counted (in_column j) s.weight) a.none
          ∙ ring_ℚ (signed s.side s.weight ∷ []) zero_of (x0 :* (zero_of :+ zero_of)) tt
          ∙ ap (λ z. signed s.side s.weight *ℚ (z +ℚ zero_ℚ)) (sym (cond-false (s.variable == j) one_ℚ zero_ℚ (ne_eqb s.variable j (λ e. absurd (omega (arith, e, at, l))))))
          ∙ ap (λ z. signed s.side s.weight *ℚ factor_of z j) a.form_is

  -- and to the right side
  number_value : (s : VariableShare) → IsFine s
      → counted in_right s.weight (member_of_limit s) ≡ signed s.side s.weight *ℚ number_or_zero (limit_on (variable_limits system s.variable) s.side)
  number_value s h = by (member_of_limit s) h.what
    where
      plain : (q : Option Member) (m : Member) → IsMember model set enforced costs elastic s.variable s.side q m
          → counted in_right s.weight q ≡ signed s.side s.weight *ℚ number_or_zero (limit_on (variable_limits system s.variable) s.side)
      plain q m a = ap (counted in_right s.weight) a.is ∙ (λ i. signed (a.side_is i) s.weight *ℚ number_or_zero (a.number_is i))

      by : (q : Option Member) → Stands s.variable s.side q → counted in_right s.weight q ≡ signed s.side s.weight *ℚ number_or_zero (limit_on (variable_limits system s.variable) s.side)
      by q (OfBound a) = plain q _ a.part
      by q (OfRow a) = plain q _ a.part
      by q (OfSoft a) = plain q _ a.part
      by q (OfLimit a) =
          ap (counted in_right s.weight) a.none
          ∙ ring_ℚ (signed s.side s.weight ∷ []) zero_of (x0 :* zero_of) tt
          ∙ ap (λ z. signed s.side s.weight *ℚ number_or_zero z) (sym a.number_is)

  -- ---- the shares
  module _ (of : List VariableShare) (positive : All (λ s. zero_ℚ <ℚ s.weight) of) (known : All (λ s. s.variable < size + length system.rows) of)
      (there : All (λ s. IsSome (limit_on (variable_limits system s.variable) s.side)) of) where
    fine : All IsFine of
    fine k d l =
        let s : VariableShare = get_or of k d in
        record { positive = positive k d l; there = there k d l; what = stands model set enforced costs elastic s.variable s.side (known k d l) (there k d l) }

    abbrev given : List Share
    given = map (named size) of

    abbrev shares : List Share
    shares = placed n rows [] given

    total : (f : Share → ℚ) (g : VariableShare → ℚ) → ((s : VariableShare) → IsFine s → counted f s.weight (member_of_limit s) ≡ g s) → sum_over f shares ≡ sum_over g of
    total f g h =
        placed_sum n rows f [] given
        ∙ ring_ℚ (sum_over (λ s. counted f s.weight (source_member n rows s.source)) given ∷ []) (zero_of :+ x0) x0 tt
        ∙ sum_over-map (λ (s : Share). counted f s.weight (source_member n rows s.source)) (named size) of
        ∙ sum_over-ext_on IsFine (λ s. counted f s.weight (member_of_limit s)) g h of fine

    all_shares : (P : Share → Type 0) (Q : VariableShare → Type 0) → All Q of → ((s : VariableShare) → Q s → IsFor P s.weight (member_of_limit s)) → All P shares
    all_shares P Q q h =
        placed_all n rows P [] given (All-nil P)
        (All-map (λ (s : Share). IsFor P s.weight (source_member n rows s.source)) (named size) of (All-weaker Q (λ s. IsFor P s.weight (member_of_limit s)) h of q))

    column_is : (j : ℕ) → j < n → column_sum model shares j ≡ sum_over (λ s. signed s.side s.weight *ℚ factor_of (variable_form system s.variable) j) of
    column_is j l =
        total (in_column j) (λ s. signed s.side s.weight *ℚ factor_of (variable_form system s.variable) j) (column_value j l)

    right_is : right_side model [] shares ≡ sum_over (λ s. signed s.side s.weight *ℚ number_or_zero (limit_on (variable_limits system s.variable) s.side)) of
    right_is =
        total in_right (λ s. signed s.side s.weight *ℚ number_or_zero (limit_on (variable_limits system s.variable) s.side)) number_value

    -- the order
    in_order : AreSharesInOrder given → AreSharesInOrder shares
    in_order ordered = all_ordered n rows given apart
      where
        none : VariableShare
        none = record { variable = 0; side = Lo; weight = zero_ℚ }

        apart : AllPairs (AreApart n rows) given
        apart i j d l m a b e f =
            let within : j < length of = subst (λ z. j < z) (length-map of (named size)) m in
            let s : VariableShare = get_or of i none in
            let t : VariableShare = get_or of j none in
            let first : get_or given i d ≡ named size s = get_or-map (named size) of i none d (omega (arith, l, within)) in
            let second : get_or given j d ≡ named size t = get_or-map (named size) of j none d within in
            let before : comes_before (member_of size s.variable s.side) (member_of size t.variable t.side) ≡ true =
            subst (λ z. IsTrue (source_before (Of (member_of size s.variable s.side)) z.source)) second (subst (λ z. IsTrue (source_before z.source (get_or given j d).source)) first (ordered i j d l m)) in
            differ (member_of size s.variable s.side) (member_of size t.variable t.side) a b before
            (λ same. one_source model set enforced costs elastic s.variable t.variable s.side t.side (member_of_limit s) (member_of_limit t)
            (fine i none (omega (arith, l, within))).what (fine j none within).what b
            (ap (λ z. source_member n rows z.source) (sym first) ∙ e ∙ ap Some same) (ap (λ z. source_member n rows z.source) (sym second) ∙ f))
          where
            differ : (x y a b : Member) → comes_before x y ≡ true → (a ≡ b → x ≡ y) → is_same a b ≡ false
            differ x y a b before h = by (is_same a b) refl
              where
                by : (t : Bool) → is_same a b ≡ t → t ≡ false
                by true t = sym before ∙ ap (comes_before x) (sym (h (same_members a b t))) ∙ not_itself x
                by false t = refl

    -- columns past the last
    no_branches : All (λ (b : Branch). b.column < n) []
    no_branches = All-nil (λ (b : Branch). b.column < n)

    all_cancel : (from : List Member) → All (IsThere model from []) shares
        → ((j : ℕ) → j < n → sum_over (λ s. signed s.side s.weight *ℚ factor_of (variable_form system s.variable) j) of ≡ zero_ℚ) → (j : ℕ) → column_sum model shares j ≡ zero_ℚ
    all_cancel from h cancels j =
        elim (cases_lt j n) [
          | inl l ↦ column_is j l ∙ cancels j l
          | inr l ↦ further_columns_law model from [] shares formed no_branches h j l
        ]

    -- a member's share is there
    is_there : (from : List Member) (s : VariableShare) (q : Option Member) (m : Member) → IsFine s → IsMember model set enforced costs elastic s.variable s.side q m → Contains from m
        → IsFor (IsThere model from []) s.weight q
    is_there from s q m h a c =
        subst (IsFor (IsThere model from []) s.weight) (sym a.is) (record { from = c; number = subst (λ z. IsSome z) (sym a.number_is) h.there })

    positive_for : (s : VariableShare) (q : Option Member) → zero_ℚ <ℚ s.weight → IsFor (λ s. zero_ℚ <ℚ s.weight) s.weight q
    positive_for s None h = tt
    positive_for s (Some m) h = h

    all_positive : All (λ s. zero_ℚ <ℚ s.weight) shares
    all_positive = all_shares (λ s. zero_ℚ <ℚ s.weight) IsFine fine (λ s h. positive_for s (member_of_limit s) h.positive)

    -- ---- in a combination no elastic variable has a part
    abbrev pulled : ℕ → VariableShare → ℚ
    pulled i s = signed s.side s.weight *ℚ factor_of (variable_form system s.variable) (n + i)

    pulls_down : (i : ℕ) → All (λ s. pulled i s ≤ℚ zero_ℚ) of
    pulls_down i =
        All-weaker IsFine (λ s. pulled i s ≤ℚ zero_ℚ)
        (λ s h. subst (λ z. z ≤ℚ zero_ℚ) (sym (pull s.variable s.side s.weight (member_of_limit s) h.what i)) (at_most_nothing s.weight (hits s.variable s.side (member_of_limit s) h.what i) h.positive)) of fine

    record IsEnforced (s : VariableShare) : Type 0 where
      is_fine : IsFine s
      member : Member
      part : IsMember model set enforced costs elastic s.variable s.side (member_of_limit s) member
      is_enforced : has enforced member ≡ true

    module _ (cancels : (k : ℕ) → k < size → sum_over (λ s. signed s.side s.weight *ℚ factor_of (variable_form system s.variable) k) of ≡ zero_ℚ) where
      never_hits : (i : ℕ) → i < length softs → (k : ℕ) (d : VariableShare) (l : k < length of) → hits (get_or of k d).variable (get_or of k d).side (member_of_limit (get_or of k d)) (fine k d l).what i ≡ true → ⊥
      never_hits i within k d l h =
          let s : VariableShare = get_or of k d in
          let nothing : pulled i s ≡ zero_ℚ = all_nothing (pulled i) of (pulls_down i) (cancels (n + i) (let e = size_is in omega (arith, e, within))) k d l in
          let gone : s.weight ≡ zero_ℚ =
          ring_ℚ (s.weight ∷ []) x0 (minus (minus x0)) tt
          ∙ ap neg_ℚ (ap (λ b. neg_ℚ (cond b s.weight zero_ℚ)) (sym h) ∙ sym (pull s.variable s.side s.weight (member_of_limit s) (fine k d l).what i) ∙ nothing)
          ∙ ring_ℚ [] (minus zero_of) zero_of tt in
          lt_irrefl_ℚ (subst (λ z. zero_ℚ <ℚ z) gone (positive k d l))

      all_enforced : All IsEnforced of
      all_enforced k d l = by (fine k d l).what (λ i within h. never_hits i within k d l h)
        where
          by : let s : VariableShare = get_or of k d in
              (a : Stands s.variable s.side (member_of_limit s)) → ((i : ℕ) → i < length softs → hits s.variable s.side (member_of_limit s) a i ≡ true → ⊥) → IsEnforced s
          by (OfBound a) h = record { is_fine = fine k d l; member = _; part = a.part; is_enforced = a.there }
          by (OfRow a) h = record { is_fine = fine k d l; member = _; part = a.part; is_enforced = a.there }
          by (OfSoft a) h = absurd (h a.number.index a.number.below (eq-eqb a.of.0 (n + a.number.index) a.number.number))
          by (OfLimit a) h = absurd (h a.index a.below (eq-eqb (get_or of k d).variable (n + a.index) a.at))

      enforced_there : All (IsThere model enforced []) shares
      enforced_there =
          all_shares (IsThere model enforced []) IsEnforced all_enforced
          (λ s h. is_there enforced s (member_of_limit s) h.member h.is_fine h.part (contains_of_has enforced h.member h.is_enforced))

      refutes : sum_over (λ s. signed s.side s.weight *ℚ number_or_zero (limit_on (variable_limits system s.variable) s.side)) of <ℚ zero_ℚ → AreSharesInOrder given → RefutesEnforced model enforced shares
      refutes below ordered = record {
        combination = record {
          positive = all_positive;
          there = enforced_there;
          cancels = all_cancel enforced enforced_there (λ j l. cancels j (let e = size_is in omega (arith, e, l)));
          contradicts = subst (λ z. z <ℚ zero_ℚ) (sym right_is) below;
        };
        ordered = in_order ordered;
      }

    -- ---- the members of a dual
    set_there : All (IsThere model set []) shares
    set_there = all_shares (IsThere model set []) IsFine fine (λ s h. by s (member_of_limit s) h h.what)
      where
        by : (s : VariableShare) (q : Option Member) → IsFine s → Stands s.variable s.side q → IsFor (IsThere model set []) s.weight q
        by s q h (OfBound a) = is_there set s q _ h a.part a.part.in_set
        by s q h (OfRow a) = is_there set s q _ h a.part a.part.in_set
        by s q h (OfSoft a) = is_there set s q _ h a.part a.part.in_set
        by s q h (OfLimit a) = subst (IsFor (IsThere model set []) s.weight) (sym a.none) tt

    -- ---- in a dual no soft member counts more than it costs
    abbrev on_member : Member → Share → ℚ
    on_member m s = cond (is_of m s.source) s.weight zero_ℚ

    module _ (i : ℕ) (m : Member) (within : i < length softs) (at : get_or softs i m ≡ m) where
      free : has enforced m ≡ false
      free = not-true (has enforced m) (ap (λ m. not (has enforced m)) (sym at) ∙ filter_passes (λ m. not (has enforced m)) set i m within)

      not_enforced : (x : Member) → has enforced x ≡ true → is_same m x ≡ true → false ≡ true
      not_enforced x h e = sym free ∙ ap (has enforced) (same_members m x e) ∙ h

      numbered_so : (e : ℕ × Member) → IsNumbered n softs e → is_same m e.1 ≡ true → (e.0 == (n + i)) ≡ true
      numbered_so e h same =
          eq-eqb e.0 (n + i)
          (h.number
          ∙ ap (λ z. n + z) (one_at h.index i m h.below within (subst (λ z. is_same z (get_or softs i m) ≡ true) (sym (h.member m)) (subst (λ z. is_same e.1 z ≡ true) (sym at) (subst (λ z. is_same e.1 z ≡ true) (sym (same_members m e.1 same)) (same_self e.1))))))

      -- the share of the member is one of its elastic variable
      share_part : (s : VariableShare) → IsFine s → counted (on_member m) s.weight (member_of_limit s) ≤ℚ neg_ℚ (pulled i s)
      share_part s h =
          subst (λ z. counted (on_member m) s.weight (member_of_limit s) ≤ℚ z)
          (ring_ℚ (cond (hits s.variable s.side (member_of_limit s) h.what i) s.weight zero_ℚ ∷ []) x0 (minus (minus x0)) tt ∙ ap neg_ℚ (sym (pull s.variable s.side s.weight (member_of_limit s) h.what i)))
          (by (member_of_limit s) h.what)
        where
          one : (q : Option Member) (x : Member) (b : Bool) → q ≡ Some x → (is_same m x ≡ true → b ≡ true) → counted (on_member m) s.weight q ≤ℚ cond b s.weight zero_ℚ
          one q x b e k = subst (λ z. counted (on_member m) s.weight z ≤ℚ cond b s.weight zero_ℚ) (sym e) (part_below (is_same m x) b s.weight h.positive k)

          by : (q : Option Member) (a : Stands s.variable s.side q) → counted (on_member m) s.weight q ≤ℚ cond (hits s.variable s.side q a i) s.weight zero_ℚ
          by q (OfBound a) = one q _ false a.part.is (not_enforced _ a.there)
          by q (OfRow a) = one q _ false a.part.is (not_enforced _ a.there)
          by q (OfSoft a) = one q a.of.1 (a.of.0 == (n + i)) a.part.is (numbered_so a.of a.number)
          by q (OfLimit a) =
              subst (λ z. counted (on_member m) s.weight z ≤ℚ cond (s.variable == (n + i)) s.weight zero_ℚ) (sym a.none)
              (part_below false (s.variable == (n + i)) s.weight h.positive (λ e. absurd (true≢false (sym e))))

      costs_no_more : ((k : ℕ) → k < size → sum_over (λ s. signed s.side s.weight *ℚ factor_of (variable_form system s.variable) k) of ≡ factor_of (cost_terms (cost_by model costs) n softs) k)
          → weight_on shares m ≤ℚ cost_by model costs m
      costs_no_more matches =
          subst (λ z. z ≤ℚ cost_by model costs m) (sym (total (on_member m) (λ s. counted (on_member m) s.weight (member_of_limit s)) (λ s h. refl)))
          (subst (λ z. sum_over (λ s. counted (on_member m) s.weight (member_of_limit s)) of ≤ℚ z)
          (sum_over-neg (pulled i) of
          ∙ ap neg_ℚ (matches (n + i) (let e = size_is in omega (arith, e, within)) ∙ costs_at (cost_by model costs) n softs i m within)
          ∙ ring_ℚ (cost_by model costs (get_or softs i m) ∷ []) (minus (minus x0)) x0 tt
          ∙ ap (cost_by model costs) at)
          (sum_over-le IsFine (λ s. counted (on_member m) s.weight (member_of_limit s)) (λ s. neg_ℚ (pulled i s)) share_part of fine))

-- ---- a dual of the system with the rigid members enforced
module _ (model : Program) (set enforced : List Member) (elastic : IsElastic model set enforced) (formed : IsWellFormed model) (rigid : enforced ≡ rigid_members model set) where
  -- an enforced member is rigid
  enforced_rigid : (m : Member) → has enforced m ≡ true → is_rigid (weight model m) ≡ true
  enforced_rigid m h =
      All-contains (λ m. is_rigid (weight model m) ≡ true) enforced m
      (subst (All (λ m. is_rigid (weight model m) ≡ true)) (sym rigid) (filter_passes (λ m. is_rigid (weight model m)) set)) (contains_of_has enforced m h)

  not_enforced_soft : (m : Member) (w : ℚ) → weight model m ≡ Weighs w → not (has enforced m) ≡ true
  not_enforced_soft m w e = by (has enforced m) refl
    where
      by : (b : Bool) → has enforced m ≡ b → not b ≡ true
      by true h = absurd (true≢false (sym (enforced_rigid m h) ∙ ap is_rigid e))
      by false h = refl

  module _ (of : List VariableShare) (b : ℚ) (dual : IsVariableDual (system_by model set enforced Weights) of (objective_by model set enforced Weights) b) where
    abbrev found : List Share
    found = shares model set enforced Weights elastic formed of dual.positive dual.known dual.there

    within_weight : (m : Member) → Contains set m → (w : Weight) → weight model m ≡ w → IsWithinWeight (weight_on found m) w
    within_weight m c (Weighs w) e =
        let at : Contains (soft_members set enforced) m = Contains-filter (λ m. not (has enforced m)) set m c (not_enforced_soft m w e) in
        subst (λ z. weight_on found m ≤ℚ cost_of z) e (costs_no_more model set enforced Weights elastic formed of dual.positive dual.known dual.there at.0 m at.1 at.2 dual.matches)
    within_weight m c Rigid e = tt

    shows_least : AreSharesInOrder (map (named (length (system_by model set enforced Weights).columns)) of) → ShowsLeast model set found (neg_ℚ b)
    shows_least ordered =
        let there = set_there model set enforced Weights elastic formed of dual.positive dual.known dual.there in
        record {
          dual = record {
            positive = all_positive model set enforced Weights elastic formed of dual.positive dual.known dual.there;
            there = there;
            cancels = all_cancel model set enforced Weights elastic formed of dual.positive dual.known dual.there set there
                (λ j l. dual.matches j (let e = size_is model set enforced Weights elastic formed in omega (arith, e, l)) ∙ costs_before (cost_by model Weights) (length model.columns) (soft_members set enforced) j l);
            within = λ k d l. within_weight (get_or set k d) (All-contains_itself set k d l) (weight model (get_or set k d)) refl;
            total = ap neg_ℚ (sym (right_is model set enforced Weights elastic formed of dual.positive dual.known dual.there ∙ dual.bound));
          };
          ordered = in_order model set enforced Weights elastic formed of dual.positive dual.known dual.there ordered;
        }

-- ---- named
pub named_refutes : (model : Program) (set enforced : List Member) (costs : Costs) (shares : List Share) → IsElastic model set enforced → IsWellFormed model
    → IsNamedCombination (system_by model set enforced costs) shares → AreSharesInOrder shares
    → RefutesEnforced model enforced (placed (length model.columns) (origins model set enforced) [] shares)
named_refutes model set enforced costs list elastic formed h ordered =
    subst (λ z. RefutesEnforced model enforced (placed (length model.columns) (origins model set enforced) [] z)) (sym h.same)
    (refutes model set enforced costs elastic formed h.of h.combination.positive h.combination.known h.combination.there h.combination.cancels h.combination.contradicts (subst AreSharesInOrder h.same ordered))

pub named_least : (model : Program) (set enforced : List Member) (shares : List Share) (b : ℚ) → IsElastic model set enforced → IsWellFormed model → enforced ≡ rigid_members model set
    → IsNamedDual (system_by model set enforced Weights) (objective_by model set enforced Weights) shares b → AreSharesInOrder shares
    → ShowsLeast model set (placed (length model.columns) (origins model set enforced) [] shares) (neg_ℚ b)
named_least model set enforced list b elastic formed rigid h ordered =
    subst (λ z. ShowsLeast model set (placed (length model.columns) (origins model set enforced) [] z) (neg_ℚ b)) (sym h.same)
    (shows_least model set enforced elastic formed rigid h.of b h.dual (subst AreSharesInOrder h.same ordered))
