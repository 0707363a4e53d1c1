-- What each limit of an elastic system that is there is: an enforced bound, an enforced side of a row, a soft member, or a limit of an elastic variable.
use Rattle.std.proofs.Common.{◌≡◌, ◌+◌, ◌-◌, ◌<◌, ◌≤◌, refl, sym, ◌∙◌, ap, subst, ℕ, Bool, true, false, true≢false, cond, not, List, [], ◌∷◌, ◌++◌, map, length, get_or, Option, None, Some, IsSome, is_some, ltb, arith, inl, inr, lt-ltb}
use Rattle.std.specs.Prelude.{All, Contains}
use Rattle.std.proofs.lemmas.Bool.{cases_lt, cond-true, cond-false, le-ltb}
use Rattle.std.proofs.lemmas.List.{get_or-map, get_or_append_left}
use Rattle.std.proofs.lemmas.List.Elements.{All-contains, All-contains_itself, All-filter, All-get_or, filter_passes}
use Rattle.rational.specs.Rational.{ℚ, zero_ℚ}
use Rattle.lp_model.specs.declared.members.Member.{Member}
use Rattle.lp_model.specs.declared.members.Member.TheVariants.{Whole}
use Rattle.lp_model.specs.declared.members.Side.{Side}
use Rattle.lp_model.specs.declared.members.Side.TheVariants.{Lo, Up}
use Rattle.lp_model.specs.Program.{Program}
use Rattle.lp_model.specs.MemberSets.{IsMemberFor}
use Rattle.lp_model.specs.Members.{column_form, form, has, is_same, kind, number, place, side as member_side}
use Rattle.lp_model.proofs.Sets.{contains_of_has, same_self}
use Rattle.certs.specs.declared.evidence.Source.TheVariants.{Member as Of}
use Rattle.certs.specs.Elastic.{elastic_factor, numbered_soft, soft_members}
use Rattle.certs.specs.Ended.{numbers_from}
use Rattle.certs.specs.Named.{bound_of, row_side_of, member_of}
use Rattle.certs.specs.Plain.{number_in, column_limits, plain_row}
use Rattle.certs.specs.System.{Limits, LinearSystem, SystemRow, empty_system_row, no_limits, limit_on, variable_form, variable_limits}
use Rattle.certs.proofs.Translated.{length_mapped, mapped_at}
use Rattle.relaxation.specs.declared.systems.Costs.{Costs}
use Rattle.relaxation.specs.Costs.{cost_by, system_by}
use Rattle.relaxation.specs.Laws.{IsElastic}
use Rattle.relaxation.specs.Origins.{from_zero, limits_on, origin_row, origins}
use Rattle.relaxation.specs.Shares.{member_for, origin_side, source_member}
use Rattle.relaxation.specs.declared.origins.Origin.{Origin}
use Rattle.relaxation.specs.declared.origins.Origin.TheVariants.{Row, Soft}
use Rattle.relaxation.proofs.Distinct.{Apart, one_place, origins_apart}
use Rattle.relaxation.proofs.Joined.{at_back}
use Rattle.relaxation.proofs.Listed.{origins_all}
use Rattle.relaxation.proofs.Rows.{length_columns, length_rows, limit_is, rows_are}
use Rattle.relaxation.proofs.Soft.{IsNumbered, all_have_numbers, numbered}

-- ---- sides
bound_side : (j : ℕ) (side : Side) → member_side (bound_of j side) ≡ side
bound_side j Lo = refl
bound_side j Up = refl

row_side : (i : ℕ) (side : Side) → member_side (row_side_of i side) ≡ side
row_side i Lo = refl
row_side i Up = refl

-- a bound is no side of a row
not_both : (j i : ℕ) (side other : Side) → bound_of j side ≡ row_side_of i other → ⊥
not_both j i Lo Lo e = absurd (let h = ap kind e in omega (arith, h))
not_both j i Lo Up e = absurd (let h = ap kind e in omega (arith, h))
not_both j i Up Lo e = absurd (let h = ap kind e in omega (arith, h))
not_both j i Up Up e = absurd (let h = ap kind e in omega (arith, h))

-- a side of a row tells the row and the side
same_row : (i j : ℕ) (side other : Side) → row_side_of i side ≡ row_side_of j other → (i ≡ j) × (side ≡ other)
same_row i j Lo Lo e = ((let h = ap place e in omega (arith, h)), refl)
same_row i j Lo Up e = absurd (let h = ap place e in omega (arith, h))
same_row i j Up Lo e = absurd (let h = ap place e in omega (arith, h))
same_row i j Up Up e = ((let h = ap place e in omega (arith, h)), refl)

-- a row with one side has a limit on that side alone
one_side : (a b : Side) (o : Option ℚ) → IsSome (limit_on (limits_on a o) b) → (a ≡ b) × (o ≡ limit_on (limits_on a o) b)
one_side Lo Lo o h = (refl, refl)
one_side Lo Up o h = absurd (true≢false (sym h))
one_side Up Lo o h = absurd (true≢false (sym h))
one_side Up Up o h = (refl, refl)

module _ (model : Program) (set enforced : List Member) (costs : Costs) (elastic : IsElastic model set enforced) where
  abbrev system : LinearSystem
  system = system_by model set enforced costs

  abbrev n : ℕ
  n = length model.columns

  abbrev size : ℕ
  size = length system.columns

  abbrev softs : List Member
  softs = soft_members set enforced

  abbrev rows : List Origin
  rows = origins model set enforced

  abbrev IsKnown : Member → Type 0
  IsKnown m = IsMemberFor (length model.rows) n m

  size_is : size ≡ n + length softs
  size_is = length_columns model set enforced (cost_by model costs)

  -- ---- members
  in_set : (m : Member) → has enforced m ≡ true → Contains set m
  in_set m h = All-contains (Contains set) enforced m elastic.part (contains_of_has enforced m h)

  known_in : (m : Member) → Contains set m → IsKnown m
  known_in m c = All-contains IsKnown set m elastic.known c

  soft_in_set : (e : ℕ × Member) → IsNumbered n softs e → Contains set e.1
  soft_in_set e h = subst (Contains set) (h.member e.1) (All-filter (λ m. not (has enforced m)) (Contains set) set (All-contains_itself set) h.index e.1 h.below)

  soft_free : (e : ℕ × Member) → IsNumbered n softs e → not (has enforced e.1) ≡ true
  soft_free e h = ap (λ m. not (has enforced m)) (sym (h.member e.1)) ∙ filter_passes (λ m. not (has enforced m)) set h.index e.1 h.below

  member_there : (m : Member) (b : Bool) → has enforced m ≡ b → IsSome (cond b (number model m) None) → (number model m ≡ cond b (number model m) None) × (has enforced m ≡ true)
  member_there m true e h = (refl, e)
  member_there m false e h = absurd (true≢false (sym h))

  -- ---- what limits are
  -- a member that the side of the variable is
  pub record IsMember (v : ℕ) (side : Side) (q : Option Member) (m : Member) : Type 0 where
    pub is : q ≡ Some m
    pub side_is : member_side m ≡ side
    pub number_is : number model m ≡ limit_on (variable_limits system v) side
    pub in_set : Contains set m
    pub known : IsKnown m

  -- an enforced bound
  pub record IsBound (v : ℕ) (side : Side) (q : Option Member) : Type 0 where
    pub below : v < n
    pub part : IsMember v side q (bound_of v side)
    pub form_is : form model (bound_of v side) ≡ variable_form system v
    pub there : has enforced (bound_of v side) ≡ true

  -- an enforced side of a row
  pub record IsRow (v : ℕ) (side : Side) (q : Option Member) : Type 0 where
    pub index : ℕ
    pub below : index < length rows
    pub at : v ≡ size + index
    pub row : ℕ
    pub origin : get_or rows index (Row 0) ≡ Row row
    pub part : IsMember v side q (row_side_of row side)
    pub form_is : form model (row_side_of row side) ≡ variable_form system v
    pub there : has enforced (row_side_of row side) ≡ true

  -- a soft member, which its elastic variable relaxes
  pub record IsSoft (v : ℕ) (side : Side) (q : Option Member) : Type 0 where
    pub index : ℕ
    pub below : index < length rows
    pub at : v ≡ size + index
    pub of : ℕ × Member
    pub origin : get_or rows index (Row 0) ≡ Soft of.0 of.1
    pub part : IsMember v side q of.1
    pub form_is : form model of.1 ++ record { column = of.0; factor = elastic_factor (member_side of.1) } ∷ [] ≡ variable_form system v
    pub number : IsNumbered n softs of

  -- the limit of an elastic variable
  pub record IsLimit (v : ℕ) (side : Side) (q : Option Member) : Type 0 where
    pub index : ℕ
    pub below : index < length softs
    pub at : v ≡ n + index
    pub none : q ≡ None
    pub side_is : side ≡ Lo
    pub form_is : column_form v ≡ variable_form system v
    pub number_is : limit_on (variable_limits system v) side ≡ Some zero_ℚ

  pub data Standing (v : ℕ) (side : Side) (q : Option Member) : Type 0 where
    OfBound : IsBound v side q → Standing v side q
    OfRow : IsRow v side q → Standing v side q
    OfSoft : IsSoft v side q → Standing v side q
    OfLimit : IsLimit v side q → Standing v side q

  -- the member that a side of a variable is
  abbrev pub member_at : ℕ → Side → Option Member
  member_at v side = source_member n rows (Of (member_of size v side))

  -- ---- columns
  abbrev plain_columns : List Limits
  plain_columns = map (column_limits model enforced []) (numbers_from 0 n)

  count_is : length plain_columns ≡ n
  count_is = length_mapped (column_limits model enforced []) n

  column_at : (v : ℕ) → v < n → get_or system.columns v no_limits ≡ column_limits model enforced [] v
  column_at v l = get_or_append_left plain_columns (map (λ (m : Member). from_zero) softs) no_limits v (subst (λ z. v < z) (sym count_is) l) ∙ mapped_at (column_limits model enforced []) n v no_limits l

  variable_at : (v i : ℕ) → v ≡ n + i → i < length softs → get_or system.columns v no_limits ≡ from_zero
  variable_at v i e l =
      ap (λ z. get_or system.columns z no_limits) (e ∙ ap (λ z. z + i) (sym count_is))
      ∙ at_back plain_columns (map (λ (m : Member). from_zero) softs) i no_limits
      ∙ get_or-map (λ (m : Member). from_zero) softs i (Whole 0) no_limits l

  bound_member : (v : ℕ) (side : Side) → member_for n rows (bound_of v side) ≡ cond (ltb v n) (Some (bound_of v side)) None
  bound_member v Lo = refl
  bound_member v Up = refl

  bound_form : (j : ℕ) (side : Side) → form model (bound_of j side) ≡ column_form j
  bound_form j Lo = refl
  bound_form j Up = refl

  -- a variable that is no row
  module _ (v : ℕ) (side : Side) (l : v < size) where
    first : ltb v size ≡ true
    first = lt-ltb v size l

    limits_first : variable_limits system v ≡ get_or system.columns v no_limits
    limits_first = cond-true (ltb v size) (get_or system.columns v no_limits) (get_or system.rows (v - size) empty_system_row).limits first

    form_first : variable_form system v ≡ column_form v
    form_first = cond-true (ltb v size) (column_form v) (get_or system.rows (v - size) empty_system_row).terms first

    pub named_first : member_of size v side ≡ bound_of v side
    named_first = cond-true (ltb v size) (bound_of v side) (row_side_of (v - size) side) first

    member_first : member_at v side ≡ cond (ltb v n) (Some (bound_of v side)) None
    member_first = ap (λ m. member_for n rows m) named_first ∙ bound_member v side

    stands_bound : v < n → IsSome (limit_on (variable_limits system v) side) → Standing v side (member_at v side)
    stands_bound below h =
        let limit : limit_on (variable_limits system v) side ≡ number_in model enforced (bound_of v side) = ap (λ z. limit_on z side) (limits_first ∙ column_at v below) ∙ limit_is model enforced v side in
        let there = member_there (bound_of v side) (has enforced (bound_of v side)) refl (subst (λ z. IsSome z) limit h) in
        OfBound (record {
          below = below;
          part = record {
            is = member_first ∙ cond-true (ltb v n) (Some (bound_of v side)) None (lt-ltb v n below);
            side_is = bound_side v side;
            number_is = there.0 ∙ sym limit;
            in_set = in_set (bound_of v side) there.1;
            known = known_in (bound_of v side) (in_set (bound_of v side) there.1);
          };
          form_is = bound_form v side ∙ sym form_first;
          there = there.1;
        })

    lower_alone : (o : Side) → IsSome (limit_on from_zero o) → (o ≡ Lo) × (limit_on from_zero o ≡ Some zero_ℚ)
    lower_alone Lo h = (refl, refl)
    lower_alone Up h = absurd (true≢false (sym h))

    stands_limit : n ≤ v → IsSome (limit_on (variable_limits system v) side) → Standing v side (member_at v side)
    stands_limit past h =
        let i : ℕ = v - n in
        let at : v ≡ n + i = omega (arith, past) in
        let within : i < length softs = (let e = size_is in omega (arith, e, l, at)) in
        let limits : variable_limits system v ≡ from_zero = limits_first ∙ variable_at v i at within in
        let alone = lower_alone side (subst (λ z. IsSome (limit_on z side)) limits h) in
        OfLimit (record {
          index = i;
          below = within;
          at = at;
          none = member_first ∙ cond-false (ltb v n) (Some (bound_of v side)) None (le-ltb v n past);
          side_is = alone.0;
          form_is = sym form_first;
          number_is = ap (λ z. limit_on z side) limits ∙ alone.1;
        })

  -- ---- rows
  abbrev HasNumber : Origin → Type 0
  HasNumber (Row i) = Unit {0}
  HasNumber (Soft e m) = IsNumbered n softs (e, m)

  numbers_all : All HasNumber rows
  unfolding numbered
  numbers_all =
      origins_all model enforced HasNumber (IsNumbered n softs) (λ i l e. tt) (λ e some h. h)
      (numbered_soft n set enforced) (all_have_numbers n softs)

  row_limit : (i : ℕ) (side : Side) → limit_on (plain_row model enforced i).limits side ≡ number_in model enforced (row_side_of i side)
  row_limit i Lo = refl
  row_limit i Up = refl

  row_form : (i : ℕ) (side : Side) → form model (row_side_of i side) ≡ (plain_row model enforced i).terms
  row_form i Lo = refl
  row_form i Up = refl

  row_member : (k : ℕ) (side : Side) → member_for n rows (row_side_of k side) ≡ Some (origin_side (get_or rows k (Row 0)) side)
  row_member k Lo = refl
  row_member k Up = refl

  module _ (v k : ℕ) (side : Side) (at : v ≡ size + k) (l : k < length rows) where
    later : ltb v size ≡ false
    later = le-ltb v size (omega (arith, at))

    back : v - size ≡ k
    back = omega (arith, at)

    row_at : get_or system.rows (v - size) empty_system_row ≡ origin_row model enforced (get_or rows k (Row 0))
    row_at =
        ap (λ z. get_or system.rows z empty_system_row) back
        ∙ ap (λ z. get_or z k empty_system_row) (sym (rows_are model set enforced (cost_by model costs)))
        ∙ get_or-map (origin_row model enforced) rows k (Row 0) empty_system_row l

    limits_later : variable_limits system v ≡ (origin_row model enforced (get_or rows k (Row 0))).limits
    limits_later = cond-false (ltb v size) (get_or system.columns v no_limits) (get_or system.rows (v - size) empty_system_row).limits later ∙ ap (λ (r : SystemRow). r.limits) row_at

    form_later : variable_form system v ≡ (origin_row model enforced (get_or rows k (Row 0))).terms
    form_later = cond-false (ltb v size) (column_form v) (get_or system.rows (v - size) empty_system_row).terms later ∙ ap (λ (r : SystemRow). r.terms) row_at

    pub named_later : member_of size v side ≡ row_side_of k side
    named_later = cond-false (ltb v size) (bound_of v side) (row_side_of (v - size) side) later ∙ ap (λ z. row_side_of z side) back

    member_later : member_at v side ≡ Some (origin_side (get_or rows k (Row 0)) side)
    member_later = ap (λ m. member_for n rows m) named_later ∙ row_member k side

    stands_row : (o : Origin) → get_or rows k (Row 0) ≡ o → IsSome (limit_on (variable_limits system v) side) → Standing v side (member_at v side)
    stands_row (Row i) e h =
        let limit : limit_on (variable_limits system v) side ≡ number_in model enforced (row_side_of i side) = ap (λ z. limit_on z side) (limits_later ∙ ap (λ z. (origin_row model enforced z).limits) e) ∙ row_limit i side in
        let there = member_there (row_side_of i side) (has enforced (row_side_of i side)) refl (subst (λ z. IsSome z) limit h) in
        OfRow (record {
          index = k;
          below = l;
          at = at;
          row = i;
          origin = e;
          part = record {
            is = member_later ∙ ap (λ z. Some (origin_side z side)) e;
            side_is = row_side i side;
            number_is = there.0 ∙ sym limit;
            in_set = in_set (row_side_of i side) there.1;
            known = known_in (row_side_of i side) (in_set (row_side_of i side) there.1);
          };
          form_is = row_form i side ∙ sym (form_later ∙ ap (λ z. (origin_row model enforced z).terms) e);
          there = there.1;
        })
    stands_row (Soft e m) is h =
        let limits : variable_limits system v ≡ limits_on (member_side m) (number model m) = limits_later ∙ ap (λ z. (origin_row model enforced z).limits) is in
        let alone = one_side (member_side m) side (number model m) (subst (λ z. IsSome (limit_on z side)) limits h) in
        let number : IsNumbered n softs (e, m) =
        subst HasNumber is
        (All-get_or HasNumber rows k (Row 0) l numbers_all) in
        OfSoft (record {
          index = k;
          below = l;
          at = at;
          of = (e, m);
          origin = is;
          part = record {
            is = member_later ∙ ap (λ z. Some (origin_side z side)) is;
            side_is = alone.0;
            number_is = alone.1 ∙ sym (ap (λ z. limit_on z side) limits);
            in_set = soft_in_set (e, m) number;
            known = known_in m (soft_in_set (e, m) number);
          };
          form_is = sym (form_later ∙ ap (λ z. (origin_row model enforced z).terms) is);
          number = number;
        })

  -- ---- all
  pub stands : (v : ℕ) (side : Side) → v < size + length system.rows → IsSome (limit_on (variable_limits system v) side) → Standing v side (member_at v side)
  stands v side l h =
      elim (cases_lt v size) [
        | inl c ↦ (elim (cases_lt v n) [ inl b ↦ stands_bound v side c b h | inr b ↦ stands_limit v side c b h ])
        | inr c ↦
            (let k : ℕ = v - size in
            let at : v ≡ size + k = omega (arith, c) in
            let e = length_rows model set enforced (cost_by model costs) in
            let below : k < length rows = omega (arith, e, l, at) in
            stands_row v k side at below (get_or rows k (Row 0)) refl h)
      ]

  -- ---- two limits are not of one member
  some_same : (a b : Member) → Some a ≡ Some b → a ≡ b
  some_same a b e = ap (λ (o : Option Member). elim o [ Some m ↦ m | None ↦ a ]) e

  none_some : {A : Type 0} (m : Member) → None ≡ Some m → A
  none_some m e = absurd (true≢false (sym (ap is_some e)))

  both_free : (m : Member) {A : Type 0} → has enforced m ≡ true → not (has enforced m) ≡ true → A
  both_free m e f = absurd (true≢false (sym (sym (ap not e) ∙ f)))

  one_index : (k i : ℕ) (o p : Origin) → get_or rows k (Row 0) ≡ o → get_or rows i (Row 0) ≡ p → k < length rows → i < length rows → (Apart o p → ⊥) → (Apart p o → ⊥) → k ≡ i
  one_index k i o p e f l m a b =
      one_place rows k i (Row 0) (origins_apart model set enforced elastic.ordered) l m
      (λ h. a (subst (λ z. Apart z p) e (subst (Apart (get_or rows k (Row 0))) f h)))
      (λ h. b (subst (λ z. Apart z o) f (subst (Apart (get_or rows i (Row 0))) e h)))

  same_differs : (m n : Member) → m ≡ n → is_same m n ≡ false → ⊥
  same_differs m n e h = true≢false (sym (same_self m) ∙ ap (is_same m) e ∙ h)

  module _ (v w : ℕ) (side other : Side) (p q : Option Member) where
    -- the members of the two
    alike : (a b : Member) → p ≡ Some a → q ≡ Some b → p ≡ q → a ≡ b
    alike a b e f same = some_same a b (sym e ∙ same ∙ f)

    at_once : (k i : ℕ) → v ≡ size + k → w ≡ size + i → k < length rows → i < length rows → k ≡ i → side ≡ other → member_of size v side ≡ member_of size w other
    at_once k i at at' l m e f = named_later v k side at l ∙ ap (λ z. row_side_of z side) e ∙ ap (row_side_of i) f ∙ sym (named_later w i other at' m)

    pub one_source : Standing v side p → Standing w other q → (m : Member) → p ≡ Some m → q ≡ Some m → member_of size v side ≡ member_of size w other
    one_source (OfBound a) (OfBound b) m e f =
        named_first v side (let h = a.below in let k = size_is in omega (arith, h, k))
        ∙ alike (bound_of v side) (bound_of w other) a.part.is b.part.is (e ∙ sym f)
        ∙ sym (named_first w other (let h = b.below in let k = size_is in omega (arith, h, k)))
    one_source (OfBound a) (OfRow b) m e f = absurd (not_both v b.row side other (alike (bound_of v side) (row_side_of b.row other) a.part.is b.part.is (e ∙ sym f)))
    one_source (OfBound a) (OfSoft b) m e f = both_free b.of.1 (ap (has enforced) (sym (alike (bound_of v side) b.of.1 a.part.is b.part.is (e ∙ sym f))) ∙ a.there) (soft_free b.of b.number)
    one_source (OfBound a) (OfLimit b) m e f = none_some m (sym b.none ∙ f)
    one_source (OfRow a) (OfBound b) m e f = absurd (not_both w a.row other side (sym (alike (row_side_of a.row side) (bound_of w other) a.part.is b.part.is (e ∙ sym f))))
    one_source (OfRow a) (OfRow b) m e f =
        let both = same_row a.row b.row side other (alike (row_side_of a.row side) (row_side_of b.row other) a.part.is b.part.is (e ∙ sym f)) in
        at_once a.index b.index a.at b.at a.below b.below
        (one_index a.index b.index (Row a.row) (Row b.row) a.origin b.origin a.below b.below (λ h. h both.0) (λ h. h (sym both.0))) both.1
    one_source (OfRow a) (OfSoft b) m e f = both_free b.of.1 (ap (has enforced) (sym (alike (row_side_of a.row side) b.of.1 a.part.is b.part.is (e ∙ sym f))) ∙ a.there) (soft_free b.of b.number)
    one_source (OfRow a) (OfLimit b) m e f = none_some m (sym b.none ∙ f)
    one_source (OfSoft a) (OfBound b) m e f = both_free a.of.1 (ap (has enforced) (alike a.of.1 (bound_of w other) a.part.is b.part.is (e ∙ sym f)) ∙ b.there) (soft_free a.of a.number)
    one_source (OfSoft a) (OfRow b) m e f = both_free a.of.1 (ap (has enforced) (alike a.of.1 (row_side_of b.row other) a.part.is b.part.is (e ∙ sym f)) ∙ b.there) (soft_free a.of a.number)
    one_source (OfSoft a) (OfSoft b) m e f =
        let same = alike a.of.1 b.of.1 a.part.is b.part.is (e ∙ sym f) in
        at_once a.index b.index a.at b.at a.below b.below
        (one_index a.index b.index (Soft a.of.0 a.of.1) (Soft b.of.0 b.of.1) a.origin b.origin a.below b.below (same_differs a.of.1 b.of.1 same) (same_differs b.of.1 a.of.1 (sym same)))
        (sym a.part.side_is ∙ ap member_side same ∙ b.part.side_is)
    one_source (OfSoft a) (OfLimit b) m e f = none_some m (sym b.none ∙ f)
    one_source (OfLimit a) b m e f = none_some m (sym a.none ∙ e)
