-- What decides is a combination.
use Rattle.std.proofs.Common.{◌≡◌, ◌≢◌, ◌+◌, ◌<◌, refl, sym, ◌∙◌, ap, subst, ℕ, zero, suc, Bool, true, false, true≢false, cond, ◌&&◌, List, [], ◌∷◌, ◌++◌, map, length, filter, Option, Some, None, IsSome, is_some, arith, inl, inr}
use Rattle.std.specs.Prelude.{All, find, ◌⊎◌}
use Rattle.std.specs.Option.{option_or}
use Rattle.std.proofs.lemmas.List.Elements.{All-head, All-tail, All-nil, All-cons, All-append, All-get_or, All-weaker}
use Rattle.rational.specs.Rational.{ℚ, ◌+ℚ◌, ◌-ℚ◌, ◌*ℚ◌, neg_ℚ, zero_ℚ, one_ℚ, ◌<ℚ◌}
use Rattle.rational.specs.Sum.{sum_over}
use Rattle.rational.specs.Linear.{Term, factor_of}
use Rattle.rational.proofs.Field.{ring_ℚ, x0, x1, x2, ◌:+◌, ◌:-◌, ◌:*◌, minus, zero_of}
use Rattle.rational.proofs.Order.{lt_by, lt_q-true, positive_of_lt, positive_is, positive-one}
use Rattle.rational.proofs.Sums.{sum_over-append, sum_over-ext_on, sum_over-scale}
use Rattle.lp_model.specs.Program.{IsForm}
use Rattle.lp_model.specs.Members.{column_form}
use Rattle.lp_model.specs.declared.members.Side.{Side}
use Rattle.lp_model.specs.declared.members.Side.TheVariants.{Lo, Up}
use Rattle.certs.specs.Combination.{signed, number_or_zero}
use Rattle.certs.specs.Ended.{numbers_from}
use Rattle.certs.specs.Improves.{magnitude}
use Rattle.certs.specs.Plain.{crosses, crossing_shares}
use Rattle.certs.specs.System.{Limits, LinearSystem, VariableShare, IsVariableCombination, empty_system_row, variable_limits, limit_on}
use Rattle.certs.specs.Turns.{missed_side, is_under, is_over}
use Rattle.certs.proofs.Choices.{missed_there}
use Rattle.certs.proofs.PlainCuts.{crossing_combination}
use Rattle.certs.proofs.Sides.{all_both}
use Rattle.certs.proofs.Signs.{signed_as}
use Rattle.reductions.specs.declared.steps.Step.{Step}
use Rattle.reductions.specs.declared.steps.Step.TheVariants.{Empty, Redundant}
use Rattle.reductions.specs.Limited.{opposite, is_side, turned, is_narrow, taken, taken_value, is_finite}
use Rattle.reductions.specs.Stage.{Stage, row_in, limits_in, is_live}
use Rattle.reductions.specs.Rules.{Found, where_found, row_variable, share_on, empty_or_missed, empty_at, single_step, single_work, singleton_at, fixed_value, fixed_step, fixed_work, fixed_with, is_past, side_of_row, sum_of_row, taken_shares, is_impossible, impossible_shares, is_kept, is_forcing, forcing_step, pair_step, pair_work, pair_with, doubleton_at}
use Rattle.reductions.specs.Rules.Found.{Goes, Decides}
use Rattle.reductions.specs.Reduction.{Rule, found_at, found_in_row, places, first_found, rules}
use Rattle.reductions.specs.Reduction.Rule.{CrossingLimits, EmptyRow, SingletonRow, FixedColumn, ImpossibleRow, RedundantRow, ForcingRow, DoubletonRow}
use Rattle.reductions.specs.Laws.{IsFormed, DecidingLaw}
use Rattle.reductions.proofs.WeightSides.{turned_signed, opposite_signed, magnitude_positive, side_same}
use Rattle.reductions.proofs.WeightForcing.{every_all}
use Rattle.reductions.proofs.WeightFound.{BothPass, both_pass, finite_sum}
use Rattle.reductions.proofs.WeightShares.{share_sum}
use Rattle.reductions.proofs.WeightSystems.{form_by_columns, factor_at, limit_at, variables, column_form_at, column_limits_at, row_form_at, row_limits_at}

-- ---- what is found decides
decides_same : (s shares : List VariableShare) → ◌≡◌ {A = Option Found} (Some (Decides s)) (Some (Decides shares)) → s ≡ shares
decides_same s shares e = cc

none_decides : (shares : List VariableShare) → ◌≡◌ {A = Option Found} None (Some (Decides shares)) → ⊥
none_decides shares e = cc

goes_decides : (step : Step) (shares : List VariableShare) → ◌≡◌ {A = Option Found} (Some (Goes step)) (Some (Decides shares)) → ⊥
goes_decides step shares e = cc

where_goes_not : (b : Bool) (step : Step) (shares : List VariableShare) → where_found b (Goes step) ≡ Some (Decides shares) → ⊥
where_goes_not true step shares e = goes_decides step shares e
where_goes_not false step shares e = none_decides shares e

where_decides : (b : Bool) (s shares : List VariableShare) → where_found b (Decides s) ≡ Some (Decides shares) → (b ≡ true) × (s ≡ shares)
where_decides true s shares e = (refl, decides_same s shares e)
where_decides false s shares e = absurd (none_decides shares e)

-- ---- the first that is found
found_first : (a b : Option Found) (f : Found) → option_or a b ≡ Some f → (a ≡ Some f) ⊎ (b ≡ Some f)
found_first None b f e = inr e
found_first (Some g) b f e = inl e

-- it is found somewhere in the list, by what holds of its items
found_somewhere : {A : Type 0} (seek : A → Option Found) (P : A → Type 0) (C : Type 0) (f : Found) → ((a : A) → P a → seek a ≡ Some f → C) → (list : List A) → All P list → first_found seek list ≡ Some f → C
found_somewhere seek P C f use_it [] h e = absurd (let z : ◌≡◌ {A = Option Found} None (Some f) = e in cc)
found_somewhere seek P C f use_it (a ∷ list) h e = by (found_somewhere seek P C f use_it list (All-tail P a list h)) (found_first (seek a) (first_found seek list) f e)
  where
    by : (first_found seek list ≡ Some f → C) → (seek a ≡ Some f) ⊎ (first_found seek list ≡ Some f) → C
    by rest (inl k) = use_it a (All-head P a list h) k
    by rest (inr k) = rest k

numbers_all : (P : ℕ → Type 0) (a k : ℕ) → ((r : ℕ) → r < k → P (a + r)) → All P (numbers_from a k)
numbers_all P a zero h = All-nil P
numbers_all P a (suc k) h = All-append P (numbers_from a k) ((a + k) ∷ []) (numbers_all P a k (λ r l. h r (omega arith))) (All-cons P (a + k) [] (h k (omega arith)) (All-nil P))

-- the first variable whose limits cross
record CrossingFirst (system : LinearSystem) (list : List ℕ) (shares : List VariableShare) : Type 0 where
  variable : ℕ
  first : find (crosses system) list ≡ Some variable
  shares_are : crossing_shares variable ≡ shares

crossing_found : (stage : Stage) (shares : List VariableShare) (list : List ℕ) → first_found (found_at CrossingLimits stage) list ≡ Some (Decides shares) → CrossingFirst stage.system list shares
crossing_found stage shares [] e = absurd (none_decides shares e)
crossing_found stage shares (v ∷ list) e = by (crossing_found stage shares list) (crosses stage.system v) refl e
  where
    by : (first_found (found_at CrossingLimits stage) list ≡ Some (Decides shares) → CrossingFirst stage.system list shares) → (b : Bool) → crosses stage.system v ≡ b
        → option_or (where_found b (Decides (crossing_shares v))) (first_found (found_at CrossingLimits stage) list) ≡ Some (Decides shares) → CrossingFirst stage.system (v ∷ list) shares
    by rest true t k = record { variable = v; first = ap (λ b. cond b (Some v) (find (crosses stage.system) list)) t; shares_are = decides_same (crossing_shares v) shares k }
    by rest false t k =
        let tail : CrossingFirst stage.system list shares = rest k in
        record { variable = tail.variable; first = ap (λ b. cond b (Some v) (find (crosses stage.system) list)) t ∙ tail.first; shares_are = tail.shares_are }

-- ---- a row without columns that 0 does not keep
missed_zero : (limits : Limits) (side : Side) → missed_side limits zero_ℚ ≡ Some side → signed side (number_or_zero (limit_on limits side)) <ℚ zero_ℚ
missed_zero limits side e = by (is_under limits.lower zero_ℚ) (is_over limits.upper zero_ℚ) refl refl e
  where
    lower : (o : Option ℚ) → is_under o zero_ℚ ≡ true → signed Lo (number_or_zero o) <ℚ zero_ℚ
    lower None h = absurd (true≢false (sym h))
    lower (Some b) h = lt_by (b ∷ []) (minus x0) zero_of (x0 :- zero_of) (positive_of_lt (lt_q-true zero_ℚ b h)) tt

    upper : (o : Option ℚ) → is_over o zero_ℚ ≡ true → signed Up (number_or_zero o) <ℚ zero_ℚ
    upper None h = absurd (true≢false (sym h))
    upper (Some b) h = lt_q-true b zero_ℚ h

    by : (a b : Bool) → is_under limits.lower zero_ℚ ≡ a → is_over limits.upper zero_ℚ ≡ b → cond a (Some Lo) (cond b (Some Up) None) ≡ Some side → signed side (number_or_zero (limit_on limits side)) <ℚ zero_ℚ
    by true b f h q = (let same : Lo ≡ side = cc in subst (λ s. signed s (number_or_zero (limit_on limits s)) <ℚ zero_ℚ) same (lower limits.lower f))
    by false true f h q = (let same : Up ≡ side = cc in subst (λ s. signed s (number_or_zero (limit_on limits s)) <ℚ zero_ℚ) same (upper limits.upper h))
    by false false f h q = absurd (let z : ◌≡◌ {A = Option Side} None (Some side) = q in cc)

-- ---- the limits that a sum takes
signed_product : (side : Side) (m g : ℚ) → signed side m *ℚ g ≡ signed side (m *ℚ g)
signed_product Lo m g = ring_ℚ (m ∷ g ∷ []) (minus x0 :* x1) (minus (x0 :* x1)) tt
signed_product Up m g = refl

-- those on both sides
taken_sum : (sum : Side) (g : Side → ℕ → ℚ) (terms : List Term)
    → share_sum g (taken_shares sum terms Lo) +ℚ share_sum g (taken_shares sum terms Up) ≡ sum_over (λ t. signed (turned t.factor sum) (magnitude t.factor) *ℚ g (turned t.factor sum) t.column) terms
taken_sum sum g [] = ring_ℚ [] (zero_of :+ zero_of) zero_of tt
taken_sum sum g (t ∷ terms) = by (turned t.factor sum) (taken_sum sum g terms)
  where
    by : (side : Side) → share_sum g (taken_shares sum terms Lo) +ℚ share_sum g (taken_shares sum terms Up) ≡ sum_over (λ t. signed (turned t.factor sum) (magnitude t.factor) *ℚ g (turned t.factor sum) t.column) terms
        → share_sum g (map (λ t. share_on Lo t.column (magnitude t.factor)) (cond (is_side Lo side) (t ∷ filter (λ t. is_side Lo (turned t.factor sum)) terms) (filter (λ t. is_side Lo (turned t.factor sum)) terms)))
        +ℚ share_sum g (map (λ t. share_on Up t.column (magnitude t.factor)) (cond (is_side Up side) (t ∷ filter (λ t. is_side Up (turned t.factor sum)) terms) (filter (λ t. is_side Up (turned t.factor sum)) terms)))
        ≡ signed side (magnitude t.factor) *ℚ g side t.column +ℚ sum_over (λ t. signed (turned t.factor sum) (magnitude t.factor) *ℚ g (turned t.factor sum) t.column) terms
    by Lo h =
        ring_ℚ ((neg_ℚ (magnitude t.factor) *ℚ g Lo t.column) ∷ share_sum g (taken_shares sum terms Lo) ∷ share_sum g (taken_shares sum terms Up) ∷ []) ((x0 :+ x1) :+ x2) (x0 :+ (x1 :+ x2)) tt
        ∙ ap (λ z. neg_ℚ (magnitude t.factor) *ℚ g Lo t.column +ℚ z) h
    by Up h =
        ring_ℚ ((magnitude t.factor *ℚ g Up t.column) ∷ share_sum g (taken_shares sum terms Lo) ∷ share_sum g (taken_shares sum terms Up) ∷ []) (x1 :+ (x0 :+ x2)) (x0 :+ (x1 :+ x2)) tt
        ∙ ap (λ z. magnitude t.factor *ℚ g Up t.column +ℚ z) h

-- what holds of each limit that is taken holds of the shares
taken_all : (sum side : Side) (P : VariableShare → Type 0) (terms : List Term) → All (λ t. P (share_on (turned t.factor sum) t.column (magnitude t.factor))) terms → All P (taken_shares sum terms side)
taken_all sum side P [] h = All-nil P
taken_all sum side P (t ∷ terms) h =
    by (is_side side (turned t.factor sum)) refl (taken_all sum side P terms (All-tail (λ t. P (share_on (turned t.factor sum) t.column (magnitude t.factor))) t terms h))
  where
    by : (b : Bool) → is_side side (turned t.factor sum) ≡ b → All P (taken_shares sum terms side)
        → All P (map (λ t. share_on side t.column (magnitude t.factor)) (cond b (t ∷ filter (λ t. is_side side (turned t.factor sum)) terms) (filter (λ t. is_side side (turned t.factor sum)) terms)))
    by true e rest =
        All-cons P (share_on side t.column (magnitude t.factor)) (taken_shares sum terms side)
        (subst (λ s. P (share_on s t.column (magnitude t.factor))) (sym (side_same side (turned t.factor sum) e)) (All-head (λ t. P (share_on (turned t.factor sum) t.column (magnitude t.factor))) t terms h)) rest
    by false e rest = rest

module _ (system : LinearSystem) (formed : IsFormed system) (i : ℕ) (here : i < length system.rows) where
  abbrev n : ℕ
  n = length system.columns

  abbrev terms : List Term
  terms = (row_in system i).terms

  form : IsForm (length system.columns) (row_in system i).terms
  form = All-get_or (λ r. IsForm (length system.columns) r.terms) system.rows i empty_system_row here formed.rows

  row_below : n + i < variables system
  row_below = let l : i < length system.rows = here in omega arith

  -- a row without columns
  missed_combination : terms ≡ [] → (side : Side) → missed_side (row_in system i).limits zero_ℚ ≡ Some side → IsVariableCombination system (share_on side (row_variable system i) one_ℚ ∷ [])
  missed_combination none side e = record {
    positive = All-cons (λ s. zero_ℚ <ℚ s.weight) (share_on side (n + i) one_ℚ) [] (positive_is.1 positive-one) (All-nil (λ (s : VariableShare). zero_ℚ <ℚ s.weight));
    known = All-cons (λ s. s.variable < variables system) (share_on side (n + i) one_ℚ) [] row_below (All-nil (λ (s : VariableShare). s.variable < variables system));
    there = All-cons (λ s. IsSome (limit_on (variable_limits system s.variable) s.side)) (share_on side (n + i) one_ℚ) []
        (subst (λ z. IsSome (limit_on z side)) (sym (row_limits_at system n refl i)) (missed_there (row_in system i).limits zero_ℚ side e)) (All-nil (λ (s : VariableShare). IsSome (limit_on (variable_limits system s.variable) s.side)));
    cancels = λ k l. ap (λ z. signed side one_ℚ *ℚ factor_of z k +ℚ zero_ℚ) (row_form_at system n refl i ∙ none) ∙ ring_ℚ (signed side one_ℚ ∷ []) (x0 :* zero_of :+ zero_of) zero_of tt;
    contradicts = subst (λ z. z <ℚ zero_ℚ)
        (signed_as side (number_or_zero (limit_on (row_in system i).limits side))
        ∙ ring_ℚ ((signed side one_ℚ *ℚ number_or_zero (limit_on (row_in system i).limits side)) ∷ []) x0 (x0 :+ zero_of) tt
        ∙ ap (λ z. signed side one_ℚ *ℚ number_or_zero (limit_on z side) +ℚ zero_ℚ) (sym (row_limits_at system n refl i)))
        (missed_zero (row_in system i).limits side e);
  }

  -- ---- a row whose sum can not meet a side
  module _ (side : Side) (fails : is_impossible system i side ≡ true) where
    abbrev sum : Side
    sum = opposite side

    met : BothPass (is_past side) (side_of_row system i side) (sum_of_row system i sum)
    met = both_pass (is_past side) (side_of_row system i side) (sum_of_row system i sum) fails

    finite : (is_finite system sum terms ≡ true) × (sum_over (λ t. t.factor *ℚ taken_value system sum t) terms ≡ met.second)
    finite = finite_sum system sum terms met.second met.second_is

    past : (side : Side) (a b : ℚ) → is_past side a b ≡ true → signed side a -ℚ signed side b <ℚ zero_ℚ
    past Lo a b e = lt_by (a ∷ b ∷ []) (minus x0 :- minus x1) zero_of (x0 :- x1) (positive_of_lt (lt_q-true b a e)) tt
    past Up a b e = lt_by (a ∷ b ∷ []) (x0 :- x1) zero_of (x1 :- x0) (positive_of_lt (lt_q-true a b e)) tt

    record IsTaken (t : Term) : Type 0 where
      known : t.column < n
      some : t.factor ≢ zero_ℚ
      there : IsSome (taken system sum t)

    each : All IsTaken terms
    each =
        All-weaker (λ t. (t.column < n) × ((t.factor ≢ zero_ℚ) × (is_some (taken system sum t) ≡ true))) IsTaken (λ t h. record { known = h.0; some = h.1.0; there = h.1.1 }) terms
        (all_both (λ t. t.column < n) (λ t. (t.factor ≢ zero_ℚ) × (is_some (taken system sum t) ≡ true)) terms form.known
        (all_both (λ t. t.factor ≢ zero_ℚ) (λ t. is_some (taken system sum t) ≡ true) terms form.nonzero (every_all (λ t. is_some (taken system sum t)) terms finite.0)))

    -- the side of the row, less what the sum takes
    shares_total : (g : Side → ℕ → ℚ) (value : Term → ℚ) → ((t : Term) → IsTaken t → g (turned t.factor sum) t.column ≡ value t) → (total : ℚ) → sum_over (λ t. t.factor *ℚ value t) terms ≡ total
        → share_sum g (impossible_shares system i side) ≡ signed side one_ℚ *ℚ g side (n + i) -ℚ signed side one_ℚ *ℚ total
    shares_total g value at total is =
        let s : ℚ = signed side one_ℚ in
        ap (λ z. s *ℚ g side (n + i) +ℚ z)
        (sum_over-append (λ s. signed s.side s.weight *ℚ g s.side s.variable) (taken_shares sum terms Lo) (taken_shares sum terms Up)
        ∙ taken_sum sum g terms
        ∙ sum_over-ext_on IsTaken (λ t. signed (turned t.factor sum) (magnitude t.factor) *ℚ g (turned t.factor sum) t.column) (λ t. neg_ℚ s *ℚ (t.factor *ℚ value t))
        (λ t h.
        signed_product (turned t.factor sum) (magnitude t.factor) (g (turned t.factor sum) t.column)
        ∙ turned_signed t.factor sum (g (turned t.factor sum) t.column) h.some
        ∙ ap (λ z. signed sum (t.factor *ℚ z)) (at t h)
        ∙ opposite_signed side (t.factor *ℚ value t)
        ∙ ap neg_ℚ (signed_as side (t.factor *ℚ value t))
        ∙ ring_ℚ (s ∷ (t.factor *ℚ value t) ∷ []) (minus (x0 :* x1)) (minus x0 :* x1) tt)
        terms each
        ∙ sum_over-scale (neg_ℚ s) (λ t. t.factor *ℚ value t) terms
        ∙ ap (λ z. neg_ℚ s *ℚ z) is)
        ∙ ring_ℚ (s ∷ g side (n + i) ∷ total ∷ []) (x0 :* x1 :+ minus x0 :* x2) (x0 :* x1 :- x0 :* x2) tt

    share_list : (P : VariableShare → Type 0) → P (share_on side (n + i) one_ℚ) → ((t : Term) → IsTaken t → P (share_on (turned t.factor sum) t.column (magnitude t.factor))) → All P (impossible_shares system i side)
    share_list P p h =
        let taken_each : All (λ t. P (share_on (turned t.factor sum) t.column (magnitude t.factor))) terms = All-weaker IsTaken (λ t. P (share_on (turned t.factor sum) t.column (magnitude t.factor))) h terms each in
        All-cons P (share_on side (n + i) one_ℚ) (taken_shares sum terms Lo ++ taken_shares sum terms Up) p
        (All-append P (taken_shares sum terms Lo) (taken_shares sum terms Up) (taken_all sum Lo P terms taken_each) (taken_all sum Up P terms taken_each))

    impossible_combination : IsVariableCombination system (impossible_shares system i side)
    impossible_combination = record {
      positive = share_list (λ s. zero_ℚ <ℚ s.weight) (positive_is.1 positive-one) (λ t h. magnitude_positive t.factor h.some);
      known = share_list (λ s. s.variable < variables system) row_below (λ t h. (let l : t.column < n = h.known in omega arith));
      there = share_list (λ s. IsSome (limit_on (variable_limits system s.variable) s.side))
          (subst (λ z. IsSome (limit_on z side)) (sym (row_limits_at system n refl i)) (ap is_some met.first_is))
          (λ t h. subst (λ z. IsSome (limit_on z (turned t.factor sum))) (sym (column_limits_at system n refl t.column h.known)) h.there);
      cancels = λ k l.
          shares_total (factor_at system k) (λ t. factor_of (column_form t.column) k) (λ t h. ap (λ z. factor_of z k) (column_form_at system n refl t.column h.known)) (factor_of terms k) (form_by_columns terms k)
          ∙ ap (λ z. signed side one_ℚ *ℚ factor_of z k -ℚ signed side one_ℚ *ℚ factor_of terms k) (row_form_at system n refl i)
          ∙ ring_ℚ (signed side one_ℚ ∷ factor_of terms k ∷ []) (x0 :* x1 :- x0 :* x1) zero_of tt;
      contradicts = subst (λ z. z <ℚ zero_ℚ)
          (ap (λ z. z -ℚ signed side met.second) (signed_as side met.first) ∙ ap (λ z. signed side one_ℚ *ℚ met.first -ℚ z) (signed_as side met.second)
          ∙ ap (λ z. signed side one_ℚ *ℚ number_or_zero z -ℚ signed side one_ℚ *ℚ met.second) (sym (ap (λ z. limit_on z side) (row_limits_at system n refl i) ∙ met.first_is))
          ∙ sym (shares_total (limit_at system) (taken_value system sum) (λ t h. ap (λ z. number_or_zero (limit_on z (turned t.factor sum))) (column_limits_at system n refl t.column h.known)) met.second finite.1))
          (past side met.first met.second met.passes);
    }

  -- ---- what a rule finds at the row
  module _ (shares : List VariableShare) where
    empty_decides : (list : List Term) → terms ≡ list → empty_at system i list ≡ Some (Decides shares) → IsVariableCombination system shares
    empty_decides (t ∷ list) is e = absurd (none_decides shares e)
    empty_decides [] is e = by (missed_side (row_in system i).limits zero_ℚ) refl e
      where
        by : (o : Option Side) → missed_side (row_in system i).limits zero_ℚ ≡ o → Some (empty_or_missed system i o) ≡ Some (Decides shares) → IsVariableCombination system shares
        by None m k = absurd (goes_decides (Empty i) shares k)
        by (Some side) m k = subst (IsVariableCombination system) (decides_same _ shares k) (missed_combination is side m)

    single_not : (list : List Term) → singleton_at system i list ≡ Some (Decides shares) → ⊥
    single_not [] e = none_decides shares e
    single_not (t ∷ []) e = where_goes_not (is_narrow (single_work (row_in system i).limits t.factor)) (single_step (limits_in system t.column) (row_in system i).limits i t) shares e
    single_not (t ∷ u ∷ list) e = none_decides shares e

    doubleton_not : (list : List Term) → doubleton_at system i list ≡ Some (Decides shares) → ⊥
    doubleton_not [] e = none_decides shares e
    doubleton_not (s ∷ []) e = none_decides shares e
    doubleton_not (s ∷ t ∷ u ∷ list) e = none_decides shares e
    doubleton_not (s ∷ t ∷ []) e = by (fixed_value (row_in system i).limits) e
      where
        by : (o : Option ℚ) → pair_with system i s t o ≡ Some (Decides shares) → ⊥
        by None k = none_decides shares k
        by (Some c) k = where_goes_not (is_narrow (pair_work system i s t c)) (pair_step system i s t c) shares k

    forcing_not : (a b : Bool) → cond a (Some (Goes (forcing_step system i Up))) (where_found b (Goes (forcing_step system i Lo))) ≡ Some (Decides shares) → ⊥
    forcing_not true b e = goes_decides (forcing_step system i Up) shares e
    forcing_not false b e = where_goes_not b (forcing_step system i Lo) shares e

    impossible_decides : (a b : Bool) → is_impossible system i Up ≡ a → is_impossible system i Lo ≡ b
        → cond a (Some (Decides (impossible_shares system i Up))) (where_found b (Decides (impossible_shares system i Lo))) ≡ Some (Decides shares) → IsVariableCombination system shares
    impossible_decides true b p q e = subst (IsVariableCombination system) (decides_same (impossible_shares system i Up) shares e) (impossible_combination Up p)
    impossible_decides false true p q e = subst (IsVariableCombination system) (decides_same (impossible_shares system i Lo) shares e) (impossible_combination Lo q)
    impossible_decides false false p q e = absurd (none_decides shares e)

    pub row_decides : (rule : Rule) → found_in_row rule system i ≡ Some (Decides shares) → IsVariableCombination system shares
    row_decides CrossingLimits e = absurd (none_decides shares e)
    row_decides EmptyRow e = empty_decides terms refl e
    row_decides SingletonRow e = absurd (single_not terms e)
    row_decides FixedColumn e = absurd (none_decides shares e)
    row_decides ImpossibleRow e = impossible_decides (is_impossible system i Up) (is_impossible system i Lo) refl refl e
    row_decides RedundantRow e = absurd (where_goes_not (is_kept system i Lo && is_kept system i Up) (Redundant i) shares e)
    row_decides ForcingRow e = absurd (forcing_not (is_forcing system i Up) (is_forcing system i Lo) e)
    row_decides DoubletonRow e = absurd (doubleton_not terms e)

-- a column with a value decides nothing
fixed_not : (system : LinearSystem) (j : ℕ) (shares : List VariableShare) (o : Option ℚ) → fixed_with system j o ≡ Some (Decides shares) → ⊥
fixed_not system j shares None e = none_decides shares e
fixed_not system j shares (Some v) e = where_goes_not (is_narrow (fixed_work system j v)) (fixed_step system j v) shares e

pub deciding_law : DecidingLaw
deciding_law stage shares formed decided =
    found_somewhere (λ rule. first_found (found_at rule stage) (places rule stage.system)) (λ rule. Unit {0}) (IsVariableCombination stage.system shares) (Decides shares) (λ rule u e. by rule e) rules (λ k d l. tt) decided
  where
    live_row : (rule : Rule) (i : ℕ) → i < length stage.system.rows → (b : Bool) → cond b (found_in_row rule stage.system i) None ≡ Some (Decides shares) → IsVariableCombination stage.system shares
    live_row rule i l true e = row_decides stage.system formed i l shares rule e
    live_row rule i l false e = absurd (none_decides shares e)

    rows_below : All (λ i. i < length stage.system.rows) (numbers_from 0 (length stage.system.rows))
    rows_below = numbers_all (λ i. i < length stage.system.rows) 0 (length stage.system.rows) (λ r l. omega arith)

    in_rows : (rule : Rule) → first_found (λ i. cond (is_live stage i) (found_in_row rule stage.system i) None) (numbers_from 0 (length stage.system.rows)) ≡ Some (Decides shares) → IsVariableCombination stage.system shares
    in_rows rule e =
        found_somewhere (λ i. cond (is_live stage i) (found_in_row rule stage.system i) None) (λ i. i < length stage.system.rows) (IsVariableCombination stage.system shares) (Decides shares)
        (λ i l k. live_row rule i l (is_live stage i) k) (numbers_from 0 (length stage.system.rows)) rows_below e

    by : (rule : Rule) → first_found (found_at rule stage) (places rule stage.system) ≡ Some (Decides shares) → IsVariableCombination stage.system shares
    by CrossingLimits e =
        (let crossing : CrossingFirst stage.system (numbers_from 0 (length stage.system.columns + length stage.system.rows)) shares = crossing_found stage shares (numbers_from 0 (length stage.system.columns + length stage.system.rows)) e in
        subst (IsVariableCombination stage.system) crossing.shares_are (crossing_combination stage.system crossing.variable crossing.first))
    by FixedColumn e =
        found_somewhere (found_at FixedColumn stage) (λ j. Unit {0}) (IsVariableCombination stage.system shares) (Decides shares)
        (λ j u k. absurd (fixed_not stage.system j shares (fixed_value (limits_in stage.system j)) k)) (places FixedColumn stage.system) (λ k d l. tt) e
    by EmptyRow e = in_rows EmptyRow e
    by SingletonRow e = in_rows SingletonRow e
    by ImpossibleRow e = in_rows ImpossibleRow e
    by RedundantRow e = in_rows RedundantRow e
    by ForcingRow e = in_rows ForcingRow e
    by DoubletonRow e = in_rows DoubletonRow e
