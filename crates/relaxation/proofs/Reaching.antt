-- What the best values of an elastic system are for its set: points of least weighted violation, and rounds of enforcing.
use Rattle.std.proofs.Common.{◌≡◌, ◌-◌, ◌<◌, ◌≤◌, refl, sym, ◌∙◌, ap, subst, ℕ, suc, Bool, true, false, not, List, [], drop, take, length, filter, get_or, arith, ◌+◌, ◌&&◌, ◌||◌, cond, ◌∷◌}
use Rattle.std.specs.Prelude.{All}
use Rattle.std.proofs.lemmas.List.{get_or-drop, get_or-take, length-drop, length-take-le, take_all}
use Rattle.std.proofs.lemmas.List.Elements.{All-cons, All-contains, All-nil}
use Rattle.rational.specs.Rational.{ℚ, ◌*ℚ◌, neg_ℚ, one_ℚ, zero_ℚ, lt_q, ◌≤ℚ◌}
use Rattle.rational.specs.Sum.{sum_over}
use Rattle.rational.specs.Linear.{Assignment, form_value}
use Rattle.algebra.proofs.Ring.{x0, ◌:*◌, unit_of}
use Rattle.rational.proofs.Field.{ring_ℚ}
use Rattle.rational.proofs.Order.{lt_q-false}
use Rattle.lp_model.specs.declared.members.Member.{Member}
use Rattle.lp_model.specs.declared.members.Member.TheVariants.{Lower}
use Rattle.lp_model.specs.Program.{Program, IsWellFormed}
use Rattle.lp_model.specs.Members.{has, is_mark}
use Rattle.lp_model.specs.Satisfaction.{Holds, Point, Satisfies, coordinate, values_at}
use Rattle.lp_model.proofs.Points.{common_denominator}
use Rattle.lp_model.proofs.Sets.{contains_of_has}
use Rattle.certs.specs.declared.evidence.Point.{Point as Values}
use Rattle.certs.specs.Ended.{IsSolution}
use Rattle.certs.specs.Elastic.{soft_members}
use Rattle.certs.specs.System.{LinearSystem}
use Rattle.certs.specs.Tales.{IsFurther, IsPointOf}
use Rattle.certs.specs.Violation.{IsLeastDual, is_violated, rigid_members, total_violation, violation, weighted_violation}
use Rattle.certs.proofs.HasLists.{agree_on}
use Rattle.certs.proofs.Lists.{All-passed}
use Rattle.certs.proofs.Parted.{filter_both}
use Rattle.certs.specs.declared.evidence.Dual.{Dual}
use Rattle.simplex.proofs.Meaning.{dual_bound_law}
use Rattle.relaxation.specs.declared.systems.Costs.{Costs}
use Rattle.relaxation.specs.declared.systems.Costs.TheVariants.{Ones, Weights}
use Rattle.relaxation.specs.Costs.{cost_by, objective_by, system_by}
use Rattle.relaxation.specs.Laws.{IsElastic, ShowsLeast}
use Rattle.least_checks.specs.Least.{IsLeastBy}
use Rattle.relaxation.specs.Runs.{IsBest}
use Rattle.relaxation.specs.Stretching.{IsTestOf}
use Rattle.relaxation.proofs.Bounded.{costs_nonneg}
use Rattle.relaxation.proofs.Eased.{columns_are}
use Rattle.relaxation.proofs.Least.{IsSound, elastic_is, none_less, satisfies_enforced, total_is}
use Rattle.relaxation.proofs.Lists.{paired, paired_at}
use Rattle.relaxation.proofs.Missing.{unmissed_holds}
use Rattle.relaxation.proofs.Totals.{total_is as ones_total, weighted_is}

-- there is a value for each column, and one for each soft member
pub best_count : (model : Program) (set enforced : List Member) (costs : Costs) (values : List ℚ) (dual : Dual) → IsBest (system_by model set enforced costs) values dual
    → length values ≡ length model.columns + length (soft_members set enforced)
best_count model set enforced costs values dual best = best.count ∙ columns_are model set enforced (cost_by model costs)

module _ (model : Program) (set enforced : List Member) (costs : Costs) (formed : IsWellFormed model) (elastic : IsElastic model set enforced) (values : List ℚ) (dual : Dual)
    (best : IsBest (system_by model set enforced costs) values dual) where
  abbrev n : ℕ
  n = length model.columns

  abbrev system : LinearSystem
  system = system_by model set enforced costs

  sound : IsSound model set enforced
  sound = record { formed = formed; known = elastic.known; linear = elastic.linear; part = elastic.part }

  -- the values of the program's columns are those of the solution
  pub same_values : (j : ℕ) → j < length model.columns → values_at (take (length model.columns) values) j ≡ best.at j
  same_values j l =
      let below : j < length system.columns = subst (λ k. j < k) (sym (columns_are model set enforced (cost_by model costs))) (let g : j < n + length (soft_members set enforced) = omega arith in g) in
      get_or-take n values j zero_ℚ l ∙ best.values_are j below

  pub first_count : length (take (length model.columns) values) ≡ length model.columns
  first_count = length-take-le n values (let e = best_count model set enforced costs values dual best in omega (arith, e))

  bounded : (z : Assignment) → IsSolution system z → form_value (objective_by model set enforced costs) z ≤ℚ dual.bound
  bounded z s = dual_bound_law system best.dual_of.of (objective_by model set enforced costs) dual.bound best.formed refl best.dual_of.dual z s

  module _ (y : Assignment) (same : (j : ℕ) → j < length model.columns → y j ≡ best.at j) where
    pub satisfies : Satisfies model enforced y
    satisfies = satisfies_enforced model set enforced (cost_by model costs) sound best.formed best.at dual.bound best.solution best.tight bounded (costs_nonneg model set enforced formed elastic.known costs) y same

    -- nothing that satisfies the enforced members has a smaller total, which is the bound, negated
    pub least : (z : Assignment) → Satisfies model enforced z → neg_ℚ dual.bound ≤ℚ sum_over (λ m. cost_by model costs m *ℚ violation model z m) (soft_members set enforced)
    least z h = none_less model set enforced (cost_by model costs) sound best.formed best.at dual.bound best.solution best.tight bounded (costs_nonneg model set enforced formed elastic.known costs) y same z h

    pub reached : sum_over (λ m. cost_by model costs m *ℚ violation model y m) (soft_members set enforced) ≡ neg_ℚ dual.bound
    reached = total_is model set enforced (cost_by model costs) sound best.formed best.at dual.bound best.solution best.tight bounded (costs_nonneg model set enforced formed elastic.known costs) y same

    elastic_values : All (λ e. cost_by model costs e.1 *ℚ violation model y e.1 ≡ cost_by model costs e.1 *ℚ best.at e.0) (paired (length model.columns) (soft_members set enforced))
    elastic_values = elastic_is model set enforced (cost_by model costs) sound best.formed best.at dual.bound best.solution best.tight bounded (costs_nonneg model set enforced formed elastic.known costs) y same

    pub elastic_at : (k : ℕ) (d : Member) → k < length (soft_members set enforced)
        → cost_by model costs (get_or (soft_members set enforced) k d) *ℚ violation model y (get_or (soft_members set enforced) k d) ≡ cost_by model costs (get_or (soft_members set enforced) k d) *ℚ values_at values (length model.columns + k)
    elastic_at k d l =
        let m : Member = get_or (soft_members set enforced) k d in
        let below : n + k < length system.columns = subst (λ i. n + k < i) (sym (columns_are model set enforced (cost_by model costs))) (let g : n + k < n + length (soft_members set enforced) = omega arith in g) in
        paired_at (λ e. cost_by model costs e.1 *ℚ violation model y e.1 ≡ cost_by model costs e.1 *ℚ best.at e.0) n (soft_members set enforced) elastic_values k d l
        ∙ ap (λ z. cost_by model costs m *ℚ z) (sym (best.values_are (n + k) below))

-- ---- with the program's weights, and the rigid members enforced
pub least_by : (model : Program) (set enforced : List Member) (values : List ℚ) (dual shown : Dual) (point : Values) → IsWellFormed model → IsElastic model set enforced → enforced ≡ rigid_members model set
    → IsBest (system_by model set enforced Weights) values dual → point.values ≡ take (length model.columns) values → shown.bound ≡ neg_ℚ dual.bound → ShowsLeast model set shown.combo.shares (neg_ℚ dual.bound)
    → IsLeastBy model set point shown
least_by model set enforced values dual shown point formed elastic rigid best first bound shows =
    let y : Assignment = values_at point.values in
    let same : (j : ℕ) → j < length model.columns → y j ≡ best.at j = λ j l. ap (λ z. values_at z j) first ∙ same_values model set enforced Weights formed elastic values dual best j l in
    let weighted : (z : Assignment) → sum_over (λ m. cost_by model Weights m *ℚ violation model z m) (soft_members set enforced) ≡ weighted_violation model set z =
    λ z. ap (λ l. sum_over (λ m. cost_by model Weights m *ℚ violation model z m) (soft_members set l)) rigid ∙ weighted_is model set z in
    let total : weighted_violation model set y ≡ neg_ℚ dual.bound = sym (weighted y) ∙ reached model set enforced Weights formed elastic values dual best y same in
    record {
      each_column = ap length first ∙ first_count model set enforced Weights formed elastic values dual best;
      least = record {
        satisfies = subst (λ l. Satisfies model l y) rigid (satisfies model set enforced Weights formed elastic values dual best y same);
        least = λ z h.
            subst (λ q. q ≤ℚ weighted_violation model set z) (sym total)
            (subst (λ q. neg_ℚ dual.bound ≤ℚ q) (weighted z) (least model set enforced Weights formed elastic values dual best y same z (subst (λ l. Satisfies model l z) (sym rigid) h)));
      };
      total = total ∙ sym bound;
      dual_of = subst (IsLeastDual model set [] shown.combo.shares) (sym bound) shows.dual;
      ordered = shows.ordered;
    }

-- ---- with weights 1
stripped : (a b : ℚ) → one_ℚ *ℚ a ≡ one_ℚ *ℚ b → a ≡ b
stripped a b e = ring_ℚ (a ∷ []) x0 (unit_of :* x0) tt ∙ e ∙ ring_ℚ (b ∷ []) (unit_of :* x0) x0 tt

-- an empty list
pub none_found : (list : List Member) → length list ≤ 0 → list ≡ []
none_found [] l = refl
none_found (m ∷ list) l = absurd (omega arith)

-- what is filtered away when nothing is left
none_left : (test : Member → Bool) (list : List Member) → length (filter test list) ≡ 0 → All (λ m. test m ≡ false) list
none_left test [] e = All-nil (λ m. test m ≡ false)
none_left test (m ∷ list) e = by (none_left test list) (test m) refl
  where
    by : (length (filter test list) ≡ 0 → All (λ m. test m ≡ false) list) → (b : Bool) → test m ≡ b → All (λ m. test m ≡ false) (m ∷ list)
    by rest true t = absurd (let z : length (cond (test m) (m ∷ filter test list) (filter test list)) ≡ 0 = e in let y : suc (length (filter test list)) ≡ 0 = sym (ap (λ b. length (cond b (m ∷ filter test list) (filter test list))) t) ∙ z in omega (arith, y))
    by rest false t = All-cons (λ m. test m ≡ false) m list t (rest (sym (ap (λ b. length (cond b (m ∷ filter test list) (filter test list))) t) ∙ e))

-- ---- members to be enforced
swapped : (h v : Bool) → ((h || v) && not h) ≡ (not h && v)
swapped true v = refl
swapped false true = refl
swapped false false = refl

-- those that are not enforced and are violated at a point of least total violation are to be enforced, where there is one
pub violated_further : (model : Program) (set enforced : List Member) (point : Point) (found : List Member) → Satisfies model enforced (coordinate point)
    → ((q : Point) → Satisfies model enforced (coordinate q) → total_violation model set (coordinate point) ≤ℚ total_violation model set (coordinate q))
    → found ≡ filter (λ m. not (has enforced m) && is_violated model (coordinate point) m) set → 0 < length found → IsFurther model set enforced found
violated_further model set enforced point found held least is some =
    let y : Assignment = coordinate point in
    record {
      next = filter (λ m. has enforced m || is_violated model y m) set;
      stretches = record { point = point; satisfies = held; least = least; adds = refl };
      further_are =
          is
          ∙ sym (filter_both (λ m. has enforced m || is_violated model y m) (λ m. not (has enforced m)) set
          ∙ agree_on (λ m. (has enforced m || is_violated model y m) && not (has enforced m)) (λ m. not (has enforced m) && is_violated model y m) set (λ m c. swapped (has enforced m) (is_violated model y m)));
      some = some;
    }

module _ (model : Program) (set enforced : List Member) (values : List ℚ) (dual : Dual) (formed : IsWellFormed model) (elastic : IsElastic model set enforced) (best : IsBest (system_by model set enforced Ones) values dual) where
  abbrev soft : List Member
  soft = soft_members set enforced

  -- an elastic variable is above 0 just where its member is violated
  violated_is : (y : Assignment) → ((j : ℕ) → j < length model.columns → y j ≡ best.at j) → (k : ℕ) (d : Member) → k < length (soft_members set enforced)
      → lt_q zero_ℚ (values_at values (length model.columns + k)) ≡ is_violated model y (get_or (soft_members set enforced) k d)
  violated_is y same k d l = ap (lt_q zero_ℚ) (sym (stripped _ _ (elastic_at model set enforced Ones formed elastic values dual best y same k d l)))

  -- which is told by the values behind those of the program's columns
  pub tests_at : (y : Assignment) → ((j : ℕ) → j < length model.columns → y j ≡ best.at j) → (count : ℕ) → count ≡ length model.columns → (list : List ℚ) → list ≡ values
      → IsTestOf (soft_members set enforced) (take (length list - count) (drop count list)) (is_violated model y)
  tests_at y same count e list f k l =
      ap (λ z. lt_q zero_ℚ (get_or z k zero_ℚ)) (take_all (length list - count) (drop count list) (let g = length-drop count list in omega (arith, g)))
      ∙ ap (λ z. lt_q zero_ℚ (get_or (drop count z) k zero_ℚ)) f
      ∙ ap (λ z. lt_q zero_ℚ (get_or (drop z values) k zero_ℚ)) e
      ∙ ap (lt_q zero_ℚ) (get_or-drop (length model.columns) values k zero_ℚ)
      ∙ violated_is y same k (Lower 0) l

  total_at : (y : Assignment) → Satisfies model enforced y → sum_over (λ m. cost_by model Ones m *ℚ violation model y m) soft ≡ total_violation model set y
  total_at y h = ones_total model enforced y h set

  pub same_values_at : (point : List ℚ) → point ≡ take (length model.columns) values → (j : ℕ) → j < length model.columns → values_at point j ≡ best.at j
  same_values_at point first j l = ap (λ z. values_at z j) first ∙ same_values model set enforced Ones formed elastic values dual best j l

  -- where none is violated the point is one of the set
  pub met : (point : Values) → point.values ≡ take (length model.columns) values → filter (is_violated model (values_at point.values)) soft ≡ [] → IsPointOf model set point
  met point first none =
      let y : Assignment = values_at point.values in
      let same = same_values_at point.values first in
      let held : Satisfies model enforced y = satisfies model set enforced Ones formed elastic values dual best y same in
      let unviolated : All (λ m. is_violated model y m ≡ false) soft = none_left (is_violated model y) soft (ap length none) in
      let passed : All (λ m. not (has enforced m) ≡ true → is_violated model y m ≡ false) set = All-passed (λ m. not (has enforced m)) (λ m. is_violated model y m ≡ false) set unviolated in
      record {
        each_column = ap length first ∙ first_count model set enforced Ones formed elastic values dual best;
        satisfies = λ k d l.
            (let m : Member = get_or set k d in
            by m (has enforced m) refl held (passed k d l) (elastic.linear k d l));
      }
    where
      by : (m : Member) (b : Bool) → has enforced m ≡ b → Satisfies model enforced (values_at point.values) → (not (has enforced m) ≡ true → is_violated model (values_at point.values) m ≡ false) → is_mark m ≡ false
          → Holds model (values_at point.values) m
      by m true e held h plain = All-contains (Holds model (values_at point.values)) enforced m held (contains_of_has enforced m e)
      by m false e held h plain = unmissed_holds model (values_at point.values) m plain (lt_q-false zero_ℚ (violation model (values_at point.values) m) (h (ap not e)))

  -- and else those that are, are to be enforced
  abbrev pub common : Point
  common = (common_denominator (take (length model.columns) values)).0

  pub common_same : (j : ℕ) → j < length model.columns → coordinate common j ≡ best.at j
  common_same j l = (common_denominator (take (length model.columns) values)).1 j ∙ same_values model set enforced Ones formed elastic values dual best j l

  pub further : (found : List Member) → found ≡ filter (is_violated model (coordinate common)) soft → 0 < length found → IsFurther model set enforced found
  further found is some =
      let y : Assignment = coordinate common in
      let held : Satisfies model enforced y = satisfies model set enforced Ones formed elastic values dual best y common_same in
      violated_further model set enforced common found held
      (λ q h.
      subst (λ z. z ≤ℚ total_violation model set (coordinate q)) (sym (reached model set enforced Ones formed elastic values dual best y common_same) ∙ total_at y held)
      (subst (λ z. neg_ℚ dual.bound ≤ℚ z) (total_at (coordinate q) h) (least model set enforced Ones formed elastic values dual best y common_same (coordinate q) h)))
      (is ∙ filter_both (λ m. not (has enforced m)) (is_violated model y) set) some
