-- In an improve run the objective does not become smaller; so between two equal bases nothing moves, and no basis comes twice.
use Rattle.std.proofs.Common.{◌≡◌, ◌+◌, ◌^◌, ◌<◌, ◌≤◌, refl, sym, ◌∙◌, ap, subst, ℕ, zero, suc, List, get_or, IsSome, arith}
use Rattle.rational.specs.Rational.{ℚ, ◌≤ℚ◌}
use Rattle.rational.proofs.Order.{le_refl_ℚ, le_trans_ℚ}
use Rattle.std.proofs.lemmas.Bool.{cond-false}
use Rattle.certs.specs.System.{LinearSystem, Place, is_basic, no_limits}
use Rattle.certs.specs.System.Place.{AtZero}
use Rattle.certs.specs.Tableau.{Tableau, IsTableauOf, IsWellFormedSystem, basic_value, limits_at, place_value, value_at_place, value_of}
use Rattle.certs.specs.Ended.{IsWithin}
use Rattle.certs.specs.Runs.{IsSettledAt, TableauAt}
use Rattle.certs.specs.Improves.{IsImproveTurn, Improves}
use Rattle.certs.proofs.Feasible.{feasible_law, solves, limits_are}
use Rattle.bland_law.specs.Ends.{limited_count, ImproveNoBasisTwiceLaw}
use Rattle.bland_law.proofs.Returns.{limit_of}
use Rattle.bland_law.proofs.Counts.{Fallen, nothing_fallen, fallen_more, fallen_few, rounds, rounds_enough}
use Rattle.bland_law.proofs.Improving.{ValuesAt, Inside, Passed, Turned, turned, values_are}

-- values at the last basis: no variable is outside, the objective is not smaller, and where it is not greater nothing has moved
pub record Climbed (system : LinearSystem) (x : ℕ → ℚ) (first last : List Place) (made : ℕ) : Type 0 where
  pub now : ℕ → ℚ
  pub values : ValuesAt system last now
  pub inside : Inside system now
  pub rises : x (limited_count system) ≤ℚ now (limited_count system)
  pub flat_values : now (limited_count system) ≤ℚ x (limited_count system) → ValuesAt system last x
  pub flat_fallen : now (limited_count system) ≤ℚ x (limited_count system) → Fallen (limited_count system) (Passed system x last) first last made

module _ (most : ℕ) (system : LinearSystem) (formed : IsWellFormedSystem system) (goal : IsSome system.objective) (x : ℕ → ℚ) (first : List Place) where
  module _ (middle last : List Place) (k : ℕ) (turn : IsImproveTurn most system middle last) (c : Climbed system x first middle k) where
    abbrev t : Tableau
    t = turn.here.tableau

    abbrev of : IsTableauOf system t
    of = turn.here.is_of

    -- the values of the turn's tableau
    same_now : (v : ℕ) → c.now v ≡ value_of t v
    same_now v = values_are system formed goal t of c.now (subst (λ b. ValuesAt system b c.now) (sym turn.here.at) c.values) v

    inside_t : Inside system (value_of t)
    inside_t v l = subst (IsWithin (limit_of system v)) (same_now v) (c.inside v l)

    r : Turned system t last
    r = turned system formed goal t of inside_t last turn.moves

    -- where nothing is gained, nothing was before, and nothing is now
    before : r.now (limited_count system) ≤ℚ x (limited_count system) → c.now (limited_count system) ≤ℚ x (limited_count system)
    before h = le_trans_ℚ (subst (λ q. q ≤ℚ r.now (limited_count system)) (sym (same_now (limited_count system))) r.rises) h

    at : r.now (limited_count system) ≤ℚ x (limited_count system) → r.now (limited_count system) ≤ℚ value_of t (limited_count system)
    at h = le_trans_ℚ h (subst (λ q. x (limited_count system) ≤ℚ q) (same_now (limited_count system)) c.rises)

    same_x : r.now (limited_count system) ≤ℚ x (limited_count system) → (v : ℕ) → x v ≡ value_of t v
    same_x h v = values_are system formed goal t of x (subst (λ b. ValuesAt system b x) (sym turn.here.at) (c.flat_values (before h))) v

    same_flat : r.now (limited_count system) ≤ℚ x (limited_count system) → (v : ℕ) → r.now v ≡ x v
    same_flat h v = r.flat_same (at h) v ∙ sym (same_x h v)

    -- one turn more
    step : Climbed system x first last (suc k)
    step = record {
      now = r.now;
      values = r.values;
      inside = r.inside;
      rises = le_trans_ℚ c.rises (subst (λ q. q ≤ℚ r.now (limited_count system)) (sym (same_now (limited_count system))) r.rises);
      flat_values = λ h. record { keeps = (c.flat_values (before h)).keeps; stands = λ v n. sym (same_flat h v) ∙ r.values.stands v n };
      flat_fallen = λ h.
          let e = r.flat_exchanged (at h) x (same_x h) in
          fallen_more (limited_count system) (Passed system x t.basis) (Passed system x last) first t.basis last e.leaving e.entering k e.exchanges
          (subst (λ b. Fallen (limited_count system) (Passed system x b) first b k) (sym turn.here.at) (c.flat_fallen (before h)));
    }

  pub climbed : (made : ℕ) (last : List Place) → ValuesAt system first x → Inside system x → Improves most system made first last → Climbed system x first last made
  climbed zero last values inside e = subst (λ b. Climbed system x first b 0) e (record {
    now = x;
    values = values;
    inside = inside;
    rises = le_refl_ℚ (x (limited_count system));
    flat_values = λ h. values;
    flat_fallen = λ h. nothing_fallen (limited_count system) (Passed system x first) first;
  })
  climbed (suc k) last values inside (middle, both) = step middle last k both.1 (climbed k middle values inside both.0)

-- ---- round and round
pub joined : (most : ℕ) (system : LinearSystem) (a b c : List Place) (j k : ℕ) → Improves most system j a b → Improves most system k b c → Improves most system (k + j) a c
joined most system a b c j zero r e = subst (λ n. Improves most system n a c) (let g : j ≡ zero + j = omega arith in g) (subst (λ z. Improves most system j a z) e r)
joined most system a b c j (suc k) r (middle, both) =
    subst (λ n. Improves most system n a c) (let g : suc (k + j) ≡ suc k + j = omega arith in g) (middle, (joined most system a b middle j k r both.0, both.1))

gone_round : (most : ℕ) (system : LinearSystem) (k : ℕ) (basis : List Place) → Improves most system (suc k) basis basis → (n : ℕ) → Improves most system (rounds k n) basis basis
unfolding rounds
gone_round most system k basis r zero = refl
gone_round most system k basis r (suc n) = joined most system basis basis basis (rounds k n) (suc k) (gone_round most system k basis r n) r

-- a run that makes a turn begins at a basis with a tableau
begun : (most : ℕ) (system : LinearSystem) (k : ℕ) (basis last : List Place) → Improves most system (suc k) basis last → TableauAt system basis
begun most system zero basis last (middle, both) = subst (TableauAt system) (sym both.0) both.1.here
begun most system (suc k) basis last (middle, both) = begun most system k basis middle both.0

module _ (system : LinearSystem) (formed : IsWellFormedSystem system) (goal : IsSome system.objective) where
  -- there is one list of values at a basis
  one_value : (basis : List Place) → TableauAt system basis → (x y : ℕ → ℚ) → ValuesAt system basis x → ValuesAt system basis y → (v : ℕ) → x v ≡ y v
  one_value basis here x y at_x at_y v =
      values_are system formed goal here.tableau here.is_of x (subst (λ b. ValuesAt system b x) (sym here.at) at_x) v
      ∙ sym (values_are system formed goal here.tableau here.is_of y (subst (λ b. ValuesAt system b y) (sym here.at) at_y) v)

-- where no variable is outside, the values are inside
module _ (most : ℕ) (system : LinearSystem) (formed : IsWellFormedSystem system) (first : List Place) (settled : IsSettledAt most system first) where
  abbrev at_first : Tableau
  at_first = settled.here.tableau

  abbrev of_first : IsTableauOf system at_first
  of_first = settled.here.is_of

  same_limits : (v : ℕ) → limits_at at_first v ≡ limit_of system v
  same_limits v = ap (λ l. get_or l v no_limits) of_first.limits

  settled_values : ValuesAt system first (value_of at_first)
  settled_values = subst (λ b. ValuesAt system b (value_of at_first)) settled.here.at (record {
    keeps = (of_first.table (value_of at_first)).1 (solves system at_first formed of_first);
    stands = λ k n. cond-false (is_basic at_first.basis k) (basic_value at_first k) (place_value at_first k) n ∙ ap (λ l. value_at_place l (get_or at_first.basis k AtZero)) (same_limits k);
  })

  settled_inside : Inside system (value_of at_first)
  settled_inside v l = subst (λ z. IsWithin z (value_of at_first v)) (sym (limits_are system at_first of_first v l) ∙ same_limits v) ((feasible_law system at_first formed of_first settled.chosen).limits v l)

pub improve_no_basis_twice_law : ImproveNoBasisTwiceLaw
improve_no_basis_twice_law most system first basis m k formed goal settled before round =
    let here = climbed most system formed goal (value_of settled.here.tableau) first m basis (settled_values most system formed first settled) (settled_inside most system formed first settled) before in
    let n : ℕ = 3 ^ limited_count system in
    let gone = climbed most system formed goal here.now basis (rounds k n) basis here.values here.inside (gone_round most system k basis round n) in
    let same = one_value system formed goal basis (begun most system k basis basis round) gone.now here.now gone.values here.values (limited_count system) in
    let level : gone.now (limited_count system) ≤ℚ here.now (limited_count system) = subst (λ q. gone.now (limited_count system) ≤ℚ q) same (le_refl_ℚ (gone.now (limited_count system))) in
    let few : rounds k n < 3 ^ limited_count system = fallen_few (limited_count system) (Passed system here.now basis) basis basis (rounds k n) (gone.flat_fallen level) in
    let many : n ≤ rounds k n = rounds_enough k n in
    omega arith

-- from a settled basis on every variable but the objective stays within its limits
pub stays_within : (most : ℕ) (system : LinearSystem) (first last : List Place) (made : ℕ) → IsWellFormedSystem system → IsSome system.objective → IsSettledAt most system first → Improves most system made first last
    → (t : Tableau) → IsTableauOf system t → t.basis ≡ last → (v : ℕ) → v < limited_count system → IsWithin (limits_at t v) (value_of t v)
stays_within most system first last made formed goal settled run t of at v l =
    let here = climbed most system formed goal (value_of settled.here.tableau) first made last (settled_values most system formed first settled) (settled_inside most system formed first settled) run in
    let same : here.now v ≡ value_of t v = values_are system formed goal t of here.now (subst (λ b. ValuesAt system b here.now) (sym at) here.values) v in
    subst (λ q. IsWithin (limits_at t v) q) same (subst (λ z. IsWithin z (here.now v)) (ap (λ z. get_or z v no_limits) (sym of.limits)) (here.inside v l))
