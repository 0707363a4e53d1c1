-- Bounds on the objective, and rays along which it has none.
use Rattle.std.proofs.Common.{◌≡◌, ◌≢◌, ◌<◌, refl, sym, ◌∙◌, ap, subst, ℕ, zero, suc, ◌*◌, Bool, true, false, cond, not, ◌==◌, List, [], ◌∷◌, map, get_or, Option, None, Some, IsSome, arith}
use Rattle.std.specs.Prelude.{All}
use Rattle.std.proofs.lemmas.List.Elements.{All-nil}
use native.Mathlib.Nat.{mul-pos}
use lib.IntN.{ℤ, pos, negsuc, ◌+ℤ◌, ◌*ℤ◌, nat_abs}
use lib.Signed.{◌≤ℤ◌}
use Rattle.std.proofs.lemmas.Int.{ints}
use Rattle.algebra.proofs.Ring.{ring_ℤ, x0, x1, x2, x3, x4, ◌:+◌, ◌:-◌, ◌:*◌, minus, zero_of, unit_of}
use Rattle.rational.specs.Rational.{ℚ, frac, whole, floor, IsWhole, ◌+ℚ◌, ◌-ℚ◌, ◌*ℚ◌, neg_ℚ, inv_ℚ, zero_ℚ, ◌≤ℚ◌, ◌<ℚ◌}
use Rattle.rational.specs.Linear.{Term, Assignment, form_value, factor_of}
use Rattle.rational.proofs.Field.{ring_ℚ, ring_by_ℚ, mul-inv_ℚ, frac-same, frac-add, frac-mul}
use Rattle.rational.proofs.Order.{le_by, lt_by, lt-le_trans_ℚ, lt-le_clash_ℚ, lt_irrefl_ℚ, mul-lt_ℚ, nonneg-add, nonneg-mul, nonneg_of_le, nonneg_is, positive_of_lt, mul-pos_ℚ}
use Rattle.rational.proofs.Whole.{whole-num, whole-whole, whole-add, whole-mul, whole-le, whole-lt, lt-floor}
use Rattle.rational.proofs.Forms.{linear_law}
use Rattle.lp_model.specs.declared.members.Member.{Member}
use Rattle.lp_model.specs.declared.members.Member.TheVariants.{RowLo, RowUp, Lower, Upper, Whole}
use Rattle.lp_model.specs.declared.members.Side.{Side}
use Rattle.lp_model.specs.declared.members.Side.TheVariants.{Lo, Up}
use Rattle.lp_model.specs.Program.{Program, row_at}
use Rattle.lp_model.specs.Members.{value, number, side, is_mark}
use Rattle.lp_model.specs.Satisfaction.{Point, coordinate, values_at, Holds, Satisfies}
use Rattle.lp_model.proofs.Points.{common_denominator}
use Rattle.certs.specs.declared.evidence.Share.{Share}
use Rattle.certs.specs.Combination.{column_sum, KeepsBranch}
use Rattle.certs.specs.Bound.{objective_value, directed, IsBetter, IsKeptOn, KeepsRay, IsImproving, Unbounded, without_marks, BoundLaw, ValidBoundLaw, RayLaw}
use Rattle.certs.proofs.Lists.{All-passed}
use Rattle.certs.proofs.Sides.{left_side, left_side-is, left-le-right, KeepsSide, member_keeps}
use Rattle.certs.proofs.Refuted.{positive_nonneg}

-- ---- the form with each factor negated
opposite : List Term → List Term
opposite [] = []
opposite (t ∷ ts) = record { column = t.column; factor = neg_ℚ t.factor } ∷ opposite ts

opposite_factor : (ts : List Term) (j : ℕ) → factor_of (opposite ts) j ≡ neg_ℚ (factor_of ts j)
unfolding opposite
opposite_factor [] j = ring_ℚ [] zero_of (minus zero_of) tt
opposite_factor (t ∷ ts) j = ap (λ z. cond (t.column == j) (neg_ℚ t.factor) zero_ℚ +ℚ z) (opposite_factor ts j) ∙ go (t.column == j)
  where
    go : (b : Bool) → cond b (neg_ℚ t.factor) zero_ℚ +ℚ neg_ℚ (factor_of ts j) ≡ neg_ℚ (cond b t.factor zero_ℚ +ℚ factor_of ts j)
    go true = ring_ℚ (t.factor ∷ factor_of ts j ∷ []) (minus x0 :+ minus x1) (minus (x0 :+ x1)) tt
    go false = ring_ℚ (factor_of ts j ∷ []) (zero_of :+ minus x0) (minus (zero_of :+ x0)) tt

opposite_value : (ts : List Term) (x : Assignment) → form_value (opposite ts) x ≡ neg_ℚ (form_value ts x)
unfolding opposite
opposite_value [] x = ring_ℚ [] zero_of (minus zero_of) tt
opposite_value (t ∷ ts) x =
    ap (λ z. neg_ℚ t.factor *ℚ x t.column +ℚ z) (opposite_value ts x)
    ∙ ring_ℚ (t.factor ∷ x t.column ∷ form_value ts x ∷ []) (minus x0 :* x1 :+ minus x2) (minus (x0 :* x1 :+ x2)) tt

left_directed : (model : Program) (shares : List Share) (b : Bool) → ((j : ℕ) → column_sum model shares j ≡ cond b (factor_of model.objective j) (neg_ℚ (factor_of model.objective j)))
    → (x : Assignment) → left_side model shares x ≡ cond b (form_value model.objective x) (neg_ℚ (form_value model.objective x))
left_directed model shares true h x = left_side-is model shares model.objective h x
left_directed model shares false h x = left_side-is model shares (opposite model.objective) (λ j. h j ∙ sym (opposite_factor model.objective j)) x ∙ opposite_value model.objective x

pub bound_law : BoundLaw
bound_law model set shares b d x h better =
    lt-le_clash_ℚ better
    (subst (λ z. z ≤ℚ directed model b) (left_directed model shares model.maximise d.matches x)
    (subst (λ z. left_side model shares x ≤ℚ z) d.bound (left-le-right model set [] shares x h (All-nil (KeepsBranch x)) (positive_nonneg shares d.positive) d.there)))

pub valid_bound_law : ValidBoundLaw
valid_bound_law model set shares b d p = bound_law model set shares b d (coordinate p.point) p.satisfies p.better

-- ---- multiples large enough
le-abs : (z : ℤ) → z ≤ℤ pos (nat_abs z)
le-abs (pos n) = omega (arith, ints)
le-abs (negsuc n) = omega (arith, ints)

pub passed_by_multiple : (a h : ℚ) → zero_ℚ <ℚ h → (k : ℕ) × (a <ℚ h *ℚ whole (pos k))
passed_by_multiple a h p =
    let some : h ≢ zero_ℚ = λ e. lt_irrefl_ℚ {a = zero_ℚ} (subst (λ z. zero_ℚ <ℚ z) e p) in
    let z : ℤ = floor (a *ℚ inv_ℚ h) +ℤ pos 1 in
    let below : a *ℚ inv_ℚ h <ℚ whole (pos (nat_abs z)) = lt-le_trans_ℚ (lt-floor (a *ℚ inv_ℚ h)) (whole-le z (pos (nat_abs z)) (le-abs z)) in (
      nat_abs z,
      subst (λ q. q <ℚ h *ℚ whole (pos (nat_abs z)))
          (ring_by_ℚ (a ∷ h ∷ inv_ℚ h ∷ []) (x1 :* (x0 :* x2)) x0 x0 (x1 :* x2) unit_of (mul-inv_ℚ h some) tt)
          (mul-lt_ℚ p below),
    )

-- ---- a point moved along a ray, a whole number of times
moved : ℤ → List ℤ → List ℤ → List ℤ
moved c [] rs = map (λ r. c *ℤ r) rs
moved c (n ∷ ns) [] = n ∷ ns
moved c (n ∷ ns) (r ∷ rs) = (n +ℤ c *ℤ r) ∷ moved c ns rs

get_or-times : (c : ℤ) (rs : List ℤ) (j : ℕ) → get_or (map (λ r. c *ℤ r) rs) j (pos 0) ≡ pos 0 +ℤ c *ℤ get_or rs j (pos 0)
get_or-times c [] j = ring_ℤ (c ∷ []) zero_of (zero_of :+ x0 :* zero_of) tt
get_or-times c (r ∷ rs) zero = ring_ℤ (c ∷ r ∷ []) (x0 :* x1) (zero_of :+ x0 :* x1) tt
get_or-times c (r ∷ rs) (suc j) = get_or-times c rs j

get_or-moved : (c : ℤ) (ns rs : List ℤ) (j : ℕ) → get_or (moved c ns rs) j (pos 0) ≡ get_or ns j (pos 0) +ℤ c *ℤ get_or rs j (pos 0)
unfolding moved
get_or-moved c [] rs j = get_or-times c rs j
get_or-moved c (n ∷ ns) [] j = ring_ℤ (get_or (n ∷ ns) j (pos 0) ∷ c ∷ []) x0 (x0 :+ x1 :* zero_of) tt
get_or-moved c (n ∷ ns) (r ∷ rs) zero = refl
get_or-moved c (n ∷ ns) (r ∷ rs) (suc j) = get_or-moved c ns rs j

along : Point → Point → ℕ → Point
along p r k = record { numerators = moved (pos k *ℤ pos p.denominator) p.numerators r.numerators; denominator = p.denominator; positive = p.positive }

added : (n m : ℤ) (k d : ℕ) → 0 < d → frac (n +ℤ (pos k *ℤ pos d) *ℤ m) d ≡ frac n d +ℚ whole (pos k *ℤ m)
added n m k d h =
    sym (frac-add n (pos k *ℤ m) d 1 h (omega arith)
    ∙ frac-same (n *ℤ pos 1 +ℤ (pos k *ℤ m) *ℤ pos d) (n +ℤ (pos k *ℤ pos d) *ℤ m) (d * 1) d (mul-pos h (omega arith)) h
    (ring_ℤ (n ∷ m ∷ pos k ∷ pos d ∷ []) ((x0 :* unit_of :+ (x2 :* x1) :* x3) :* x3) ((x0 :+ (x2 :* x3) :* x1) :* (x3 :* unit_of)) tt))

along_whole : (p r : Point) (k j : ℕ) → coordinate (along p r k) j ≡ coordinate p j +ℚ whole (pos k *ℤ get_or r.numerators j (pos 0))
unfolding along
along_whole p r k j =
    ap (λ n. frac n p.denominator) (get_or-moved (pos k *ℤ pos p.denominator) p.numerators r.numerators j)
    ∙ added (get_or p.numerators j (pos 0)) (get_or r.numerators j (pos 0)) k p.denominator p.positive

times_denominator : (n : ℤ) (d : ℕ) → 0 < d → whole n ≡ whole (pos d) *ℚ frac n d
times_denominator n d h =
    sym (frac-mul (pos d) n 1 d (omega arith) h
    ∙ frac-same (pos d *ℤ n) n (1 * d) 1 (mul-pos (omega arith) h) (omega arith) (ring_ℤ (n ∷ pos d ∷ []) ((x1 :* x0) :* unit_of) (x0 :* (unit_of :* x1)) tt))

-- how far it is moved
far : Point → ℕ → ℚ
far r k = whole (pos k) *ℚ whole (pos r.denominator)

along_is : (p r : Point) (k j : ℕ) → coordinate (along p r k) j ≡ coordinate p j +ℚ far r k *ℚ coordinate r j
unfolding far
along_is p r k j =
    along_whole p r k j
    ∙ ap (λ z. coordinate p j +ℚ z)
    (whole-mul (pos k) (get_or r.numerators j (pos 0))
    ∙ ap (λ z. whole (pos k) *ℚ z) (times_denominator (get_or r.numerators j (pos 0)) r.denominator r.positive)
    ∙ ring_ℚ (whole (pos k) ∷ whole (pos r.denominator) ∷ coordinate r j ∷ []) (x0 :* (x1 :* x2)) ((x0 :* x1) :* x2) tt)

along_path : (p r : Point) (k : ℕ) → coordinate (along p r k) ≡ (λ j. coordinate p j +ℚ far r k *ℚ coordinate r j)
along_path p r k = λ i. λ j. along_is p r k j i

-- ---- what holds, holds further on
kept_further : (side : Side) (o : Option ℚ) (v r s : ℚ) → KeepsSide side o v → (IsSome o → IsKeptOn side r) → zero_ℚ ≤ℚ s → KeepsSide side o (v +ℚ s *ℚ r)
unfolding KeepsSide
kept_further Lo None v r s h k l = tt
kept_further Up None v r s h k l = tt
kept_further Lo (Some b) v r s h k l = le_by (b ∷ v ∷ r ∷ s ∷ []) x0 (x1 :+ x3 :* x2) ((x1 :- x0) :+ x3 :* x2) (nonneg-add (nonneg_of_le h) (nonneg-mul (nonneg_is.0 l) (nonneg_is.0 (k refl)))) tt
kept_further Up (Some b) v r s h k l = le_by (b ∷ v ∷ r ∷ s ∷ []) (x1 :+ x3 :* x2) x0 ((x0 :- x1) :+ x3 :* (zero_of :- x2)) (nonneg-add (nonneg_of_le h) (nonneg-mul (nonneg_is.0 l) (nonneg_of_le (k refl)))) tt

value_moved : (model : Program) (m : Member) (x y : Assignment) (s : ℚ) → value model m (λ j. x j +ℚ s *ℚ y j) ≡ value model m x +ℚ s *ℚ value model m y
value_moved model (RowLo i) x y s = linear_law (row_at model i).terms x y s
value_moved model (RowUp i) x y s = linear_law (row_at model i).terms x y s
value_moved model (Lower j) x y s = refl
value_moved model (Upper j) x y s = refl
value_moved model (Whole j) x y s = refl

whole_more : (q : ℚ) (n : ℤ) → IsWhole q → IsWhole (q +ℚ whole n)
whole_more q n h = subst (λ z. IsWhole (z +ℚ whole n)) (whole-num q h) (subst IsWhole (whole-add q.num n) (whole-whole (q.num +ℤ n)))

far_nonneg : (r : Point) (k : ℕ) → zero_ℚ ≤ℚ far r k
unfolding far
far_nonneg r k =
    nonneg_is.1 (nonneg-mul (nonneg_is.0 (whole-le (pos 0) (pos k) (omega (arith, ints)))) (nonneg_is.0 (whole-le (pos 0) (pos r.denominator) (omega (arith, ints)))))

kept_along : (model : Program) (p r : Point) (k : ℕ) (m : Member) → Holds model (coordinate p) m → KeepsRay model (coordinate r) m → KeepsSide (side m) (number model m) (value model m (coordinate (along p r k)))
kept_along model p r k m h y =
    subst (KeepsSide (side m) (number model m)) (sym (ap (value model m) (along_path p r k) ∙ value_moved model m (coordinate p) (coordinate r) (far r k)))
    (kept_further (side m) (number model m) (value model m (coordinate p)) (value model m (coordinate r)) (far r k) (member_keeps model (coordinate p) m h) y (far_nonneg r k))

holds_along : (model : Program) (p r : Point) (k : ℕ) (m : Member) → Holds model (coordinate p) m → (not (is_mark m) ≡ true → KeepsRay model (coordinate r) m) → Holds model (coordinate (along p r k)) m
unfolding KeepsSide
holds_along model p r k (RowLo i) h y = kept_along model p r k (RowLo i) h (y refl)
holds_along model p r k (RowUp i) h y = kept_along model p r k (RowUp i) h (y refl)
holds_along model p r k (Lower j) h y = kept_along model p r k (Lower j) h (y refl)
holds_along model p r k (Upper j) h y = kept_along model p r k (Upper j) h (y refl)
holds_along model p r k (Whole j) h y = λ t. subst IsWhole (sym (along_whole p r k j)) (whole_more (coordinate p j) (pos k *ℤ get_or r.numerators j (pos 0)) (h t))

-- ---- the objective
directed_linear : (t : Bool) (a s c : ℚ) → cond t (a +ℚ s *ℚ c) (neg_ℚ (a +ℚ s *ℚ c)) ≡ cond t a (neg_ℚ a) +ℚ s *ℚ cond t c (neg_ℚ c)
directed_linear true a s c = refl
directed_linear false a s c = ring_ℚ (a ∷ s ∷ c ∷ []) (minus (x0 :+ x1 :* x2)) (minus x0 :+ x1 :* minus x2) tt

directed_zero : (t : Bool) → cond t zero_ℚ (neg_ℚ zero_ℚ) ≡ zero_ℚ
directed_zero true = refl
directed_zero false = ring_ℚ [] (minus zero_of) zero_of tt

objective_along : (model : Program) (p r : Point) (k : ℕ) → directed model (objective_value model (coordinate (along p r k))) ≡ directed model (objective_value model (coordinate p)) +ℚ far r k *ℚ directed model (objective_value model (coordinate r))
objective_along model p r k =
    ap (λ x. directed model (objective_value model x)) (along_path p r k)
    ∙ ap (directed model) (linear_law model.objective (coordinate p) (coordinate r) (far r k))
    ∙ directed_linear model.maximise (objective_value model (coordinate p)) (far r k) (objective_value model (coordinate r))

better_along : (model : Program) (p r : Point) (q : ℚ) → zero_ℚ <ℚ directed model (objective_value model (coordinate r)) → (k : ℕ) × IsBetter model (objective_value model (coordinate (along p r k))) q
unfolding far
better_along model p r q g =
    let a : ℚ = directed model (objective_value model (coordinate p)) in
    let v : ℚ = directed model (objective_value model (coordinate r)) in
    let d : ℚ = whole (pos r.denominator) in
    let enough : (k : ℕ) × (directed model q -ℚ a <ℚ (d *ℚ v) *ℚ whole (pos k)) =
    passed_by_multiple (directed model q -ℚ a) (d *ℚ v) (mul-pos_ℚ (whole-lt (pos 0) (pos r.denominator) (let l : 0 < r.denominator = r.positive in omega (arith, ints))) g) in (
      enough.0,
      subst (λ z. directed model q <ℚ z) (sym (objective_along model p r enough.0))
          (lt_by (directed model q ∷ a ∷ d ∷ v ∷ whole (pos enough.0) ∷ []) x0 (x1 :+ (x4 :* x2) :* x3) ((x2 :* x3) :* x4 :- (x0 :- x1)) (positive_of_lt enough.1) tt),
    )

ray_point_law : (model : Program) (set : List Member) (p r : Point) → Satisfies model set (coordinate p) → IsImproving model (without_marks set) (coordinate r) → Unbounded model set
ray_point_law model set p r h y q =
    let kept : All (λ m. not (is_mark m) ≡ true → KeepsRay model (coordinate r) m) set = All-passed (λ m. not (is_mark m)) (KeepsRay model (coordinate r)) set y.keeps in
    let far_enough : (k : ℕ) × IsBetter model (objective_value model (coordinate (along p r k))) q =
    better_along model p r q (subst (λ z. z <ℚ directed model (objective_value model (coordinate r))) (directed_zero model.maximise) y.improves) in
    record {
      point = along p r far_enough.0;
      satisfies = λ i d l. holds_along model p r far_enough.0 (get_or set i d) (h i d l) (kept i d l);
      better = far_enough.1;
    }

pub ray_law : RayLaw
ray_law model set p ray h y =
    let r : (r : Point) × ((j : ℕ) → coordinate r j ≡ values_at ray j) = common_denominator ray in
    ray_point_law model set p r.0 h (subst (IsImproving model (without_marks set)) (λ i. λ j. sym (r.1 j) i) y)
