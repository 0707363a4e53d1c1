-- What an improve turn may do, and its work.
use Rattle.std.proofs.Common.{◌≡◌, ◌≢◌, ◌⊎◌, ◌<◌, refl, sym, ◌∙◌, ap, subst, ℕ, Bool, true, false, true≢false, cond, not, ◌==◌, [], Option, Some, None, IsSome, length, inl, inr, eq-eqb, ne_eqb, arith}
use lib.Dec.{T, eqb→eq}
use Rattle.std.proofs.lemmas.Bool.{cond-false, not-true}
use Rattle.rational.specs.Rational.{ℚ, neg_ℚ, zero_ℚ, lt_q}
use Rattle.rational.proofs.Order.{lt_q-true, lt_irrefl_ℚ}
use Rattle.rational.proofs.Field.{ring_ℚ}
use Rattle.algebra.proofs.Ring.{minus, zero_of}
use Rattle.frac128.specs.declared.Wide.{Wide as Operation}
use Rattle.frac128.specs.Calculation.{first_wide}
use Rattle.frac128.proofs.Calculations.{first_wide-past, first_wide-before}
use Rattle.lp_model.specs.declared.members.Side.{Side}
use Rattle.lp_model.specs.declared.members.Side.TheVariants.{Lo, Up}
use Rattle.certs.specs.System.{is_basic}
use Rattle.certs.specs.Tableau.{Tableau, limits_at, nonbasics}
use Rattle.certs.specs.Turns.{CanPivot, helps}
use Rattle.certs.specs.Improves.{Block, Improvement, blocks, does_rise, improve_choice, improve_values, improve_work, improvement_by, improvement_for, improving, leave_operations, nearest, objective_variable, rate, towards}
use Rattle.certs.specs.Improves.Improvement.{Optimal, Free, Flip, Leaves}
use Rattle.certs.proofs.Choices.{below_all, found_is}
use Rattle.bland_law.proofs.Nearest.{Meets, IsOwn, nearest_of, blocks_all}

-- ---- the variable that moves
pub record IsNonbasic (t : Tableau) (j : ℕ) : Type 0 where
  pub known : j < length t.basis
  pub nonbasic : is_basic t.basis j ≡ false

pub moves_nonbasic : (t : Tableau) (j : ℕ) → improving t ≡ Some j → IsNonbasic t j
moves_nonbasic t j e =
    let b = found_is (helps t Lo (objective_variable t)) (λ k. (k < length t.basis) × (not (is_basic t.basis k) ≡ true)) (nonbasics t.basis) j (below_all (λ k. not (is_basic t.basis k)) (length t.basis)) e in
    record { known = b.0.0; nonbasic = not-true (is_basic t.basis j) b.0.1 }

-- ---- the parts of a choice
-- the variable that moves, what it meets first, and whether that is itself
pub record Met (t : Tableau) (j : ℕ) (own : Bool) : Type 0 where
  pub chosen : improving t ≡ Some j
  pub block : Block
  pub first : nearest (blocks t j) ≡ Some block
  pub is_own : (block.variable == j) ≡ own

pub record Left (t : Tableau) (i : ℕ) (side : Side) (j : ℕ) : Type 0 where
  pub met : Met t j false
  pub variable : met.block.variable ≡ i
  pub side_is : met.block.side ≡ side

kind : Improvement → ℕ
kind Optimal = 0
kind (Free j) = 1
kind (Flip j) = 2
kind (Leaves i side j) = 3

leaver : Improvement → ℕ
leaver (Leaves i side j) = i
leaver _ = 0

mover : Improvement → ℕ
mover (Leaves i side j) = j
mover (Flip j) = j
mover _ = 0

side_left : Side → Improvement → Side
side_left d (Leaves i side j) = side
side_left d _ = d

pub leave_parts : (t : Tableau) (i : ℕ) (side : Side) (j : ℕ) → improve_choice t ≡ Leaves i side j → Left t i side j
unfolding kind leaver mover side_left
leave_parts t i side j e = by (improving t) refl e
  where
    by_own : (k : ℕ) → improving t ≡ Some k → (b : Block) → nearest (blocks t k) ≡ Some b → (own : Bool) → (b.variable == k) ≡ own → cond own (Flip k) (Leaves b.variable b.side k) ≡ Leaves i side j → Left t i side j
    by_own k f b n true own q = absurd (let z : 2 ≡ 3 = ap kind q in omega arith)
    by_own k f b n false own q =
        let same : k ≡ j = ap mover q in
        record {
          met = record { chosen = f ∙ ap (λ (z : ℕ). Some z) same; block = b; first = ap (λ z. nearest (blocks t z)) (sym same) ∙ n; is_own = ap (λ z. b.variable == z) (sym same) ∙ own };
          variable = ap leaver q;
          side_is = ap (side_left b.side) q;
        }

    by_nearest : (k : ℕ) → improving t ≡ Some k → (o : Option Block) → nearest (blocks t k) ≡ o → improvement_by k o ≡ Leaves i side j → Left t i side j
    by_nearest k f None n q = absurd (let z : 1 ≡ 3 = ap kind q in omega arith)
    by_nearest k f (Some b) n q = by_own k f b n (b.variable == k) refl q

    by : (o : Option ℕ) → improving t ≡ o → improvement_for t o ≡ Leaves i side j → Left t i side j
    by None f q = absurd (let z : 0 ≡ 3 = ap kind q in omega arith)
    by (Some k) f q = by_nearest k f (nearest (blocks t k)) refl q

pub flip_parts : (t : Tableau) (j : ℕ) → improve_choice t ≡ Flip j → Met t j true
unfolding kind mover
flip_parts t j e = by (improving t) refl e
  where
    by_own : (k : ℕ) → improving t ≡ Some k → (b : Block) → nearest (blocks t k) ≡ Some b → (own : Bool) → (b.variable == k) ≡ own → cond own (Flip k) (Leaves b.variable b.side k) ≡ Flip j → Met t j true
    by_own k f b n false own q = absurd (let z : 3 ≡ 2 = ap kind q in omega arith)
    by_own k f b n true own q =
        let same : k ≡ j = ap mover q in
        record { chosen = f ∙ ap (λ (z : ℕ). Some z) same; block = b; first = ap (λ z. nearest (blocks t z)) (sym same) ∙ n; is_own = ap (λ z. b.variable == z) (sym same) ∙ own }

    by_nearest : (k : ℕ) → improving t ≡ Some k → (o : Option Block) → nearest (blocks t k) ≡ o → improvement_by k o ≡ Flip j → Met t j true
    by_nearest k f None n q = absurd (let z : 1 ≡ 2 = ap kind q in omega arith)
    by_nearest k f (Some b) n q = by_own k f b n (b.variable == k) refl q

    by : (o : Option ℕ) → improving t ≡ o → improvement_for t o ≡ Flip j → Met t j true
    by None f q = absurd (let z : 0 ≡ 2 = ap kind q in omega arith)
    by (Some k) f q = by_nearest k f (nearest (blocks t k)) refl q

-- ---- what it may do
none_moves : (g : ℚ) (side : Side) → towards g ≡ Some side → g ≢ zero_ℚ
none_moves g side e z = by (lt_q zero_ℚ zero_ℚ) refl (sym (ap towards z) ∙ e)
  where
    no_side : ◌≡◌ {A = Option Side} None (Some side) → ⊥
    no_side q = cc

    by : (b : Bool) → lt_q zero_ℚ zero_ℚ ≡ b → cond (lt_q zero_ℚ zero_ℚ) (Some Up) (cond (lt_q zero_ℚ zero_ℚ) (Some Lo) None) ≡ Some side → ⊥
    by true l q = lt_irrefl_ℚ (lt_q-true zero_ℚ zero_ℚ l)
    by false l q = no_side (sym (ap (λ (b : Bool). cond b (Some Up) (cond b (Some Lo) None)) l) ∙ q)

pub factor_moves : (t : Tableau) (j i : ℕ) (side : Side) → towards (rate t j i) ≡ Some side → t.factor i j ≢ zero_ℚ
factor_moves t j i side e z = none_moves (rate t j i) side e (by (does_rise t j))
  where
    by : (b : Bool) → cond b (t.factor i j) (neg_ℚ (t.factor i j)) ≡ zero_ℚ
    by true = z
    by false = ap neg_ℚ z ∙ ring_ℚ [] (minus zero_of) zero_of tt

pub can_leave : (t : Tableau) (i : ℕ) (side : Side) (j : ℕ) → improve_choice t ≡ Leaves i side j → CanPivot t i side j
can_leave t i side j e =
    let left : Left t i side j = leave_parts t i side j e in
    let b = left.met.block in
    let at : IsNonbasic t j = moves_nonbasic t j left.met.chosen in
    let is_there : CanPivot t b.variable b.side j = elim (nearest_of (λ c. Meets t j c ⊎ IsOwn t j c) (blocks t j) b (blocks_all t j) left.met.first).0 [
      | inl m ↦ record {
        basic = m.basic;
        limited = m.small;
        there = subst IsSome (sym m.there) refl;
        known = at.known;
        nonbasic = at.nonbasic;
        nonzero = factor_moves t j b.variable b.side m.way;
      }
      | inr own ↦ absurd (true≢false (sym (eq-eqb b.variable j own.is) ∙ left.met.is_own))
    ] in
    subst (λ s. CanPivot t i s j) left.side_is (subst (λ v. CanPivot t v b.side j) left.variable is_there)

pub record HasLimits (t : Tableau) (j : ℕ) : Type 0 where
  pub at : IsNonbasic t j
  pub lower : IsSome (limits_at t j).lower
  pub upper : IsSome (limits_at t j).upper

pub has_limits : (t : Tableau) (j : ℕ) → improve_choice t ≡ Flip j → HasLimits t j
has_limits t j e =
    let met : Met t j true = flip_parts t j e in
    let b = met.block in
    let at : IsNonbasic t j = moves_nonbasic t j met.chosen in
    elim (nearest_of (λ c. Meets t j c ⊎ IsOwn t j c) (blocks t j) b (blocks_all t j) met.first).0 [
      | inl m ↦ absurd (true≢false (sym m.basic ∙ ap (is_basic t.basis) (eqb→eq b.variable j (subst T (sym met.is_own) tt)) ∙ at.nonbasic))
      | inr own ↦ record { at = at; lower = subst IsSome (sym own.has_lower) refl; upper = subst IsSome (sym own.has_upper) refl }
    ]

-- ---- the work of a turn
module _ (m : ℕ) (t : Tableau) where
  pub work_values : (left : ℕ) (o : Operation) → first_wide m (improve_values t) ≡ Some o → first_wide m (improve_work left t) ≡ Some o
  work_values left o e = first_wide-before m (improve_values t) (cond (left == 0) [] (leave_operations t (improve_choice t))) o e

  pub work_leave : (left : ℕ) (c : Improvement) (o : Option Operation) → left ≢ 0 → improve_choice t ≡ c → first_wide m (improve_values t) ≡ None → first_wide m (leave_operations t c) ≡ o → first_wide m (improve_work left t) ≡ o
  work_leave left c o n is e f =
      first_wide-past m (improve_values t) (cond (left == 0) [] (leave_operations t (improve_choice t))) e
      ∙ ap (first_wide m) (cond-false (left == 0) [] (leave_operations t (improve_choice t)) (ne_eqb left 0 n) ∙ ap (leave_operations t) is)
      ∙ f
