-- The two ends of an improve run, by their parts.
use Rattle.std.proofs.Common.{◌≡◌, ◌+◌, ◌-◌, ◌==◌, refl, sym, ◌∙◌, ap, subst, ℕ, suc, not, ◌<◌, flat_map, Bool, true, false, cond, List, [], ◌∷◌, length, Option, None, Some, IsSome, arith}
use Rattle.std.proofs.lemmas.Bool.{cond-true, not-true}
use Rattle.frac128.specs.declared.Wide.{Wide as Operation}
use Rattle.frac128.specs.Calculation.{first_wide, or_else}
use Rattle.frac128.proofs.Calculations.{first_wide-append}
use Rattle.lp_model.specs.declared.members.Side.TheVariants.{Lo}
use Rattle.certs.specs.System.{LinearSystem, is_basic}
use Rattle.certs.specs.Tableau.{Tableau, IsTableauOf, nonbasics}
use Rattle.certs.specs.Turns.{helps, limited_basics, operations_of, value_operations}
use Rattle.certs.specs.Improves.{Block, Improvement, blocks, first_block, improve_choice, improve_values, improvement_by, improvement_for, improving, nearest, objective_variable, reach_operations}
use Rattle.certs.specs.Improves.Improvement.{Optimal, Free, Flip, Leaves}
use Rattle.certs.proofs.Choices.{below_all, found_is}

kind : Improvement → ℕ
kind Optimal = 0
kind (Free j) = 1
kind (Flip j) = 2
kind (Leaves i side j) = 3

mover : Improvement → ℕ
mover (Free j) = j
mover _ = 0

-- ---- nothing raises the objective
chosen_kind : (j : ℕ) (o : Option Block) → kind (improvement_by j o) ≡ 0 → ⊥
unfolding kind
chosen_kind j None e = omega (arith, e)
chosen_kind j (Some b) e = by (b.variable == j) e
  where
    by : (own : Bool) → kind (cond own (Flip j) (Leaves b.variable b.side j)) ≡ 0 → ⊥
    by true q = omega (arith, q)
    by false q = omega (arith, q)

pub optimal_none : (t : Tableau) → improve_choice t ≡ Optimal → improving t ≡ None
unfolding kind
optimal_none t e = by (improving t) refl e
  where
    by : (o : Option ℕ) → improving t ≡ o → improvement_for t o ≡ Optimal → improving t ≡ None
    by None f q = f
    by (Some j) f q = absurd (chosen_kind j (nearest (blocks t j)) (ap kind q))

-- what comes behind is not wide either
last_none : (a b : Option Operation) → or_else a b ≡ None → b ≡ None
last_none None b e = e
last_none (Some o) b e = absurd (some o e)
  where
    some : (o : Operation) → ◌≡◌ {A = Option Operation} (Some o) None → ⊥
    some o q = cc

-- the turn has made the operations of the objective's value
pub value_narrow : (m : ℕ) (t : Tableau) (v : ℕ) → v ≡ objective_variable t → is_basic t.basis v ≡ true → improve_choice t ≡ Optimal → first_wide m (improve_values t) ≡ None → first_wide m (operations_of t v) ≡ None
value_narrow m t v is b e narrow =
    let front = flat_map (value_operations t) (limited_basics t) in
    ap (first_wide m) (cond-true (is_basic t.basis v) (value_operations t v) [] b)
    ∙ ap (λ k. first_wide m (value_operations t k)) is
    ∙ sym (ap (λ o. first_wide m (reach_operations t o)) (optimal_none t e))
    ∙ last_none (first_wide m front) (first_wide m (reach_operations t (improving t))) (sym (first_wide-append m front (reach_operations t (improving t))) ∙ narrow)

-- ---- one raises it without end
pub record IsFree (t : Tableau) (j : ℕ) : Type 0 where
  pub chosen : improving t ≡ Some j
  pub none : blocks t j ≡ []

no_block : (list : List Block) → nearest list ≡ None → list ≡ []
no_block [] e = refl
no_block (b ∷ list) e = absurd (some (first_block b (nearest list)) e)
  where
    some : (c : Block) → ◌≡◌ {A = Option Block} (Some c) None → ⊥
    some c q = cc

apart : (n m : ℕ) → n ≡ suc (suc m) → n ≡ 1 → ⊥
apart n m e f = omega arith

pub free_parts : (t : Tableau) (j : ℕ) → improve_choice t ≡ Free j → IsFree t j
unfolding kind mover
free_parts t j e = by (improving t) refl e
  where
    by_own : (k : ℕ) (b : Block) (own : Bool) → cond own (Flip k) (Leaves b.variable b.side k) ≡ Free j → ⊥
    by_own k b true q = apart 2 0 refl (ap kind q)
    by_own k b false q = apart 3 1 refl (ap kind q)

    by_nearest : (k : ℕ) → improving t ≡ Some k → (o : Option Block) → nearest (blocks t k) ≡ o → improvement_by k o ≡ Free j → IsFree t j
    by_nearest k f None n q =
        let same : k ≡ j = ap mover q in
        record { chosen = f ∙ ap (λ (z : ℕ). Some z) same; none = subst (λ z. blocks t z ≡ []) same (no_block (blocks t k) n) }
    by_nearest k f (Some b) n q = absurd (by_own k b (b.variable == k) q)

    by : (o : Option ℕ) → improving t ≡ o → improvement_for t o ≡ Free j → IsFree t j
    by None f q = absurd (let z : 0 ≡ 1 = ap kind q in omega arith)
    by (Some k) f q = by_nearest k f (nearest (blocks t k)) refl q

-- it is nonbasic, and raises the objective
pub record Raises (t : Tableau) (j : ℕ) : Type 0 where
  pub known : j < length t.basis
  pub nonbasic : is_basic t.basis j ≡ false
  pub helps_it : helps t Lo (objective_variable t) j ≡ true

pub free_raises : (t : Tableau) (j : ℕ) → improve_choice t ≡ Free j → Raises t j
free_raises t j e =
    let b = found_is (helps t Lo (objective_variable t)) (λ k. (k < length t.basis) × (not (is_basic t.basis k) ≡ true)) (nonbasics t.basis) j (below_all (λ k. not (is_basic t.basis k)) (length t.basis)) (free_parts t j e).chosen in
    record { known = b.0.0; nonbasic = not-true (is_basic t.basis j) b.0.1; helps_it = b.1 }

-- ---- the objective's variable
module _ (system : LinearSystem) (t : Tableau) (of : IsTableauOf system t) (some : IsSome system.objective) where
  pub one_more : length t.basis ≡ length system.columns + length system.rows + 1
  one_more = of.size ∙ ap (λ b. length system.columns + length system.rows + cond b 1 0) some

  pub last_is : objective_variable t ≡ length system.columns + length system.rows
  last_is = ap (λ n. n - 1) one_more ∙ (let e : length system.columns + length system.rows + 1 - 1 ≡ length system.columns + length system.rows = omega arith in e)

  pub objective_basic : is_basic t.basis (objective_variable t) ≡ true
  objective_basic = ap (is_basic t.basis) last_is ∙ of.objective_basic some
