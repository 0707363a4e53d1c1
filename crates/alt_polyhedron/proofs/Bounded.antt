-- No ray raises the objective of a system of the alternative.
use Rattle.std.proofs.Common.{◌≡◌, ◌+◌, ◌<◌, refl, sym, subst, ℕ, suc, Bool, true, false, cond, List, [], ◌∷◌, length, is_some, IsSome, arith}
use Rattle.std.specs.Prelude.{All}
use Rattle.std.proofs.lemmas.List.Elements.{All-filter, All-head, All-tail, All-weaker}
use Rattle.algebra.proofs.Ring.{x0, x1, x2, ◌:+◌, ◌:-◌, ◌:*◌, minus, zero_of}
use Rattle.rational.specs.Rational.{ℚ, ◌*ℚ◌, ◌+ℚ◌, ◌≤ℚ◌, ◌<ℚ◌, eq_ℚ, neg_ℚ, zero_ℚ}
use Rattle.rational.specs.Linear.{Assignment, form_value}
use Rattle.rational.proofs.Order.{le_by, le_of_lt_ℚ, le_refl_ℚ, lt-le_clash_ℚ, nonneg-add, nonneg-mul, nonneg_of_le}
use Rattle.lp_model.specs.declared.members.Member.{Member}
use Rattle.lp_model.specs.Program.{Program, IsWellFormed}
use Rattle.lp_model.specs.Members.{number}
use Rattle.lp_model.specs.MemberSets.{IsMemberFor}
use Rattle.certs.specs.System.{Limits, LinearSystem, alternative_system, bounding, member_cost, terms_from}
use Rattle.relaxation.proofs.Formed.{member_positive}
use Rattle.alt_polyhedron.specs.Laws.{BoundedLaw}
use Rattle.alt_polyhedron.proofs.Variables.{member_limits, system_columns}

-- ---- sums of numbers none of which is above 0
not_above : (f x rest : ℚ) → f ≤ℚ zero_ℚ → zero_ℚ ≤ℚ x → rest ≤ℚ zero_ℚ → f *ℚ x +ℚ rest ≤ℚ zero_ℚ
not_above f x rest a b c =
    le_by (f ∷ x ∷ rest ∷ []) (x0 :* x1 :+ x2) zero_of ((zero_of :- x0) :* (x1 :- zero_of) :+ (zero_of :- x2)) (nonneg-add (nonneg-mul (nonneg_of_le a) (nonneg_of_le b)) (nonneg_of_le c)) tt

no_rise : (f : Member → ℚ) (k : ℕ) (members : List Member) (x : Assignment) → All (λ m. f m ≤ℚ zero_ℚ) members → ((i : ℕ) → i < length members → zero_ℚ ≤ℚ x (k + i)) → form_value (terms_from k f members) x ≤ℚ zero_ℚ
no_rise f k [] x h p = le_refl_ℚ zero_ℚ
no_rise f k (m ∷ members) x h p =
    by (no_rise f (suc k) members x (All-tail (λ m. f m ≤ℚ zero_ℚ) m members h)
    (λ i l. subst (λ z. zero_ℚ ≤ℚ x z) (let e : k + suc i ≡ suc k + i = omega arith in e) (p (suc i) (let g : suc i < suc (length members) = omega arith in g))))
    (eq_ℚ (f m) zero_ℚ)
  where
    by : form_value (terms_from (suc k) f members) x ≤ℚ zero_ℚ → (b : Bool) → form_value (cond b (terms_from (suc k) f members) (record { column = k; factor = f m } ∷ terms_from (suc k) f members)) x ≤ℚ zero_ℚ
    by rest true = rest
    by rest false =
        not_above (f m) (x k) (form_value (terms_from (suc k) f members) x) (All-head (λ m. f m ≤ℚ zero_ℚ) m members h)
        (subst (λ z. zero_ℚ ≤ℚ x z) (let e : k + 0 ≡ k = omega arith in e) (p 0 (omega arith))) rest

-- ---- costs
opposite_below : (q : ℚ) → zero_ℚ <ℚ q → neg_ℚ q ≤ℚ zero_ℚ
opposite_below q h = le_by (q ∷ []) (minus x0) zero_of (x0 :- zero_of) (nonneg_of_le (le_of_lt_ℚ h)) tt

module _ (model : Program) (set : List Member) (formed : IsWellFormed model) (known : All (IsMemberFor (length model.rows) (length model.columns)) set) where
  costs : All (λ m. neg_ℚ (member_cost model m) ≤ℚ zero_ℚ) (bounding model set)
  costs =
      All-weaker (IsMemberFor (length model.rows) (length model.columns)) (λ m. neg_ℚ (member_cost model m) ≤ℚ zero_ℚ) (λ m l. opposite_below (member_cost model m) (member_positive model m formed l)) (bounding model set)
      (All-filter (λ m. is_some (number model m)) (IsMemberFor (length model.rows) (length model.columns)) set known)

pub bounded_law : BoundedLaw
bounded_law model set formed known ray r =
    let system : LinearSystem = alternative_system model set in
    let members : List Member = bounding model set in
    let risen : form_value (terms_from 0 (λ m. neg_ℚ (member_cost model m)) members) ray ≤ℚ zero_ℚ =
    no_rise (λ m. neg_ℚ (member_cost model m)) 0 members ray (costs model set formed known)
    (λ i l.
    let first : 0 + i ≡ i = omega arith in
    let below : i < length system.columns = subst (λ c. i < c) (sym (system_columns model set)) l in
    subst (λ z. zero_ℚ ≤ℚ ray z) (sym first)
    (r.lower i (let g : i < length system.columns + length system.rows = omega (arith, below) in g) (subst (λ (z : Limits). IsSome z.lower) (sym (member_limits model set i l)) refl))) in
    lt-le_clash_ℚ r.raises (subst (λ z. z ≤ℚ zero_ℚ) (sym r.rows.objective) risen)
