-- What is in stock after each period of a plan at most, and that nothing is left for the last one.
use Rattle.std.proofs.Common.{◌≡◌, ℕ, zero, suc, ◌+◌, ◌-◌, ◌%◌, ◌<◌, ◌≤◌, List, [], ◌∷◌, sym, subst, arith, pos, ◌≤ℤ◌}
use Rattle.std.proofs.lemmas.Bool.Decides.{nat_tests}
use Rattle.std.proofs.lemmas.Int.{ints}
use Rattle.rational.specs.Rational.{ℚ, whole, zero_ℚ, one_ℚ, neg_ℚ, ◌+ℚ◌, ◌*ℚ◌, ◌≤ℚ◌}
use Rattle.rational.specs.Linear.{Term, Assignment, form_value}
use Rattle.rational.proofs.Field.{minus, zero_of, unit_of, x0, x1, x2, x3, x4, x5, ◌:+◌, ◌:-◌, ◌:*◌}
use Rattle.rational.proofs.Order.{le_by, le_refl_ℚ, nonneg_of_le, nonneg-add}
use Rattle.rational.proofs.Sums.{sum_over-append}
use Rattle.rational.proofs.Whole.{whole-add, whole-le, whole-order}
use Rattle.lp_model.specs.Members.{active_members}
use Rattle.lp_model.specs.Satisfaction.{Satisfies, coordinate}
use Rattle.model_maker.specs.PlanText.{demand}
use Rattle.model_maker.specs.PlanProgram.{times as often, carried_terms, plan_program}
use Rattle.model_maker.specs.Refutation.{UnsatisfiableLaw}
use Rattle.model_maker.proofs.Parts.{balanced, in_stock, at_most_ten}

-- ---- one period, in numbers: r is the stock from before, s the one after, p is made and d demanded
drawn : (d r s p a b : ℚ) → d ≤ℚ r +ℚ (neg_ℚ one_ℚ *ℚ s +ℚ (one_ℚ *ℚ p +ℚ zero_ℚ)) → r ≤ℚ a → p ≤ℚ b → s +ℚ d ≤ℚ a +ℚ b
drawn d r s p a b met before made =
    le_by (d ∷ r ∷ s ∷ p ∷ a ∷ b ∷ []) (x2 :+ x0) (x4 :+ x5)
    (((x1 :+ (minus unit_of :* x2 :+ (unit_of :* x3 :+ zero_of))) :- x0) :+ ((x4 :- x1) :+ (x5 :- x3)))
    (nonneg-add (nonneg_of_le met) (nonneg-add (nonneg_of_le before) (nonneg_of_le made))) tt

-- so s is at most e, where a + b is at most e + d
left_over : (d s a b e : ℚ) → s +ℚ d ≤ℚ a +ℚ b → a +ℚ b ≤ℚ e +ℚ d → s ≤ℚ e
left_over d s a b e drawn enough =
    le_by (d ∷ s ∷ a ∷ b ∷ e ∷ []) x1 x4 (((x2 :+ x3) :- (x1 :+ x0)) :+ ((x4 :+ x0) :- (x2 :+ x3)))
    (nonneg-add (nonneg_of_le drawn) (nonneg_of_le enough)) tt

-- and d is at most a + b, where s is not below 0
met_by : (d s a b : ℚ) → s +ℚ d ≤ℚ a +ℚ b → zero_ℚ ≤ℚ s → d ≤ℚ a +ℚ b
met_by d s a b drawn some =
    le_by (d ∷ s ∷ a ∷ b ∷ []) x0 (x2 :+ x3) (((x2 :+ x3) :- (x1 :+ x0)) :+ (x1 :- zero_of))
    (nonneg-add (nonneg_of_le drawn) (nonneg_of_le some)) tt

-- whole numbers add up as their values do
added : (a b : ℕ) → whole (pos (a + b)) ≡ whole (pos a) +ℚ whole (pos b)
added a b = whole-add (pos a) (pos b)

enough_whole : (a b e d : ℕ) → a + b ≤ e + d → whole (pos a) +ℚ whole (pos b) ≤ℚ whole (pos e) +ℚ whole (pos d)
enough_whole a b e d h =
    subst (λ (q : ℚ). q ≤ℚ whole (pos e) +ℚ whole (pos d)) (added a b) (subst (λ (q : ℚ). whole (pos (a + b)) ≤ℚ q) (added e d) (whole-le (pos (a + b)) (pos (e + d)) (omega (arith, ints))))

-- ---- demands
-- before the last period what is left over is at most 1 after an odd one, and nothing after an even one
usual_demand : (n i t : ℕ) → 1 + i ≡ t → t < n → i % 2 + 10 ≤ suc i % 2 + demand n t
usual_demand n i t e within = grind (arith, nat_tests)

-- the last demand is more than is there
last_demand : (n i : ℕ) → 1 + i ≡ n → pos (demand n n) ≤ℤ pos (i % 2 + 10) → ⊥
last_demand n i e few = grind (arith, ints, nat_tests)

-- the stock from before any but the first period
carried_later : (t i : ℕ) → 2 + i ≡ t → carried_terms t ≡ often one_ℚ i ∷ []
carried_later t i e = grind (arith, nat_tests)

-- ---- the periods of a plan
module _ (n : ℕ) (x : Assignment) (satisfies : Satisfies (plan_program n) (active_members (plan_program n)) x) where
  -- the stock from before period t is at most 1 where t is even, and 0 where it is odd
  abbrev carried_value : ℕ → ℚ
  carried_value t = form_value (carried_terms t) x

  -- what is drawn in period t, where so much was in stock before it
  drawn_in : (i t a : ℕ) → i < n → 1 + i ≡ t → carried_value t ≤ℚ whole (pos a) → x i +ℚ whole (pos (demand n t)) ≤ℚ whole (pos a) +ℚ whole (pos 10)
  drawn_in i t a within e before =
      let met : whole (pos (demand n t)) ≤ℚ carried_value t +ℚ form_value (often (neg_ℚ one_ℚ) (t - 1) ∷ often one_ℚ (n + (t - 1)) ∷ []) x =
      subst (λ (q : ℚ). whole (pos (demand n t)) ≤ℚ q) (sum_over-append (λ (s : Term). s.factor *ℚ x s.column) (carried_terms t) (often (neg_ℚ one_ℚ) (t - 1) ∷ often one_ℚ (n + (t - 1)) ∷ [])) (balanced n x satisfies i t within e) in
      let same : t - 1 ≡ i = omega arith in
      drawn (whole (pos (demand n t))) (carried_value t) (x i) (x (n + i)) (whole (pos a)) (whole (pos 10))
      (subst (λ (j : ℕ). whole (pos (demand n t)) ≤ℚ carried_value t +ℚ form_value (often (neg_ℚ one_ℚ) j ∷ often one_ℚ (n + j) ∷ []) x) same met)
      before (at_most_ten n x satisfies i t within e)

  -- before period t at most 1 is in stock where t is even, and nothing where it is odd
  stocks : (i t : ℕ) → i < n → 1 + i ≡ t → carried_value t ≤ℚ whole (pos (i % 2))
  stocks zero t within e = subst (λ (k : ℕ). carried_value k ≤ℚ whole (pos 0)) e (le_refl_ℚ zero_ℚ)
  stocks (suc i) t within e =
      let before : carried_value (t - 1) ≤ℚ whole (pos (i % 2)) = stocks i (t - 1) (omega arith) (omega arith) in
      let left : x i ≤ℚ whole (pos (suc i % 2)) =
      left_over (whole (pos (demand n (t - 1)))) (x i) (whole (pos (i % 2))) (whole (pos 10)) (whole (pos (suc i % 2)))
      (drawn_in i (t - 1) (i % 2) (omega arith) (omega arith) before)
      (enough_whole (i % 2) 10 (suc i % 2) (demand n (t - 1)) (usual_demand n i (t - 1) (omega arith) (omega arith))) in
      subst (λ (ts : List Term). form_value ts x ≤ℚ whole (pos (suc i % 2))) (sym (carried_later t i (omega arith)))
      (le_by (x i ∷ whole (pos (suc i % 2)) ∷ []) (unit_of :* x0 :+ zero_of) x1 (x1 :- x0) (nonneg_of_le left) tt)

  pub contradiction : 1 ≤ n → ⊥
  contradiction some =
      let i : ℕ = n - 1 in
      let asked : whole (pos (demand n n)) ≤ℚ whole (pos (i % 2)) +ℚ whole (pos 10) =
      met_by (whole (pos (demand n n))) (x i) (whole (pos (i % 2))) (whole (pos 10))
      (drawn_in i n (i % 2) (omega arith) (omega arith) (stocks i n (omega arith) (omega arith)))
      (in_stock n x satisfies i n (omega arith) (omega arith)) in
      last_demand n i (omega arith) ((whole-order (pos (demand n n)) (pos (i % 2 + 10))).0 (subst (λ (q : ℚ). whole (pos (demand n n)) ≤ℚ q) (sym (added (i % 2) 10)) asked))

pub unsatisfiable : UnsatisfiableLaw
unsatisfiable n some = record { values = λ x satisfies. contradiction n x satisfies some; points = λ s. contradiction n (coordinate s.point) s.satisfies some }
