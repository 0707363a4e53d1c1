-- The shares that a run gives stand in order.
use Rattle.std.proofs.Common.{◌≡◌, ◌+◌, ◌-◌, ◌*◌, refl, sym, ap, subst, ℕ, Bool, true, false, cond, ◌&&◌, List, [], ◌∷◌, map, length, ltb, arith, lt-ltb}
use Rattle.rational.specs.Rational.{ℚ, one_ℚ}
use Rattle.lp_model.specs.declared.members.Side.{Side}
use Rattle.lp_model.specs.declared.members.Side.TheVariants.{Lo, Up}
use Rattle.certs.specs.declared.evidence.Share.{Share}
use Rattle.certs.specs.declared.evidence.Source.TheVariants.{Member as Of}
use Rattle.certs.specs.Ended.{blocked_multiple, blocked_shares}
use Rattle.certs.specs.Named.{IsNamedCombination, IsOfSystem, bound_of, named, row_side_of}
use Rattle.certs.specs.Order.{AreSharesInOrder, are_in_order}
use Rattle.certs.specs.Plain.{crossing_shares}
use Rattle.certs.specs.System.{LinearSystem}
use Rattle.certs.specs.Tableau.{Tableau}
use Rattle.certs.proofs.PlainOrder.{in_order_by_test}
use Rattle.simplex.specs.Duals.{IsNamedDual}
use Rattle.linear_oracle.proofs.Shares.{all_known}
use Rattle.rational.specs.Linear.{Term}
use Rattle.std.specs.Prelude.{All}
use Rattle.unbounded.proofs.Ordered.{optimal_in_order}

-- those of a blocked variable: they are the shares of another tableau, the objective's row of which has its multiples
pub blocked_in_order : (system : LinearSystem) (t : Tableau) (v : ℕ) (side : Side) → AreSharesInOrder (map (named (length system.columns)) (blocked_shares system t v side))
blocked_in_order system t v side = optimal_in_order system (record { limits = []; objective = true; basis = []; factor = λ i k. blocked_multiple t v side k })

-- both limits of a variable
pub crossing_in_order : (n v : ℕ) → AreSharesInOrder (map (named n) (crossing_shares v))
crossing_in_order n v = in_order_by_test (map (named n) (crossing_shares v)) (by (ltb v n))
  where
    by : (b : Bool) → are_in_order (record { source = Of (cond b (bound_of v Lo) (row_side_of (v - n) Lo)); weight = one_ℚ } ∷ record { source = Of (cond b (bound_of v Up) (row_side_of (v - n) Up)); weight = one_ℚ } ∷ []) ≡ true
    by true = refl
    by false = ap (λ b. (b && true) && (true && true)) (lt-ltb (2 * (v - n)) (2 * (v - n) + 1) (omega arith))

-- ---- they name rows and limits of the system
pub of_system : (system : LinearSystem) (shares : List Share) → IsNamedCombination system shares → All (λ (s : Share). IsOfSystem (length system.columns) (length system.rows) s.source) shares
of_system system shares h =
    subst (All (λ (s : Share). IsOfSystem (length system.columns) (length system.rows) s.source)) (sym h.same) (all_known (length system.columns) (length system.rows) h.of h.combination.known)

-- those of a dual too
pub dual_of_system : (system : LinearSystem) (terms : List Term) (shares : List Share) (b : ℚ) → IsNamedDual system terms shares b → All (λ (s : Share). IsOfSystem (length system.columns) (length system.rows) s.source) shares
dual_of_system system terms shares b h =
    subst (All (λ (s : Share). IsOfSystem (length system.columns) (length system.rows) s.source)) (sym h.same) (all_known (length system.columns) (length system.rows) h.of h.dual.known)
