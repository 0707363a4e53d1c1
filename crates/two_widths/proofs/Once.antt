-- An improve run that ends does not also stop too wide.
use Rattle.std.proofs.Common.{◌≡◌, ◌≢◌, ◌+◌, ◌<◌, refl, sym, ◌∙◌, ap, subst, arith, ℕ, zero, suc, Bool, true, false, cond, ◌==◌, List, [], ◌++◌, Option, Some, None, IsSome, inl, inr, ne_eqb}
use Rattle.std.specs.Prelude.{slice_index_or, slice_set}
use Rattle.std.proofs.lemmas.Bool.{cases_lt}
use Rattle.frac128.specs.declared.Wide.{Wide as Operation}
use Rattle.frac128.specs.Calculation.{first_wide}
use Rattle.frac128.proofs.Calculations.{first_wide-past, first_wide-nil}
use Rattle.certs.specs.System.{LinearSystem, Place, is_basic}
use Rattle.certs.specs.System.Place.{AtZero}
use Rattle.certs.specs.Tableau.{Tableau}
use Rattle.certs.specs.Turns.{exchanged, other_place}
use Rattle.certs.specs.Runs.{TableauAt}
use Rattle.certs.specs.Improves.{ImproveRun, Improvement, Improves, IsImproveChoice, IsImproveTurn, IsImproveWide, improve_choice, improve_values, improve_work, improved, leave_operations, objective_variable}
use Rattle.certs.specs.Improves.Improvement.{Optimal, Free, Flip, Leaves}
use Rattle.certs.specs.Improves.ImproveEnd.{TooWide}
use Rattle.certs.proofs.Agreement.{Agrees}
use Rattle.certs.proofs.RunEnds.{agree}
use Rattle.simplex.proofs.Ends.{objective_basic}
use Rattle.simplex.specs.ImproveEnds.{end_of}
use Rattle.simplex.specs.declared.improving.Improved.{Improved}
use Rattle.simplex.specs.declared.improving.Improved.TheVariants.{Optimal as IsOptimal, Unbounded as IsUnbounded}
use Rattle.two_widths.proofs.Alike.{alike_choice, alike_work}

-- ---- choices
-- a choice that ends a run: nothing moves, and there is no pivot
record IsOver (choice : Improvement) : Type 0 where
  none : (t : Tableau) → improved t choice ≡ None
  free : (t : Tableau) → leave_operations t choice ≡ []

only : (a b : List Place) → ◌≡◌ {A = Option (List Place)} (Some a) (Some b) → a ≡ b
only a b q = cc

some_none : {A : Type 0} (a : A) → ◌≡◌ {A = Option A} (Some a) None → ⊥
some_none a q = cc

improved_same : (t u : Tableau) → t.basis ≡ u.basis → (c : Improvement) → improved t c ≡ improved u c
improved_same t u e Optimal = refl
improved_same t u e (Free j) = refl
improved_same t u e (Flip j) = ap (λ (b : List Place). Some (slice_set b j (other_place (slice_index_or b j AtZero)))) e
improved_same t u e (Leaves i side j) = ap (λ (b : List Place). Some (exchanged b i side j)) e

module _ (most : ℕ) (system : LinearSystem) (some : IsSome system.objective) where
  -- ---- tableaus at one basis
  module _ (basis : List Place) (a b : TableauAt system basis) where
    agrees : Agrees a.tableau b.tableau
    agrees = agree most system basis a b

    goal : is_basic a.tableau.basis (objective_variable a.tableau) ≡ true
    goal = objective_basic system a.tableau a.is_of some

    same_choice : improve_choice a.tableau ≡ improve_choice b.tableau
    same_choice = alike_choice a.tableau b.tableau agrees goal

    same_work : (left : ℕ) → improve_work left a.tableau ≡ improve_work left b.tableau
    same_work left = alike_work a.tableau b.tableau agrees goal left

    same_move : improved a.tableau (improve_choice a.tableau) ≡ improved b.tableau (improve_choice b.tableau)
    same_move = improved_same a.tableau b.tableau agrees.basis (improve_choice a.tableau) ∙ ap (improved b.tableau) same_choice

  -- ---- turns
  next_same : (basis next other : List Place) → IsImproveTurn most system basis next → IsImproveTurn most system basis other → next ≡ other
  next_same basis next other p q = only next other (sym p.moves ∙ same_move basis p.here q.here ∙ q.moves)

  reached_same : (made : ℕ) (basis last other : List Place) → Improves most system made basis last → Improves most system made basis other → last ≡ other
  reached_same zero basis last other r q = sym r ∙ q
  reached_same (suc made) basis last other (middle, (r, p)) (between, (s, q)) =
      let e : between ≡ middle = reached_same made basis between middle s r in
      next_same middle last other p (subst (λ b. IsImproveTurn most system b other) e q)

  -- a run of more turns makes one more from where one of fewer has come to
  next_of : (made more : ℕ) (basis middle last : List Place) → made < more → Improves most system made basis middle → Improves most system more basis last
      → (next : List Place) × IsImproveTurn most system middle next
  next_of made zero basis middle last l r q = absurd (omega arith)
  next_of made (suc more) basis middle last l r (before, (q, p)) =
      elim (cases_lt made more) [
        | inl h ↦ next_of made more basis middle before h r q
        | inr h ↦
            (let e : more ≡ made = omega arith in
            (last, subst (λ b. IsImproveTurn most system b last) (reached_same made basis before middle (subst (λ k. Improves most system k basis before) e q) r) p))
      ]

  -- ---- where a run ends
  module _ (last : List Place) (choice : Improvement) (over : IsOver choice) (h : IsImproveChoice most system last choice) where
    no_turn : (next : List Place) → IsImproveTurn most system last next → ⊥
    no_turn next p =
        some_none next (sym p.moves ∙ ap (improved p.here.tableau) (same_choice last p.here h.here ∙ h.chosen) ∙ over.none p.here.tableau)

    nothing : (left : ℕ) → first_wide most (improve_work left h.here.tableau) ≡ None
    nothing left =
        let t = h.here.tableau in
        first_wide-past most (improve_values t) (cond (left == 0) [] (leave_operations t (improve_choice t))) h.narrow
        ∙ ap (λ c. first_wide most (cond (left == 0) [] c)) (ap (leave_operations t) h.chosen ∙ over.free t)
        ∙ by (left == 0)
      where
        by : (b : Bool) → first_wide most (cond b [] []) ≡ None
        by true = first_wide-nil most
        by false = first_wide-nil most

    not_wide : (left : ℕ) (wide : Operation) → IsImproveWide most system last left wide → ⊥
    not_wide left wide w = some_none wide (sym w.first ∙ ap (first_wide most) (same_work last w.here h.here left) ∙ nothing left)

  -- where a turn is made nothing is too wide
  turned_not_wide : (basis next : List Place) (left : ℕ) (wide : Operation) → left ≢ 0 → IsImproveTurn most system basis next → IsImproveWide most system basis left wide → ⊥
  turned_not_wide basis next left wide n p w =
      let t = p.here.tableau in
      some_none wide
      (sym w.first ∙ ap (first_wide most) (same_work basis w.here p.here left)
      ∙ ap (λ (c : Bool). first_wide most (improve_values t ++ cond c [] (leave_operations t (improve_choice t)))) (ne_eqb left 0 n)
      ∙ p.narrow)

  -- ---- runs
  module _ (basis : List Place) (budget begun : ℕ) (choice : Improvement) (over : IsOver choice) (made rest : ℕ) (last : List Place) (budget_is : made + rest ≡ budget)
      (reaches : Improves most system made basis last) (h : IsImproveChoice most system last choice) where
    ends_once : (step : ℕ) (wide : Operation) (other : List Place) (left turns : ℕ) → ImproveRun most system basis budget begun (TooWide step wide) other left turns → ⊥
    ends_once step wide other left turns b =
        elim (cases_lt made b.made) [
          | inl l ↦
              (let (next, p) = next_of made b.made basis last other l reaches b.reaches in
              no_turn last choice over h next p)
          | inr l ↦ elim (cases_lt b.made made) [
            | inl k ↦
                (let (next, p) = next_of b.made made basis other last k b.reaches reaches in
                turned_not_wide other next left wide (spare b.made b.budget_is k) p b.ends.1)
            | inr k ↦
                (let e : b.made ≡ made = omega arith in
                let at : other ≡ last = reached_same made basis other last (subst (λ n. Improves most system n basis other) e b.reaches) reaches in
                not_wide last choice over h left wide (subst (λ p. IsImproveWide most system p left wide) at b.ends.1))
          ]
        ]
      where
        spare : (fewer : ℕ) → fewer + left ≡ budget → fewer < made → left ≢ 0
        spare fewer e k z = absurd (let e2 = budget_is in omega arith)

  pub ended_once : (basis : List Place) (budget begun : ℕ) (ended : Improved) (last : List Place) (rest ended_turns : ℕ) → ImproveRun most system basis budget begun (end_of ended) last rest ended_turns
      → (step : ℕ) (wide : Operation) (other : List Place) (left turns : ℕ) → ImproveRun most system basis budget begun (TooWide step wide) other left turns → ⊥
  ended_once basis budget begun IsOptimal last rest ended_turns a =
      ends_once basis budget begun Optimal (record { none = λ t. refl; free = λ t. refl }) a.made rest last a.budget_is a.reaches a.ends
  ended_once basis budget begun (IsUnbounded j) last rest ended_turns a =
      ends_once basis budget begun (Free j) (record { none = λ t. refl; free = λ t. refl }) a.made rest last a.budget_is a.reaches a.ends
