-- A settle run has one end.
use Rattle.std.proofs.Common.{◌≡◌, ◌≢◌, ◌+◌, ◌<◌, sym, ◌∙◌, ap, subst, arith, ℕ, zero, suc, Bool, true, false, cond, ◌==◌, List, [], ◌++◌, Option, Some, None, inl, inr, ne_eqb, eq-eqb}
use Rattle.std.proofs.lemmas.Bool.{cases_lt, cond-true, cond-false}
use Rattle.frac128.specs.declared.Wide.{Wide as Operation}
use Rattle.frac128.specs.Calculation.{first_wide}
use Rattle.frac128.proofs.Calculations.{first_wide-past, first_wide-nil}
use Rattle.certs.specs.System.{LinearSystem, Place}
use Rattle.certs.specs.Tableau.{Tableau}
use Rattle.certs.specs.Turns.{Choice, settle_choice, exchanged, settle_values, settle_work, exchange_operations}
use Rattle.certs.specs.Turns.Choice.{Settled, Blocked, Exchange}
use Rattle.certs.specs.Runs.{TableauAt, IsPivotTurn, Reaches, End, EndsAt, SettleRun, OneEndLaw}
use Rattle.certs.specs.Runs.End.{Feasible, Infeasible, TooWide, Spent}
use Rattle.certs.proofs.Tableaus.{table_law}
use Rattle.certs.proofs.Agreement.{Agrees, agreed_choice, agreed_values, agreed_work}

-- the basis after a choice
abbrev basis_after : List Place → Choice → List Place
basis_after basis Settled = basis
basis_after basis (Blocked i side) = basis
basis_after basis (Exchange i side j) = exchanged basis i side j

-- how a run ends where the turn has this first wide operation and this choice, and no pivot is made
abbrev end_of : ℕ → Option Operation → Choice → End
end_of number (Some wide) c = TooWide number wide
end_of number None Settled = Feasible
end_of number None (Blocked i side) = Infeasible i
end_of number None (Exchange i side j) = Spent

module _ (most : ℕ) (system : LinearSystem) where
  pub agree : (basis : List Place) (a b : TableauAt system basis) → Agrees a.tableau b.tableau
  agree basis a b = record {
    limits = a.is_of.limits ∙ sym b.is_of.limits;
    objective = a.is_of.objective ∙ sym b.is_of.objective;
    basis = a.at ∙ sym b.at;
    factor = table_law system a.tableau b.tableau a.is_of b.is_of (a.at ∙ sym b.at);
  }

  -- ---- pivots
  next_same : (basis next other : List Place) → IsPivotTurn most system basis next → IsPivotTurn most system basis other → next ≡ other
  next_same basis next other p q =
      p.next_is
      ∙ ap (basis_after basis) (sym p.due ∙ agreed_choice p.here.tableau q.here.tableau (agree basis p.here q.here) ∙ q.due)
      ∙ sym q.next_is

  reached_same : (made : ℕ) (basis last other : List Place) → Reaches most system made basis last → Reaches most system made basis other → last ≡ other
  reached_same zero basis last other r q = sym r ∙ q
  reached_same (suc made) basis last other (middle, (r, p)) (between, (s, q)) =
      let e : between ≡ middle = reached_same made basis between middle s r in
      next_same middle last other p (subst (λ b. IsPivotTurn most system b other) e q)

  -- a run that makes more pivots makes one more after so many
  record GoesOn (made : ℕ) (basis : List Place) : Type 0 where
    middle : List Place
    next : List Place
    reaches : Reaches most system made basis middle
    turn : IsPivotTurn most system middle next

  goes_on : (made more : ℕ) (basis last : List Place) → made < more → Reaches most system more basis last → GoesOn made basis
  goes_on made zero basis last l r = absurd (omega arith)
  goes_on made (suc more) basis last l (middle, (r, p)) =
      elim (cases_lt made more) [
        | inl h ↦ goes_on made more basis middle h r
        | inr h ↦
            (let e : more ≡ made = omega arith in
            record { middle = middle; next = last; reaches = subst (λ k. Reaches most system k basis middle) e r; turn = p })
      ]

  -- ---- ends
  module _ (last : List Place) (left number : ℕ) where
    ends_here : (end : End) → EndsAt most system last left number end → TableauAt system last
    ends_here Feasible h = h.here
    ends_here (Infeasible v) h = h.here
    ends_here (TooWide step wide) h = h.1.here
    ends_here Spent h = h.1.here

    -- where the values are narrow, what is first too wide is so in the pivot
    past_values : (here there : TableauAt system last) → first_wide most (settle_values there.tableau) ≡ None
        → first_wide most (settle_work left here.tableau) ≡ first_wide most (cond (left == 0) [] (exchange_operations here.tableau (settle_choice here.tableau)))
    past_values here there n =
        first_wide-past most (settle_values here.tableau) (cond (left == 0) [] (exchange_operations here.tableau (settle_choice here.tableau)))
        (ap (first_wide most) (agreed_values here.tableau there.tableau (agree last here there)) ∙ n)

    nothing : (b : Bool) → first_wide most (cond b [] []) ≡ None
    nothing true = first_wide-nil most
    nothing false = first_wide-nil most

    -- an end at a basis is what the tableau there says
    end_is : (here : TableauAt system last) (end : End) → EndsAt most system last left number end → end ≡ end_of number (first_wide most (settle_work left here.tableau)) (settle_choice here.tableau)
    end_is here Feasible h =
        let c : settle_choice here.tableau ≡ Settled = agreed_choice here.tableau h.here.tableau (agree last here h.here) ∙ h.chosen in
        let w : first_wide most (settle_work left here.tableau) ≡ None =
        past_values here h.here h.narrow ∙ ap (λ z. first_wide most (cond (left == 0) [] (exchange_operations here.tableau z))) c ∙ nothing (left == 0) in
        sym (ap (λ z. end_of number z (settle_choice here.tableau)) w ∙ ap (end_of number None) c)
    end_is here (Infeasible v) h =
        let c : settle_choice here.tableau ≡ Blocked v h.side = agreed_choice here.tableau h.here.tableau (agree last here h.here) ∙ h.chosen in
        let w : first_wide most (settle_work left here.tableau) ≡ None =
        past_values here h.here h.narrow ∙ ap (λ z. first_wide most (cond (left == 0) [] (exchange_operations here.tableau z))) c ∙ nothing (left == 0) in
        sym (ap (λ z. end_of number z (settle_choice here.tableau)) w ∙ ap (end_of number None) c)
    end_is here (TooWide step wide) (e, h) =
        let w : first_wide most (settle_work left here.tableau) ≡ Some wide = ap (first_wide most) (agreed_work here.tableau h.here.tableau (agree last here h.here) left) ∙ h.first in
        sym (ap (λ z. end_of number z (settle_choice here.tableau)) w ∙ ap (λ n. TooWide n wide) (sym e))
    end_is here Spent (e, h) =
        let c : settle_choice here.tableau ≡ Exchange h.leaving h.side h.entering = agreed_choice here.tableau h.here.tableau (agree last here h.here) ∙ h.due in
        let w : first_wide most (settle_work left here.tableau) ≡ None =
        past_values here h.here h.narrow ∙ ap (first_wide most) (cond-true (left == 0) [] (exchange_operations here.tableau (settle_choice here.tableau)) (eq-eqb left 0 e)) ∙ first_wide-nil most in
        sym (ap (λ z. end_of number z (settle_choice here.tableau)) w ∙ ap (end_of number None) c)

    end_same : (end other : End) → EndsAt most system last left number end → EndsAt most system last left number other → end ≡ other
    end_same end other h k =
        let here : TableauAt system last = ends_here end h in
        end_is here end h ∙ sym (end_is here other k)

    -- no run ends where a pivot can be made
    no_end : (next : List Place) (end : End) → left ≢ 0 → IsPivotTurn most system last next → EndsAt most system last left number end → ⊥
    no_end next end some p h =
        let t : Tableau = p.here.tableau in
        let work : settle_work left t ≡ settle_work 1 t =
        ap (λ c. settle_values t ++ c) (cond-false (left == 0) [] (exchange_operations t (settle_choice t)) (ne_eqb left 0 some)) in
        let spent : end ≡ Spent =
        end_is p.here end h ∙ ap (λ w. end_of number w (settle_choice t)) (ap (first_wide most) work ∙ p.narrow) ∙ ap (end_of number None) p.due in
        some (subst (EndsAt most system last left number) spent h).0

  -- ---- runs
  no_more : (basis : List Place) (budget begun : ℕ) (end other_end : End) (last other_last : List Place) (left other_left turns other_turns : ℕ)
      → (a : SettleRun most system basis budget begun end last left turns) (b : SettleRun most system basis budget begun other_end other_last other_left other_turns) → a.made < b.made → ⊥
  no_more basis budget begun end other_end last other_last left other_left turns other_turns a b l =
      let on : GoesOn a.made basis = goes_on a.made b.made basis other_last l b.reaches in
      let e : on.middle ≡ last = reached_same a.made basis on.middle last on.reaches a.reaches in
      let some : left ≢ 0 = λ z. absurd (spare a.made b.made z a.budget_is b.budget_is l) in
      no_end last left turns on.next end some (subst (λ m. IsPivotTurn most system m on.next) e on.turn) a.ends
    where
      spare : (m n : ℕ) → left ≡ 0 → m + left ≡ budget → n + other_left ≡ budget → m < n → ⊥
      spare m n z x y l = omega arith

  made_same : (m n : ℕ) → (m < n → ⊥) → (n < m → ⊥) → m ≡ n
  made_same m n h k =
      elim (cases_lt m n) [
        | inl l ↦ absurd (h l)
        | inr l ↦ elim (cases_lt n m) [ inl o ↦ absurd (k o) | inr o ↦ omega arith ]
      ]

pub one_end_law : OneEndLaw
one_end_law most system basis budget begun end other_end last other_last left other_left turns other_turns a b =
    let made : a.made ≡ b.made =
    made_same most system a.made b.made
    (no_more most system basis budget begun end other_end last other_last left other_left turns other_turns a b)
    (no_more most system basis budget begun other_end end other_last last other_left left other_turns turns b a) in
    let same_last : last ≡ other_last = reached_same most system b.made basis last other_last (subst (λ k. Reaches most system k basis last) made a.reaches) b.reaches in
    let same_left : left ≡ other_left = lefts a.made b.made made a.budget_is b.budget_is in
    let same_turns : turns ≡ other_turns = a.turns_are ∙ ap (λ k. suc (begun + k)) made ∙ sym b.turns_are in
    let moved : EndsAt most system last left turns other_end =
    subst (λ z. EndsAt most system z left turns other_end) (sym same_last)
    (subst (λ z. EndsAt most system other_last z turns other_end) (sym same_left)
    (subst (λ z. EndsAt most system other_last other_left z other_end) (sym same_turns) b.ends)) in
    (end_same most system last left turns end other_end a.ends moved, same_last, same_left, same_turns)
  where
    lefts : (m n : ℕ) → m ≡ n → m + left ≡ budget → n + other_left ≡ budget → left ≡ other_left
    lefts m n e x y = omega arith
