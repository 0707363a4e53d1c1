-- What is not too wide by a limit on parts is not by a greater one: so runs by the one are runs by the other.
use Rattle.std.proofs.Common.{◌≡◌, ◌≤◌, refl, sym, ◌∙◌, ap, ℕ, zero, suc, false, true≢false, List, None, is_some, inl, inr}
use Rattle.std.proofs.lemmas.List.Elements.{All-weaker}
use Rattle.frac128.specs.Width.{is_wide}
use Rattle.frac128.specs.declared.Wide.{Wide as Operation}
use Rattle.frac128.specs.Calculation.{Calculation, first_wide}
use Rattle.frac128.proofs.Firsts.{narrow_for, none_for}
use Rattle.frac128.proofs.Widths.{not_wide_from, wide_from, wide-monotone}
use Rattle.frac128.specs.Limit.{limit}
use Rattle.certs.specs.Improves.{ImproveEnd, ImproveEndsAt, Improves, IsImproveChoice, IsImproveTurn, Improvement}
use Rattle.certs.specs.Improves.ImproveEnd.{AtOptimum, Unbounded, TooWide as ImproveTooWide, Spent as ImproveSpent}
use Rattle.certs.specs.Plain.{first_crossing}
use Rattle.certs.specs.Runs.{End as SettleEnd, EndsAt as SettleEndsAt, IsPivotTurn, Reaches}
use Rattle.certs.specs.Runs.End.{Feasible as IsFeasible, Infeasible as IsInfeasible, TooWide, Spent}
use Rattle.certs.specs.Solves.{ImproveStops, StartRun}
use Rattle.certs.specs.System.{LinearSystem, Place}
use Rattle.certs.specs.Tableau.{start_basis}
use Rattle.dictionary.specs.Value.{DictionaryValue}
use Rattle.simplex.specs.declared.settling.RunStop.{RunStop}
use Rattle.simplex.specs.declared.settling.RunStop.TheVariants.{Wide, Pivots, Memory}
use Rattle.two_widths.specs.declared.runs.End.{End}
use Rattle.two_widths.specs.declared.runs.End.TheVariants.{Feasible, Infeasible, Optimal, Ray}
use Rattle.two_widths.specs.Ends.{EndsSo, IsChosen, IsStopOf, LastEnds, StandsAt, StopsSo}
use Rattle.two_widths.specs.Runs.{EndsBy, ImprovesBy, SettlesBy, StopsBy}

-- ---- ends that are not of an operation too wide
abbrev pub Fits : SettleEnd → Type 0
Fits IsFeasible = Unit {0}
Fits (IsInfeasible v) = Unit {0}
Fits (TooWide step o) = ⊥
Fits Spent = Unit {0}

abbrev pub ImproveFits : ImproveEnd → Type 0
ImproveFits AtOptimum = Unit {0}
ImproveFits (Unbounded j) = Unit {0}
ImproveFits (ImproveTooWide step o) = ⊥
ImproveFits ImproveSpent = Unit {0}

module _ (m n : ℕ) (l : m ≤ n) where
  operation_wider : (o : Operation) → is_wide m o ≡ false → is_wide n o ≡ false
  operation_wider o e = not_wide_from n o (λ h. true≢false (sym (wide_from m o (wide-monotone n m o l h)) ∙ e))

  wider : (xs : Calculation) → first_wide m xs ≡ None → first_wide n xs ≡ None
  wider xs e = none_for n xs (All-weaker (λ o. is_wide m o ≡ false) (λ o. is_wide n o ≡ false) operation_wider xs (narrow_for m xs e))

  module _ (system : LinearSystem) where
    -- ---- settle runs
    turn_wider : (basis next : List Place) → IsPivotTurn m system basis next → IsPivotTurn n system basis next
    turn_wider basis next p = record {
      here = p.here;
      leaving = p.leaving;
      side = p.side;
      entering = p.entering;
      due = p.due;
      narrow = wider _ p.narrow;
      next_is = p.next_is;
    }

    reaches_wider : (made : ℕ) (basis last : List Place) → Reaches m system made basis last → Reaches n system made basis last
    reaches_wider zero basis last r = r
    reaches_wider (suc made) basis last (middle, (r, p)) = (middle, (reaches_wider made basis middle r, turn_wider middle last p))

    ends_wider : (last : List Place) (left number : ℕ) (end : SettleEnd) → Fits end → SettleEndsAt m system last left number end → SettleEndsAt n system last left number end
    ends_wider last left number IsFeasible f h = record { here = h.here; chosen = h.chosen; narrow = wider _ h.narrow }
    ends_wider last left number (IsInfeasible v) f h = record { here = h.here; side = h.side; chosen = h.chosen; narrow = wider _ h.narrow }
    ends_wider last left number (TooWide step o) f h = absurd f
    ends_wider last left number Spent f (e, h) = (e, record { here = h.here; leaving = h.leaving; side = h.side; entering = h.entering; due = h.due; narrow = wider _ h.narrow })

    settles_wider : (pivots : ℕ) (end : SettleEnd) (last : List Place) → Fits end → SettlesBy m system pivots end last → SettlesBy n system pivots end last
    settles_wider pivots end last f s =
        let r = s.run in
        record {
          left = s.left;
          turns = s.turns;
          run = record { made = r.made; budget_is = r.budget_is; reaches = reaches_wider r.made (start_basis system) last r.reaches; turns_are = r.turns_are; ends = ends_wider last s.left s.turns end f r.ends };
        }

    -- ---- improve runs
    improve_wider : (basis next : List Place) → IsImproveTurn m system basis next → IsImproveTurn n system basis next
    improve_wider basis next p = record { here = p.here; moves = p.moves; narrow = wider _ p.narrow }

    improves_wider : (made : ℕ) (basis last : List Place) → Improves m system made basis last → Improves n system made basis last
    improves_wider zero basis last r = r
    improves_wider (suc made) basis last (middle, (r, p)) = (middle, (improves_wider made basis middle r, improve_wider middle last p))

    choice_wider : (last : List Place) (choice : Improvement) → IsImproveChoice m system last choice → IsImproveChoice n system last choice
    choice_wider last choice h = record { here = h.here; chosen = h.chosen; narrow = wider _ h.narrow }

    improve_ends_wider : (last : List Place) (left number : ℕ) (end : ImproveEnd) → ImproveFits end → ImproveEndsAt m system last left number end → ImproveEndsAt n system last left number end
    improve_ends_wider last left number AtOptimum f h = choice_wider last _ h
    improve_ends_wider last left number (Unbounded j) f h = choice_wider last _ h
    improve_ends_wider last left number (ImproveTooWide step o) f h = absurd f
    improve_ends_wider last left number ImproveSpent f (e, h) = (e, record { here = h.here; next = h.next; due = h.due; narrow = wider _ h.narrow })

    improved_wider : (pivots : ℕ) (end : ImproveEnd) (last : List Place) → ImproveFits end → ImprovesBy m system pivots end last → ImprovesBy n system pivots end last
    unfolding settles_wider
    improved_wider pivots end last f s =
        let r = s.further in
        let first = settles_wider pivots IsFeasible s.settled tt s.first in
        record {
          objective = s.objective;
          settled = s.settled;
          first = first;
          left = s.left;
          turns = s.turns;
          further = record { made = r.made; budget_is = r.budget_is; reaches = improves_wider r.made s.settled last r.reaches; turns_are = r.turns_are; ends = improve_ends_wider last s.left s.turns end f r.ends };
        }

    -- a run whose pivots are spent is spent by the greater limit too
    pub spent_wider : (pivots : ℕ) → StopsBy m system pivots Pivots → StopsBy n system pivots Pivots
    spent_wider pivots (inl (last, s)) = inl (last, settles_wider pivots Spent last tt s)
    spent_wider pivots (inr (last, s)) = inr (last, improved_wider pivots ImproveSpent last tt s)

    -- ---- where the dictionary stands
    chosen_wider : (now : DictionaryValue) (end : End) → IsChosen m system now end → IsChosen n system now end
    chosen_wider now Feasible h = (h.0, wider _ h.1)
    chosen_wider now (Infeasible v) h = (h.0, wider _ h.1)
    chosen_wider now Optimal h = ((h.0.0, (h.0.1.0, wider _ h.0.1.1)), h.1)
    chosen_wider now (Ray j) h = ((h.0.0, (h.0.1.0, wider _ h.0.1.1)), h.1)

    pub stands_wider : (now : DictionaryValue) (end : End) → StandsAt m system now end → StandsAt n system now end
    stands_wider now end h = record { usable = h.usable; is_of = h.is_of; columns = h.columns; chosen = chosen_wider now end h.chosen }

-- ---- by the limit of a fraction they are the system's own
module _ (system : LinearSystem) (pivots : ℕ) (apart : first_crossing system ≡ None) where
  no_improve : system.objective ≡ None → (end : ImproveEnd) (last : List Place) → ImprovesBy limit system pivots end last → ⊥
  no_improve none end last s = true≢false (sym s.objective ∙ ap (λ f. is_some f) none)

  own_settle : (end : SettleEnd) (last : List Place) → SettlesBy limit system pivots end last → StartRun system pivots end last
  own_settle end last s = record { apart = apart; left = s.left; turns = s.turns; run = s.run }

  own_improve : (end : ImproveEnd) (last : List Place) → ImprovesBy limit system pivots end last → ImproveStops system pivots end
  unfolding own_settle
  own_improve end last s = record {
    settled = s.settled;
    run = own_settle IsFeasible s.settled s.first;
    last = last;
    left = s.left;
    turns = s.turns;
    further = s.further;
  }

  own_end : (end : ImproveEnd) (last : List Place) → ImprovesBy limit system pivots end last → EndsSo system pivots end last
  unfolding own_improve
  own_end end last s = record { run = own_improve end last s; last_is = refl }

  pub own_stop : (stop : RunStop) → StopsBy limit system pivots stop → StopsSo system pivots stop
  own_stop (Wide turn o) (inl (last, s)) = inl (record { last = last; run = own_settle (TooWide turn o) last s })
  own_stop (Wide turn o) (inr (last, s)) = inr (own_improve (ImproveTooWide turn o) last s)
  own_stop Pivots (inl (last, s)) = inl (record { last = last; run = own_settle Spent last s })
  own_stop Pivots (inr (last, s)) = inr (own_improve ImproveSpent last s)
  own_stop Memory h = tt

  -- without an objective it is the settle run that stops
  pub plain_stop : system.objective ≡ None → (stop : RunStop) → StopsBy limit system pivots stop → IsStopOf system pivots stop
  plain_stop none (Wide turn o) (inl (last, s)) = record { last = last; run = own_settle (TooWide turn o) last s }
  plain_stop none (Wide turn o) (inr (last, s)) = absurd (no_improve none (ImproveTooWide turn o) last s)
  plain_stop none Pivots (inl (last, s)) = record { last = last; run = own_settle Spent last s }
  plain_stop none Pivots (inr (last, s)) = absurd (no_improve none ImproveSpent last s)
  plain_stop none Memory h = tt

  pub last_ends : (m : ℕ) → m ≤ limit → (end : End) (last : List Place) → EndsBy m system pivots end last → LastEnds system pivots end last
  last_ends m l Feasible last (none, s) = (none, own_settle IsFeasible last (settles_wider m limit l system pivots IsFeasible last tt s))
  last_ends m l (Infeasible v) last s = own_settle (IsInfeasible v) last (settles_wider m limit l system pivots (IsInfeasible v) last tt s)
  last_ends m l Optimal last s = (s.objective, own_end AtOptimum last (improved_wider m limit l system pivots AtOptimum last tt s))
  last_ends m l (Ray j) last s = (s.objective, own_end (Unbounded j) last (improved_wider m limit l system pivots (Unbounded j) last tt s))
