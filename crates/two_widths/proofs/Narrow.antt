-- Runs by the narrow limit that end are the only ones, so that none stops too wide.
use Rattle.std.proofs.Common.{◌≡◌, sym, ◌∙◌, ap, subst, ℕ, true≢false, List, is_some, inl, inr}
use Rattle.frac128.specs.Limit.{narrow_limit}
use Rattle.frac128.specs.declared.Wide.{Wide as Operation}
use Rattle.certs.specs.Improves.{ImproveRun}
use Rattle.certs.specs.Improves.ImproveEnd.{TooWide as ImproveTooWide}
use Rattle.certs.specs.Runs.{End as SettleEnd}
use Rattle.certs.specs.Runs.End.{Feasible as IsFeasible, Infeasible as IsInfeasible, TooWide, Spent}
use Rattle.certs.specs.System.{LinearSystem, Place}
use Rattle.certs.specs.Tableau.{start_basis}
use Rattle.certs.proofs.RunEnds.{one_end_law}
use Rattle.dictionary.specs.Starts.{FitSystem}
use Rattle.simplex.specs.ImproveEnds.{end_of}
use Rattle.simplex.specs.declared.improving.Improved.{Improved}
use Rattle.simplex.specs.declared.improving.Improved.TheVariants.{Optimal as ImprovesOptimal, Unbounded as ImprovesUnbounded}
use Rattle.simplex.specs.declared.settling.RunStop.TheVariants.{Wide}
use Rattle.two_widths.specs.declared.runs.End.{End}
use Rattle.two_widths.specs.declared.runs.End.TheVariants.{Feasible, Infeasible, Optimal, Ray}
use Rattle.two_widths.specs.Runs.{EndsBy, ImprovesBy, IsNarrow, SettlesBy, StopsBy}
use Rattle.two_widths.proofs.Once.{ended_once}
use Rattle.two_widths.proofs.Wider.{Fits}

-- the settle run is not blocked
Settles : SettleEnd → Type 0
Settles IsFeasible = Unit {0}
Settles (IsInfeasible v) = ⊥
Settles (TooWide step o) = ⊥
Settles Spent = ⊥

module _ (most : ℕ) (system : LinearSystem) (pivots : ℕ) where
  one_settle : (end other : SettleEnd) (last place : List Place) → SettlesBy most system pivots end last → SettlesBy most system pivots other place → end ≡ other
  one_settle end other last place a b = (one_end_law most system (start_basis system) pivots 0 end other last place a.left b.left a.turns b.turns a.run b.run).0

  settled_once : (end : SettleEnd) → Fits end → (last : List Place) → SettlesBy most system pivots end last → (turn : ℕ) (o : Operation) (place : List Place) → SettlesBy most system pivots (TooWide turn o) place → ⊥
  settled_once end fits last a turn o place b = subst Fits (one_settle end (TooWide turn o) last place a b) fits

  improved_once : (improved : Improved) (last : List Place) → ImprovesBy most system pivots (end_of improved) last → (turn : ℕ) (o : Operation) (place : List Place) → ImprovesBy most system pivots (ImproveTooWide turn o) place → ⊥
  improved_once improved last a turn o place b =
      let r = one_end_law most system (start_basis system) pivots 0 IsFeasible IsFeasible a.settled b.settled a.first.left b.first.left a.first.turns b.first.turns a.first.run b.first.run in
      ended_once most system a.objective a.settled a.first.left a.first.turns improved last a.left a.turns a.further turn o place b.left b.turns
      (subst (λ s. ImproveRun most system s a.first.left a.first.turns (ImproveTooWide turn o) place b.left b.turns) (sym r.1)
      (subst (λ k. ImproveRun most system b.settled k a.first.turns (ImproveTooWide turn o) place b.left b.turns) (sym r.2)
      (subst (λ k. ImproveRun most system b.settled b.first.left k (ImproveTooWide turn o) place b.left b.turns) (sym r.3) b.further)))

  improving_once : (improved : Improved) (last : List Place) → ImprovesBy most system pivots (end_of improved) last → (turn : ℕ) (o : Operation) → StopsBy most system pivots (Wide turn o) → ⊥
  improving_once improved last a turn o (inl (place, b)) = settled_once IsFeasible tt a.settled a.first turn o place b
  improving_once improved last a turn o (inr (place, b)) = improved_once improved last a turn o place b

  ended_alone : (end : End) (last : List Place) → EndsBy most system pivots end last → (turn : ℕ) (o : Operation) → StopsBy most system pivots (Wide turn o) → ⊥
  unfolding Settles
  ended_alone Feasible last (none, a) turn o (inl (place, b)) = settled_once IsFeasible tt last a turn o place b
  ended_alone Feasible last (none, a) turn o (inr (place, b)) = true≢false (sym b.objective ∙ ap (λ f. is_some f) none)
  ended_alone (Infeasible v) last a turn o (inl (place, b)) = settled_once (IsInfeasible v) tt last a turn o place b
  ended_alone (Infeasible v) last a turn o (inr (place, b)) = subst Settles (one_settle IsFeasible (IsInfeasible v) b.settled last b.first a) tt
  ended_alone Optimal last a turn o h = improving_once ImprovesOptimal last a turn o h
  ended_alone (Ray j) last a turn o h = improving_once (ImprovesUnbounded j) last a turn o h

pub narrow_of : (system : LinearSystem) (pivots : ℕ) (end : End) (last : List Place) → FitSystem narrow_limit system → EndsBy narrow_limit system pivots end last → IsNarrow system pivots
narrow_of system pivots end last fits ends = record { fits = fits; runs = ended_alone narrow_limit system pivots end last ends }
