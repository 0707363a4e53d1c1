-- The runs of the code as runs from the system's start.
use Rattle.std.proofs.Common.{◌≡◌, ◌∙◌, refl, sym, ap, subst, ℕ, Bool, true, false, true≢false, not, IsSome, Option, Some, None, is_some, Err, inl, inr}
use Rattle.certs.specs.Improves.{ImproveEnd}
use Rattle.certs.specs.Improves.ImproveEnd.{TooWide as ImproveTooWide, Spent as ImproveSpent}
use Rattle.certs.specs.Runs.{End as SettleEnd, IsSettledAt, SettleRun}
use Rattle.certs.specs.Runs.End.{Feasible as IsFeasible, TooWide, Spent}
use Rattle.certs.specs.System.{LinearSystem}
use Rattle.certs.specs.Tableau.{IsWellFormedSystem, start_basis}
use Rattle.dictionary.specs.Value.{DictionaryValue, tableau_of}
use Rattle.simplex.specs.Ends.{HasRun, RanBy}
use Rattle.simplex.specs.ImproveEnds.{EndsAt, HasImproved, ImprovedBy, IsSettledStart, KeepsLimits, end_of}
use Rattle.simplex.specs.declared.improving.Improved.{Improved}
use Rattle.simplex.specs.declared.improving.Improved.TheVariants.{Optimal as ImprovesOptimal, Unbounded as ImprovesUnbounded}
use Rattle.simplex.specs.declared.settling.RunStop.{RunStop}
use Rattle.simplex.specs.declared.settling.RunStop.TheVariants.{Wide, Pivots, Memory}
use Rattle.two_widths.specs.Ends.{IsChosen}
use Rattle.two_widths.specs.Runs.{EndsBy, ImprovesBy, SettlesBy, StopsBy, end_as}

-- ---- an objective
pub none_of : {A : Type 0} (o : Option A) (b : Bool) → is_some o ≡ not b → b ≡ true → o ≡ None
none_of None b e f = refl
none_of (Some a) b e f = absurd (true≢false (e ∙ ap not f))

pub some_of : {A : Type 0} (o : Option A) (b : Bool) → is_some o ≡ not b → b ≡ false → IsSome o
some_of o b e f = e ∙ ap not f

module _ (most : ℕ) (system : LinearSystem) (start : DictionaryValue) (pivots : ℕ) (e : start.basis ≡ start_basis system) where
  -- ---- the settle run
  settles_by : (end : SettleEnd) (now : DictionaryValue) (left turns : ℕ) (h : HasRun most system start.basis pivots 0 end now left turns) → SettlesBy most system pivots end h.last
  settles_by end now left turns h = record { left = left; turns = turns; run = subst (λ b. SettleRun most system b pivots 0 end h.last left turns) e h.run }

  pub settles_here : (end : SettleEnd) (now : DictionaryValue) (left turns : ℕ) → now.usable ≡ true → HasRun most system start.basis pivots 0 end now left turns → SettlesBy most system pivots end now.basis
  settles_here end now left turns usable h = subst (SettlesBy most system pivots end) (sym (h.stands usable).0) (settles_by end now left turns h)

  pub settle_stops : (stop : RunStop) (now : DictionaryValue) (left turns : ℕ) → RanBy most system start.basis pivots 0 (Err stop) now left turns → StopsBy most system pivots stop
  settle_stops (Wide turn o) now left turns h = inl (h.last, settles_by (TooWide turn o) now left turns h)
  settle_stops Pivots now left turns h = inl (h.last, settles_by Spent now left turns h)
  settle_stops Memory now left turns h = tt

  -- ---- the improve run after it
  module _ (some : IsSome system.objective) (middle : DictionaryValue) (left turns : ℕ) (usable : middle.usable ≡ true) (h : HasRun most system start.basis pivots 0 IsFeasible middle left turns) (now : DictionaryValue) (left_at turns_at : ℕ) where
    first : SettleRun most system (start_basis system) pivots 0 IsFeasible middle.basis left turns
    first =
        subst (λ b. SettleRun most system b pivots 0 IsFeasible middle.basis left turns) e
        (subst (λ l. SettleRun most system start.basis pivots 0 IsFeasible l left turns) (sym (h.stands usable).0) h.run)

    improves_by : (end : ImproveEnd) (further : HasImproved most system middle.basis left turns end now left_at turns_at) → ImprovesBy most system pivots end further.last
    improves_by end further = record {
      objective = some;
      settled = middle.basis;
      first = record { left = left; turns = turns; run = first };
      left = left_at;
      turns = turns_at;
      further = further.run;
    }

    pub improve_stops : (stop : RunStop) → ImprovedBy most system middle.basis left turns (Err stop) now left_at turns_at → StopsBy most system pivots stop
    improve_stops (Wide turn o) further = inr (further.last, improves_by (ImproveTooWide turn o) further)
    improve_stops Pivots further = inr (further.last, improves_by ImproveSpent further)
    improve_stops Memory further = tt

    improves_here : (end : ImproveEnd) → now.usable ≡ true → HasImproved most system middle.basis left turns end now left_at turns_at → ImprovesBy most system pivots end now.basis
    improves_here end there further = subst (ImprovesBy most system pivots end) (sym (further.stands there).0) (improves_by end further)

    pub improve_ends : (improved : Improved) → now.usable ≡ true → HasImproved most system middle.basis left turns (end_of improved) now left_at turns_at → EndsBy most system pivots (end_as improved) now.basis
    improve_ends ImprovesOptimal there further = improves_here (end_of ImprovesOptimal) there further
    improve_ends (ImprovesUnbounded j) there further = improves_here (end_of (ImprovesUnbounded j)) there further

    pub settled_start : IsWellFormedSystem system → IsSettledStart most system middle.basis
    settled_start formed = record { formed = formed; objective = some; settled = subst (IsSettledAt most system) (sym (h.stands usable).0) h.run.ends }

pub chosen_as : (most : ℕ) (system : LinearSystem) (now : DictionaryValue) (improved : Improved) → EndsAt most now improved → KeepsLimits system (tableau_of now) → IsChosen most system now (end_as improved)
chosen_as most system now ImprovesOptimal ended within = (ended, within)
chosen_as most system now (ImprovesUnbounded j) ended within = (ended, within)
