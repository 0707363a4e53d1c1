-- Why a part that may be added is refused.
use Rattle.std.proofs.Common.{◌≡◌, ◌<◌, ◌≤◌, ◌⊎◌, inl, inr, ℕ, List, length, refl, sym, ◌∙◌, arith, true≢false}
use Rattle.lp_model.specs.declared.models.ModelStop.{ModelStop}
use Rattle.lp_model.specs.declared.models.ModelStop.TheVariants.{UnknownName, DuplicateName, Limit, Memory}
use Rattle.lp_model.specs.Shown.{CanAdd, longest_name}
use Rattle.lp_model.specs.Refusals.{IsAddRefusal}

-- a name that may be added is refused for want of memory alone
pub memory_alone : (names : List (List ℕ)) (most : ℕ) (name : List ℕ) → CanAdd names most name → (stop : ModelStop) → IsAddRefusal names most name stop → stop ≡ Memory
memory_alone names most name can DuplicateName is = absurd (true≢false (sym is ∙ can.fresh))
memory_alone names most name can Limit is = by is.past
  where
    by : (most ≤ length names) ⊎ (longest_name < length name) → Limit ≡ Memory
    by (inl full) = let room = can.room in absurd (omega arith)
    by (inr long) = let short = can.short in absurd (omega arith)
memory_alone names most name can Memory is = refl
memory_alone names most name can UnknownName is = absurd is
