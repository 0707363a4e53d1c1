-- When a new name is refused.
use Rattle.std.specs.Prelude.{◌≡◌, ℕ, ⊤, true, List}
use Rattle.lp_model.specs.declared.models.ModelStop.{ModelStop}
use Rattle.lp_model.specs.declared.models.ModelStop.TheVariants.{UnknownName, DuplicateName, Limit, Memory}
use Rattle.lp_model.specs.Shown.{IsPastLimit, is_named}

-- the name is there; or else there is no room or it is too long; want of memory may come at any time
abbrev pub IsAddRefusal : List (List ℕ) → ℕ → List ℕ → ModelStop → Type 0
IsAddRefusal names most name DuplicateName = is_named names name ≡ true
IsAddRefusal names most name Limit = IsPastLimit names most name
IsAddRefusal names most name Memory = ⊤
IsAddRefusal names most name UnknownName = ⊥
