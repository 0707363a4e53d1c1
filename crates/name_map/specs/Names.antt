-- The names and the values of a list of pairs, and where a name stands.
use Rattle.std.specs.Prelude.{◌≡◌, ℕ, ◌<◌, nat_eq, true, List, [], map, length, slice_index_or}
use Rattle.std.specs.List.{list_any}
use Rattle.std.specs.Str.{bytes_eq}
-- the entries with another value at an index
pub use Rattle.indexmap.specs.IndexMap.{set_value_at}

-- the names
abbrev pub names_of : {V : Type 0} → List (List ℕ × V) → List (List ℕ)
names_of entries = map (λ e. e.0) entries

-- the values
abbrev pub values_of : {V : Type 0} → List (List ℕ × V) → List V
values_of entries = map (λ e. e.1) entries

-- the name at an index
abbrev pub name_at : List (List ℕ) → ℕ → List ℕ
name_at names i = slice_index_or names i []

-- the name stands at the index, and nowhere else
pub record StandsAt (names : List (List ℕ)) (name : List ℕ) (i : ℕ) : Type 0 where
  pub within : i < length names
  pub named : name_at names i ≡ name
  pub alone : (k : ℕ) → k < length names → bytes_eq name (name_at names k) ≡ nat_eq i k
  pub among : list_any (bytes_eq name) names ≡ true
