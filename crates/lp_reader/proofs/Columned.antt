-- Columns of a model.
use Rattle.std.proofs.Common.{◌≡◌, ℕ, List, [], Some, slice_get, sym, ap, ◌∙◌}
use Rattle.std.specs.Prelude.{unwrap_or}
use Rattle.std.proofs.lemmas.Option.{unwrap_or-slice_get}
use Rattle.name_map.specs.Names.{name_at}
use Rattle.lp_model.specs.Program.{IsWellFormedColumn}
use Rattle.lp_model.proofs.New.{new_column_formed}
use Rattle.lp_reader.specs.declared.columns.Bounds.{Bounds}
use Rattle.lp_reader.specs.Building.{column_shown}

-- whatever the bounds are
pub column_formed : (name : List ℕ) (bounds : Bounds) → IsWellFormedColumn (column_shown name bounds)
column_formed name bounds = new_column_formed name bounds.lo bounds.up bounds.whole

pub name_is : (names : List (List ℕ)) (i : ℕ) (name : List ℕ) → slice_get names i ≡ Some name → name ≡ name_at names i
name_is names i name at = sym (ap (λ o. unwrap_or o []) at) ∙ unwrap_or-slice_get names i []
