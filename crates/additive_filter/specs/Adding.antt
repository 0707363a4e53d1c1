-- The additive method, by satisfiability alone, and what it comes to.
use Rattle.std.specs.Prelude.{◌≡◌, List, [], ◌∷◌, ◌++◌}
use Rattle.lp_model.specs.declared.members.Member.{Member}
use Rattle.lp_model.specs.Program.{Program}
use Rattle.lp_model.specs.Satisfaction.{IsSatisfiable, IsUnsatisfiable}
use Rattle.certs.specs.Filter.{Early}

-- What stays so far. The elements of the list are added, from the first one on, to those that stay, until these cannot all be together; the one that was added last stays, too.
pub data Adds {X : Type 0} (Can : List X → Type 0) (set : List X) : List X → Type 0 where
  none : Adds Can set []
  last : {kept : List X} (front : List X) (x : X) (back : List X) → Adds Can set kept → set ≡ front ++ x ∷ back → Can (front ++ kept) → ¬ (Can (front ++ x ∷ kept)) → Adds Can set (x ∷ kept)

-- Once those that stay cannot be together, they are what an early filter leaves.
abbrev pub AddingLaw : Type 0
AddingLaw = (model : Program) (set kept : List Member) → Adds (IsSatisfiable model) set kept → IsUnsatisfiable model kept → Early model set kept
