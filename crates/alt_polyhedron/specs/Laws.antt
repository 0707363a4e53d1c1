-- Laws of systems of the alternative: their form, and that their objective has an end.
use Rattle.std.specs.Prelude.{◌≡◌, ◌<◌, ◌≤◌, ◌^◌, List, length, None, All}
use Rattle.rational.specs.Linear.{Assignment}
use Rattle.lp_model.specs.declared.members.Member.{Member}
use Rattle.lp_model.specs.Program.{Program, IsWellFormed}
use Rattle.lp_model.specs.Members.{IsInOrder}
use Rattle.lp_model.specs.MemberSets.{IsMemberFor}
use Rattle.lp_model.specs.Shown.{most_columns, most_rows}
use Rattle.certs.specs.Plain.{first_crossing}
use Rattle.certs.specs.System.{alternative_system}
use Rattle.certs.specs.Tableau.{IsWellFormedSystem, variables}
use Rattle.simplex.specs.Rays.{IsVariableRay}

-- no limits cross
abbrev pub ApartLaw : Type 0
ApartLaw = (model : Program) (set : List Member) → first_crossing (alternative_system model set) ≡ None

-- the system is well formed
abbrev pub FormedLaw : Type 0
FormedLaw = (model : Program) (set : List Member) → IsWellFormedSystem (alternative_system model set)

-- that of members of a program within the limits, in order, has few variables
abbrev pub FewLaw : Type 0
FewLaw = (model : Program) (set : List Member) → All (IsMemberFor (length model.rows) (length model.columns)) set → IsInOrder set
    → length model.rows ≤ most_rows → length model.columns ≤ most_columns → variables (alternative_system model set) < 2 ^ 31

-- that of members of a well-formed program has no ray along which its objective rises
abbrev pub BoundedLaw : Type 0
BoundedLaw = (model : Program) (set : List Member) → IsWellFormed model → All (IsMemberFor (length model.rows) (length model.columns)) set
    → (ray : Assignment) → IsVariableRay (alternative_system model set) ray → ⊥
