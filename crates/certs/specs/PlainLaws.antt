-- Laws of the plain system of a set on a path: its form, its points and its cuts.
use Rattle.std.specs.Prelude.{◌≡◌, ℕ, ◌<◌, Bool, false, List, length, None, All}
use Rattle.rational.specs.Rational.{ℚ}
use Rattle.lp_model.specs.declared.members.Member.{Member}
use Rattle.lp_model.specs.Program.{Program, IsWellFormed}
use Rattle.lp_model.specs.Members.{is_mark}
use Rattle.lp_model.specs.MemberSets.{IsMemberFor}
use Rattle.lp_model.specs.Satisfaction.{Holds, values_at}
use Rattle.certs.specs.declared.evidence.Branch.{Branch}
use Rattle.certs.specs.declared.evidence.Share.{Share}
use Rattle.certs.specs.Combination.{KeepsPath, IsCombination}
use Rattle.certs.specs.Plain.{plain_system, first_crossing}
use Rattle.certs.specs.Solves.{SettlesAt, IsPlainCut}
use Rattle.certs.specs.Tableau.{IsWellFormedSystem}

-- where no limits cross the plain system is well formed
abbrev pub PlainFormedLaw : Type 0
PlainFormedLaw = (model : Program) (set : List Member) (path : List Branch) (objective : Bool) → IsWellFormed model
    → first_crossing (plain_system model set path objective) ≡ None → IsWellFormedSystem (plain_system model set path objective)

-- where its run settles the point satisfies every member of the set but the marks
abbrev pub PlainPointLaw : Type 0
PlainPointLaw = (model : Program) (set : List Member) (path : List Branch) (pivots : ℕ) (values : List ℚ) → IsWellFormed model
    → All (IsMemberFor (length model.rows) (length model.columns)) set → SettlesAt (plain_system model set path false) pivots values
    → All (λ m. is_mark m ≡ false → Holds model (values_at values) m) set

-- and where the path's columns are the model's the point keeps the path
abbrev pub PlainPathLaw : Type 0
PlainPathLaw = (model : Program) (set : List Member) (path : List Branch) (pivots : ℕ) (values : List ℚ) → IsWellFormed model
    → All (λ b. b.column < length model.columns) path → SettlesAt (plain_system model set path false) pivots values → KeepsPath (values_at values) path

-- where limits cross, or its run ends infeasible, the shares are a combination of the set on the path
abbrev pub PlainCutLaw : Type 0
PlainCutLaw = (model : Program) (set : List Member) (path : List Branch) (pivots : ℕ) (shares : List Share) → IsWellFormed model
    → All (λ b. b.column < length model.columns) path → IsPlainCut model set path pivots shares → IsCombination model set path shares
