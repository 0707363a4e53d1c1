-- One row of a table that shows infeasibility is irreducible: the values that meet its limits but one, and the core that it gives.
use Rattle.std.specs.Prelude.{◌≡◌, ◌≢◌, ℕ, ◌==◌, false, cond, List, [], ◌∷◌, Some, None, All, Contains}
use Rattle.rational.specs.Rational.{ℚ, ◌+ℚ◌, ◌-ℚ◌, ◌*ℚ◌, ◌/ℚ◌}
use Rattle.rational.specs.Linear.{Assignment}
use Rattle.lp_model.specs.declared.members.Member.{Member}
use Rattle.lp_model.specs.declared.members.Side.{Side}
use Rattle.lp_model.specs.Program.{Program, IsWellFormed}
use Rattle.lp_model.specs.Members.{IsInOrder}
use Rattle.lp_model.specs.Satisfaction.{IsIrreducible}
use Rattle.certs.specs.declared.evidence.Combo.{Combo}
use Rattle.certs.specs.declared.evidence.Node.TheVariants.{Leaf}
use Rattle.certs.specs.Combination.{number_or_zero}
use Rattle.certs.specs.System.{LinearSystem, KeepsRows, is_basic, limit_on, variable_limits, VariableShare}
use Rattle.certs.specs.Tableau.{Tableau, IsTableauOf, IsWellFormedSystem, value_of}
use Rattle.certs.specs.Turns.{settle_choice}
use Rattle.certs.specs.Turns.Choice.{Blocked}
use Rattle.certs.specs.Ended.{blocked_shares}
use Rattle.certs.specs.Plain.{plain_system, first_crossing}
use Rattle.certs.specs.Named.{used_members}
use Rattle.certs.specs.Solves.{IsPlainCut}

-- ---- values that meet all limits but one
-- The values at a tableau, moved along the column of a nonbasic variable k: it by r, each basic variable by r times its
-- factor, and the others not.
abbrev pub moved : Tableau → ℕ → ℚ → Assignment
moved t k r v =
    cond (v == k) (value_of t v +ℚ r)
    (cond (is_basic t.basis v) (value_of t v +ℚ t.factor v k *ℚ r) (value_of t v))

-- from the value of a variable to its limit on a side
abbrev pub gap : LinearSystem → Tableau → ℕ → Side → ℚ
gap system t i side = number_or_zero (limit_on (variable_limits system i) side) -ℚ value_of t i

-- The values without the limit of v. Where v is the blocked variable i itself, those at the tableau; else those moved along
-- the column of v until i stands at the limit that it missed.
abbrev pub witness : LinearSystem → Tableau → ℕ → Side → ℕ → Assignment
witness system t i side v =
    cond (v == i) (value_of t) (moved t v (gap system t i side /ℚ t.factor i v))

-- the limit of the share is there, and its variable stands exactly at it
abbrev pub MeetsLimit : LinearSystem → Assignment → VariableShare → Type 0
MeetsLimit system x u = limit_on (variable_limits system u.variable) u.side ≡ Some (x u.variable)

-- The values keep the rows, and meet the limit of each of the shares but those of one variable.
pub record MeetsOthers (system : LinearSystem) (shares : List VariableShare) (v : ℕ) (x : Assignment) : Type 0 where
  pub rows : KeepsRows system x
  pub limits : All (λ u. u.variable ≢ v → MeetsLimit system x u) shares

-- ---- laws
-- where nothing helps a variable, each share of its row has a witness: it meets the limits of the other variables' shares
abbrev pub WitnessLaw : Type 0
WitnessLaw = (system : LinearSystem) (t : Tableau) (i : ℕ) (side : Side) (s : VariableShare)
    → IsWellFormedSystem system → IsTableauOf system t → settle_choice t ≡ Blocked i side
    → Contains (blocked_shares system t i side) s
    → MeetsOthers system (blocked_shares system t i side) s.variable
    (witness system t i side s.variable)

-- where no limits cross, the members of a set in order that its plain cut without a path names are irreducible
abbrev pub CoreLaw : Type 0
CoreLaw = (model : Program) (set : List Member) (pivots : ℕ) (combo : Combo)
    → IsWellFormed model → IsInOrder set → first_crossing (plain_system model set [] false) ≡ None
    → IsPlainCut model set [] pivots combo.shares
    → IsIrreducible model (used_members set (Leaf combo ∷ []))
