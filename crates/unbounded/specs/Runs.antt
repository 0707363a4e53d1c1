-- Runs of systems that can be satisfied.
use Rattle.std.specs.Prelude.{◌≡◌, ◌<◌, ℕ, true, List, [], length, All}
use Rattle.lp_model.specs.declared.members.Member.{Member}
use Rattle.lp_model.specs.Program.{Program, IsWellFormed}
use Rattle.lp_model.specs.MemberSets.{IsMemberFor}
use Rattle.lp_model.specs.Satisfaction.{values_at}
use Rattle.rational.specs.Rational.{ℚ}
use Rattle.certs.specs.Improves.{ImproveEnd}
use Rattle.certs.specs.Plain.{plain_system}
use Rattle.certs.specs.Runs.{TableauAt}
use Rattle.certs.specs.System.{LinearSystem, Place, VariableShare, IsVariableCombination}
use Rattle.certs.specs.Tableau.{IsTableauOf, IsWellFormedSystem, value_of}
use Rattle.dictionary.specs.Value.{DictionaryValue, tableau_of}
use Rattle.simplex.specs.ImproveEnds.{KeepsLimits}
use Rattle.two_widths.specs.Ends.{EndsSo}

-- nothing contradicts the system
abbrev pub HasNoCombination : LinearSystem → Type 0
HasNoCombination system = (shares : List VariableShare) → IsVariableCombination system shares → ⊥

-- the dictionary stands at a basis of the set's plain system with the objective where no variable is outside its limits
pub record IsEndOf (model : Program) (set : List Member) (now : DictionaryValue) : Type 0 where
  pub formed : IsWellFormed model
  pub known : All (IsMemberFor (length model.rows) (length model.columns)) set
  pub system_formed : IsWellFormedSystem (plain_system model set [] true)
  pub is_of : IsTableauOf (plain_system model set [] true) (tableau_of now)
  pub columns : now.columns ≡ length model.columns
  pub within : KeepsLimits (plain_system model set [] true) (tableau_of now)

-- the values are those of the columns at the end of that run for the set's plain system with the objective
pub record IsLastPoint (model : Program) (set : List Member) (pivots : ℕ) (end : ImproveEnd) (values : List ℚ) : Type 0 where
  pub basis : List Place
  pub run : EndsSo (plain_system model set [] true) pivots end basis
  pub here : TableauAt (plain_system model set [] true) basis
  pub values_are : (j : ℕ) → j < length model.columns → values_at values j ≡ value_of here.tableau j
