-- How the run of a set's plain system ends: with a point, with a combination, or stopped.
use Rattle.std.specs.Prelude.{◌≡◌, ◌⊎◌, ℕ, ◌<◌, false, List, map, length, Some, None}
use Rattle.rational.specs.Rational.{ℚ}
use Rattle.lp_model.specs.declared.members.Member.{Member}
use Rattle.lp_model.specs.declared.members.Side.{Side}
use Rattle.lp_model.specs.Program.{Program}
use Rattle.lp_model.specs.Satisfaction.{values_at}
use Rattle.frac128.specs.Limit.{limit}
use Rattle.certs.specs.declared.evidence.Branch.{Branch}
use Rattle.certs.specs.declared.evidence.Share.{Share}
use Rattle.certs.specs.System.{LinearSystem, Place, VariableShare}
use Rattle.certs.specs.Tableau.{start_basis, value_of}
use Rattle.certs.specs.Turns.{settle_choice}
use Rattle.certs.specs.Turns.Choice.{Blocked}
use Rattle.certs.specs.Runs.{TableauAt, SettleRun, End}
use Rattle.certs.specs.Runs.End.{Feasible, Infeasible}
use Rattle.certs.specs.Ended.{blocked_shares}
use Rattle.certs.specs.Improves.{ImproveEnd, ImproveRun}
use Rattle.certs.specs.Plain.{plain_system, first_crossing, crossing_shares}
use Rattle.certs.specs.Named.{named, program_shares}

-- No limits of the system cross, and its settle run from the start ends so within so many pivots.
pub record StartRun (system : LinearSystem) (pivots : ℕ) (end : End) (last : List Place) : Type 0 where
  pub apart : first_crossing system ≡ None
  pub left : ℕ
  pub turns : ℕ
  pub run : SettleRun limit system (start_basis system) pivots 0 end last left turns

-- the run ends or stops so, at some basis
pub record RunEnds (system : LinearSystem) (pivots : ℕ) (end : End) : Type 0 where
  pub last : List Place
  pub run : StartRun system pivots end last

-- The settle run ends feasible, and the improve run from there ends or stops so within the pivots that are left.
pub record ImproveStops (system : LinearSystem) (pivots : ℕ) (stop : ImproveEnd) : Type 0 where
  pub settled : List Place
  pub run : StartRun system pivots Feasible settled
  pub last : List Place
  pub left : ℕ
  pub turns : ℕ
  pub further : ImproveRun limit system settled run.left run.turns stop last left turns

-- The run settles, and the values are those of the columns at its last basis.
pub record SettlesAt (system : LinearSystem) (pivots : ℕ) (values : List ℚ) : Type 0 where
  pub last : List Place
  pub run : StartRun system pivots Feasible last
  pub here : TableauAt system last
  pub count : length values ≡ length system.columns
  pub values_are : (j : ℕ) → j < length system.columns → values_at values j ≡ value_of here.tableau j

-- The run ends infeasible, and these are the shares of the variable that nothing helps.
pub record BlocksWith (system : LinearSystem) (pivots : ℕ) (shares : List VariableShare) : Type 0 where
  pub last : List Place
  pub variable : ℕ
  pub run : StartRun system pivots (Infeasible variable) last
  pub here : TableauAt system last
  pub side : Side
  pub blocked : settle_choice here.tableau ≡ Blocked variable side
  pub shares_are : shares ≡ blocked_shares system here.tableau variable side

-- limits of the system cross, and these are the shares of the least variable whose limits do
pub record CrossesWith (system : LinearSystem) (shares : List VariableShare) : Type 0 where
  pub variable : ℕ
  pub crosses : first_crossing system ≡ Some variable
  pub shares_are : shares ≡ crossing_shares variable

-- The shares are those of the program that the plain system of the set on the path gives, by limits that cross or else by the end of its run.
pub record IsPlainCut (model : Program) (set : List Member) (path : List Branch) (pivots : ℕ) (shares : List Share) : Type 0 where
  pub of : List VariableShare
  pub given : CrossesWith (plain_system model set path false) of ⊎ BlocksWith (plain_system model set path false) pivots of
  pub shares_are : shares ≡ program_shares model set path (map (named (length model.columns)) of)
