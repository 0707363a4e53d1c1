-- What callers see of a quick stretcher, and what a round takes from a point.
use Rattle.std.specs.Prelude.{◌≡◌, ℕ, Bool, false, ◌&&◌, ◌||◌, not, List, filter, All}
use Rattle.rational.specs.Rational.{le_q, one_ℚ}
use Rattle.rational.specs.Linear.{Assignment}
use Rattle.lp_model.specs.declared.members.Member.{Member}
use Rattle.lp_model.specs.Program.{Program}
use Rattle.lp_model.specs.Members.{has}
use Rattle.lp_model.specs.MemberSets.{SetValue}
use Rattle.certs.specs.declared.evidence.Share.{Share}
use Rattle.certs.specs.declared.evidence.Source.{Source}
use Rattle.certs.specs.declared.evidence.Source.TheVariants.{Member as Of, Below, Above}
use Rattle.certs.specs.Sites.{Budgets}
use Rattle.certs.specs.Tales.{Stopped}
use Rattle.certs.specs.Violation.{IsWithinWeight, is_violated, total_violation, weight_on}
use Rattle.evidence_laws.specs.Weighed.{weight_beside}
use Rattle.relaxation.specs.Stretching.{StretcherValue}
use Rattle.quick_answers.specs.declared.rounds.Missed.{Missed}

-- The stretcher that makes the rounds of which quick runs show nothing, how many pivots the quick runs of a round may make, the rounds made so far and their stops, and how many pivots were allowed so far
pub record QuickStretcherValue : Type 0 where
  pub inner : StretcherValue
  pub pivots : ℕ
  pub rounds : ℕ
  pub stops : List Stopped
  pub allowed : ℕ

-- what each of its rounds may spend
abbrev pub budgets_of : QuickStretcherValue → Budgets
budgets_of s = record { pivots = s.inner.pivots; nodes = 0 }

-- the shares give no member of the set that is not enforced more than 1
abbrev pub AreWithin : List Member → List Member → List Share → Type 0
AreWithin set enforced shares = All (λ m. IsWithinWeight (weight_on shares m) (weight_beside enforced m)) set

-- whether a source is an enforced member
abbrev pub is_enforced : List Member → Source → Bool
is_enforced enforced (Of m) = has enforced m
is_enforced enforced (Below j) = false
is_enforced enforced (Above j) = false

-- whether a share gives no member that is not enforced more than 1
abbrev pub is_share_within : List Member → Share → Bool
is_share_within enforced s = le_q s.weight one_ℚ || is_enforced enforced s.source

-- whether a member is violated and not enforced
abbrev pub is_further : Program → List Member → Assignment → Member → Bool
is_further model enforced x m = not (has enforced m) && is_violated model x m

-- the total violation of the set at these values, and its members that are violated there and not enforced
pub record IsMissedAt (model : Program) (set : SetValue) (enforced : List Member) (x : Assignment) (missed : Missed) : Type 0 where
  pub total : missed.total ≡ total_violation model set.members x
  pub further : missed.further ≡ record set { members = filter (is_further model enforced x) set.members }
