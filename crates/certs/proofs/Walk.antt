-- What a check of each member, one after another, gives.
use Rattle.std.proofs.Common.{◌≡◌, sym, ap, Bool, true, false, cond, List, [], ◌∷◌, Option, Some, None, ℕ}
use Rattle.lp_model.specs.declared.members.Member.{Member}
use Rattle.rational.specs.Linear.{Assignment}
use Rattle.lp_model.specs.Program.{Program}
use Rattle.lp_model.specs.Evaluation.{member_operations}
use Rattle.frac128.specs.declared.Wide.{Wide as Operation}
use Rattle.frac128.specs.Limit.{limit}
use Rattle.frac128.specs.Calculation.{first_wide}
use Rattle.certs.specs.declared.evidence.Checked.{Checked}
use Rattle.certs.specs.declared.evidence.Checked.TheVariants.{Yes, No, Wide}
use Rattle.certs.specs.Checks.{Step, unless_wide, outcome_within, outcome, holds_test, point_steps}

-- ---- what the first step gives, and the rest
-- a yes goes on
abbrev pub go_on : Checked → Checked → Checked
go_on Yes rest = rest
go_on No rest = No
go_on (Wide o) rest = Wide o

by_first : (p : Option Operation) (t : Bool) (rest a : Checked) → unless_wide p (cond t Yes No) ≡ a → unless_wide p (cond t rest No) ≡ go_on a rest
by_first None true rest a e = ap (λ c. go_on c rest) e
by_first None false rest a e = ap (λ c. go_on c rest) e
by_first (Some o) t rest a e = ap (λ c. go_on c rest) e

-- the outcome of a step alone decides, or the rest does
first_decides : (most : ℕ) (s : Step) (rest : List Step) (a : Checked) → outcome_within most (s ∷ []) ≡ a → outcome_within most (s ∷ rest) ≡ go_on a (outcome_within most rest)
first_decides most s rest a e = by_first (first_wide most s.operations) s.passes (outcome_within most rest) a e

-- the first member decides, or those after it do
pub member_decides : (model : Program) (m : Member) (rest : List Member) (x : Assignment) (a : Checked) → a ≡ outcome (point_steps model (m ∷ []) x) → outcome (point_steps model (m ∷ rest) x) ≡ go_on a (outcome (point_steps model rest x))
member_decides model m rest x a k = first_decides limit (record { operations = member_operations model m x; passes = holds_test model x m }) (point_steps model rest x) a (sym k)
