-- Two oracles of one program: the first is asked for the whole set, and the later one inside the first core.
use Rattle.std.specs.Prelude.{◌≡◌, ◌⊎◌, List, Result}
use Rattle.lp_model.specs.declared.members.Member.{Member}
use Rattle.lp_model.specs.Program.{Program}
use Rattle.certs.specs.declared.solving.Stop.{Stop}
use Rattle.certs.specs.declared.solving.Verdict.{Verdict}
use Rattle.certs.specs.Answers.{AnswersAt}
use Rattle.certs.specs.Filter.{IsLateTest}
use Rattle.certs.specs.Sites.{Budgets}
use Rattle.certs.specs.Tales.{OracleState}
use Rattle.filter_steps.specs.Isolated.{IsJust, IsStoppedAt}
use Rattle.sensitivity_filter.specs.Cores.{IsFirstCoreOf}

-- what answers are to an ask, by the program and what a solve may spend
abbrev pub Relation : Type 1
Relation = Program → Budgets → List Member → Result Verdict Stop → Type 0

-- what is an answer of the one, or of the other within its own budgets
abbrev pub either : Relation → Relation → Budgets → Relation
either answers others allowed model budgets set result = answers model budgets set result ⊎ others model allowed set result

-- The first oracle stopped at the whole set, and the later one was not asked; or the later one stopped at a set that a late filter of the first core may ask for.
pub data IsStoppedWith (first later : Relation) (set : List Member) (first_old first_new later_old later_new : OracleState) (stop : Stop) : Type 0 where
  at_whole : IsStoppedAt IsJust first set first_old first_new stop → later_new ≡ later_old → IsStoppedWith first later set first_old first_new later_old later_new stop
  at_core : {core : List Member} → IsFirstCoreOf (AnswersAt first first_old) first_new.tale.first_core set core → IsStoppedAt IsLateTest later core later_old later_new stop → first_new.tale.stops ≡ first_old.tale.stops
      → IsStoppedWith first later set first_old first_new later_old later_new stop
