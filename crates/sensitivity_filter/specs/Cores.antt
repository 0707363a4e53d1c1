-- What a filter leaves of the first core.
use Rattle.std.specs.Prelude.{◌≡◌, ℕ, List, length, Option, Some, None, Result}
use Rattle.lp_model.specs.declared.members.Member.{Member}
use Rattle.lp_model.specs.Program.{Program}
use Rattle.lp_model.specs.Satisfaction.{IsPart}
use Rattle.certs.specs.declared.solving.Stop.{Stop}
use Rattle.certs.specs.declared.solving.Verdict.{Verdict}
use Rattle.certs.specs.Answers.{IsCoreBy}
use Rattle.certs.specs.Filter.{IsLateTest, Late}
use Rattle.certs.specs.Tales.{FirstCore}

-- the first core is these members of the set, those that the proof answered to the ask for the set uses, and was told when the set was asked for
pub record IsFirstCoreOf (Answers : List Member → Result Verdict Stop → Type 0) (first : Option FirstCore) (set core : List Member) : Type 0 where
  pub part : IsPart core set
  pub answered : IsCoreBy Answers set core
  pub told : first ≡ Some (record { core = core; asked = set })

-- what a late filter leaves of the first core
pub record IsLateOfCore (Answers : List Member → Result Verdict Stop → Type 0) (first : Option FirstCore) (model : Program) (set kept : List Member) : Type 0 where
  pub core : List Member
  pub is_core : IsFirstCoreOf Answers first set core
  pub late : Late model core kept

-- the whole set, or a set that a late filter of the first core may ask for
pub data IsCoreTest (Answers : List Member → Result Verdict Stop → Type 0) (first : Option FirstCore) (model : Program) (set : List Member) : List Member → Type 0 where
  whole : IsCoreTest Answers first model set set
  within : {core test : List Member} → IsFirstCoreOf Answers first set core → IsLateTest model core test → IsCoreTest Answers first model set test

-- how many members the first core has; none where there is none
abbrev pub core_length : Option FirstCore → ℕ
core_length None = 0
core_length (Some first) = length first.core
