-- Members that are put into a part of a set.
use Rattle.std.specs.Prelude.{◌≡◌, Bool, ◌||◌, List, filter, Contains, All}
use Rattle.lp_model.specs.declared.members.Member.{Member}
use Rattle.lp_model.specs.Members.{has}
use Rattle.lp_model.specs.MemberSets.{SetValue, possible_in}

-- whether a member is in one list or the other
abbrev pub joined_test : List Member → List Member → Member → Bool
joined_test a b m = has a m || has b m

-- the part and the further members are of the set, whose members are possible ones, in their order
pub record IsPartWithin (part : SetValue) (set further : List Member) : Type 0 where
  pub part_of : part.members ≡ filter (has part.members) set
  pub possible : set ≡ filter (has set) (possible_in part)
  pub inside : All (Contains set) further
