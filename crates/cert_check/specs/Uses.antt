-- What single functions ask of sets and entries: members that are put in, and how far an entry goes.
use Rattle.std.specs.Prelude.{◌+◌, ◌<◌, Bool, ◌||◌, List, filter, length}
use Rattle.lp_model.specs.declared.members.Member.{Member}
use Rattle.lp_model.specs.Program.{Program}
use Rattle.lp_model.specs.Members.{has}
use Rattle.lp_model.specs.MemberSets.{SetValue, possible_in, set_with}
use Rattle.certs.specs.declared.evidence.Source.{Source}
use Rattle.certs.specs.declared.evidence.Source.TheVariants.{Member as Of, Below, Above}
use Rattle.report_text.specs.declared.report.Command.{Command}
use Rattle.report_text.specs.declared.report.Entry.{Entry}
use Rattle.report_text.specs.Turns.{after, AllEntries}
use Rattle.report_text.specs.Grammar.{entry_phrases}

-- the set with those possible members that pass a test besides
abbrev pub with_tested : SetValue → (Member → Bool) → SetValue
with_tested set test = record set { members = filter (λ m. has set.members m || test m) (possible_in set) }

-- the set with the member that a source names
abbrev pub with_source : SetValue → Source → SetValue
with_source set (Of m) = set_with set m
with_source set (Below j) = set
with_source set (Above j) = set

-- the lines of an entry have numbers that can be counted
abbrev pub IsShort : Program → Entry → Type 0
IsShort model e = e.line + length (entry_phrases model e) < 4294967280

-- those of each entry have
abbrev pub AreShort : Program → List Command → List Entry → Type 0
AreShort model before entries = AllEntries (λ front e. IsShort (after model front) e) before entries
