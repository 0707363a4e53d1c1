use Rattle.std.proofs.Common.{◌≡◌, ◌+◌, length}
use Rattle.std.specs.Prelude.{All}
use Rattle.lp_model.specs.MemberSets.{IsPossibleIn}
use Rattle.cert_check.specs.Trials.{paired_trials, is_use_of}
use Rattle.cert_check.specs.Stops.{first_stop}
use Rattle.cert_check.proofs.members.check_members.Given as goal

-- the members that are still to come stop the check as all do
abbrev pub invariant-loop-member : goal.invariant-loop-member
invariant-loop-member l = record {
  possible : All (IsPossibleIn l.among) l.member-iterator;
  line : l.line + length l.member-iterator ≡ l.start + length l.printed.members;
  left : first_stop (paired_trials (is_use_of l.among.members) l.line l.member-iterator l.uses) ≡ first_stop (paired_trials (is_use_of l.among.members) l.start l.printed.members l.used.members);
}
