use Rattle.std.proofs.Common.{◌≡◌, true, take}
use Rattle.std.specs.List.{list_all}
use Rattle.quick_answers.specs.Stretching.{is_share_within}
use Rattle.quick_answers.proofs.rounds.are_within.Given as goal

-- those passed do not
abbrev pub invariant-loop-share : goal.invariant-loop-share
invariant-loop-share l = list_all (is_share_within l.enforced.members) (take l.share-index l.shares) ≡ true
