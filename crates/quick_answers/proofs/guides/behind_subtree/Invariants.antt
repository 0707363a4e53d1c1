use Rattle.std.proofs.Common.{length}
use Rattle.quick_answers.proofs.guides.behind_subtree.Given as goal

abbrev pub decreases-loop-left : goal.decreases-loop-left
decreases-loop-left l = length l.left
