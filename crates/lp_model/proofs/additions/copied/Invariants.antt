use Rattle.std.proofs.Common.{◌≡◌, take}
use Rattle.lp_model.proofs.additions.copied.Given as goal

-- the entries before the index are there
abbrev pub invariant-loop-index : goal.invariant-loop-index
invariant-loop-index g l = l.copy ≡ take l.index l.map
