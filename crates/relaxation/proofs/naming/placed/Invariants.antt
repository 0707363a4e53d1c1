use Rattle.std.proofs.Common.{◌≡◌, [], drop}
use Rattle.relaxation.specs.Shares.{placed}
use Rattle.relaxation.proofs.naming.placed.Given as goal

-- the shares to come, put into the list, give the whole
abbrev pub invariant-loop-share : goal.invariant-loop-share
invariant-loop-share l = placed l.columns l.rows l.list.items (drop l.share-index l.shares) ≡ placed l.columns l.rows [] l.shares
