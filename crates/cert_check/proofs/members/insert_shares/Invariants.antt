use Rattle.std.proofs.Common.{◌≡◌, drop}
use Rattle.std.specs.List.{list_any}
use Rattle.certs.specs.Violation.{is_of}
use Rattle.cert_check.specs.Uses.{with_tested}
use Rattle.cert_check.proofs.members.insert_shares.Given as goal

-- what the set has and the shares that are left name is all that is to be there
abbrev pub invariant-loop-share : goal.invariant-loop-share
invariant-loop-share l = record {
  rows : l.set.rows ≡ l.initial.set.rows;
  columns : l.set.columns ≡ l.initial.set.columns;
  left : with_tested l.set (λ m. list_any (λ s. is_of m s.source) (drop l.share-index l.shares)) ≡ with_tested l.initial.set (λ m. list_any (λ s. is_of m s.source) l.shares);
}
