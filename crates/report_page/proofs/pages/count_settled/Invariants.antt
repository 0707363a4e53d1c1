use Rattle.std.proofs.Common.{◌≡◌, ◌+◌, ◌≤◌, drop}
use Rattle.cert_check.specs.Trials.{settled_count}
use Rattle.report_page.proofs.pages.count_settled.Given as goal

-- those that are left are still to be counted
abbrev pub invariant-loop-entry : goal.invariant-loop-entry
invariant-loop-entry l = record {
  few : l.count ≤ l.entry-index;
  left : l.count + settled_count (drop l.entry-index l.entries) ≡ settled_count l.entries;
}
