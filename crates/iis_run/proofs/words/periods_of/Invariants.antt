use Rattle.std.proofs.Common.{◌≡◌, ℕ, ◌<◌, ◌≤◌, false}
use Rattle.std.specs.Prelude.{bytes_eq, decimal}
use Rattle.iis_run.proofs.words.periods_of.Given as goal

-- the word is none of the numbers so far
abbrev pub invariant-loop-periods : goal.invariant-loop-periods
invariant-loop-periods l = (k : ℕ) → 2 ≤ k → k < l.periods → bytes_eq (decimal k) l.word ≡ false
