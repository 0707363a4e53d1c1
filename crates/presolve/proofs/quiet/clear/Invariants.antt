use Rattle.std.proofs.Common.{◌≡◌, ◌<◌, ℕ, true, false, length, get_or}
use Rattle.presolve.proofs.quiet.clear.Given as goal

-- no mark is set that was not, and so far none where another one is
abbrev pub invariant-loop-index : goal.invariant-loop-index
invariant-loop-index l = record {
  count : length l.marks ≡ length l.fn.marks;
  was : (i : ℕ) → get_or l.marks i false ≡ true → get_or l.fn.marks i false ≡ true;
  apart : (i : ℕ) → i < l.index → get_or l.marks i false ≡ true → get_or l.others i false ≡ false;
}
