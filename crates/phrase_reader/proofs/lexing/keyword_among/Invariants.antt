use Rattle.std.proofs.Common.{◌≡◌, drop, find}
use Rattle.phrase_reader.specs.Parts.{words_left}
use Rattle.phrase_reader.specs.Words.{begins}
use Rattle.phrase_reader.proofs.lexing.keyword_among.Given as goal

-- the first of those that are left is the first of all
abbrev pub invariant-loop-keyword : goal.invariant-loop-keyword
invariant-loop-keyword l = find (begins l.first (words_left l.rest)) (drop l.keyword-index l.keywords) ≡ find (begins l.first (words_left l.rest)) l.keywords
