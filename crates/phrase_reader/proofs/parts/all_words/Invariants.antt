use Rattle.std.proofs.Common.{◌≡◌, ◌++◌, length, map}
use Rattle.phrase_reader.specs.Parts.{words_left}
use Rattle.phrase_reader.proofs.parts.all_words.Given as goal

-- the words so far, and those that are left
abbrev pub invariant-loop-left : goal.invariant-loop-left
invariant-loop-left l = map (λ w. w.now) l.words.items ++ words_left l.left ≡ words_left l.rest

abbrev pub decreases-loop-left : goal.decreases-loop-left
decreases-loop-left l = length (words_left l.left)
