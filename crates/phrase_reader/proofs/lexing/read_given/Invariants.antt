use Rattle.std.proofs.Common.{◌≡◌, drop}
use Rattle.report_text.specs.Grammar.{no_given}
use Rattle.phrase_reader.specs.Parts.{words_left}
use Rattle.phrase_reader.specs.Words.{given_in}
use Rattle.phrase_reader.proofs.lexing.read_given.Given as goal

-- what is left says what all says
abbrev pub invariant-loop-kind : goal.invariant-loop-kind
invariant-loop-kind l = given_in l.model (drop l.kind-index l.kinds) (words_left l.left) l.given ≡ given_in l.model l.kinds (words_left l.rest) no_given
