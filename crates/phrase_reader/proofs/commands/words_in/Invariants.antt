use Rattle.std.proofs.Common.{◌≡◌, map, take}
use Rattle.text_fields.specs.Lines.{text_of}
use Rattle.phrase_reader.proofs.commands.words_in.Given as goal

-- the words are those of the fields so far
abbrev pub invariant-loop-span : goal.invariant-loop-span
invariant-loop-span l = map (λ w. w.now) l.words.items ≡ map (text_of l.text) (take l.span-index l.spans)
