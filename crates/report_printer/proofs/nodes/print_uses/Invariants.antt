use Rattle.std.proofs.Common.{◌≡◌, ◌<◌, ◌++◌, ℕ, map, drop, get_or}
use Rattle.certs.specs.declared.evidence.Share.{Share}
use Rattle.report_text.specs.Form.{IsWithinLimit}
use Rattle.report_text.specs.declared.phrases.Phrase.{Phrase}
use Rattle.report_text.specs.Grammar.{phrases_text}
use Rattle.report_printer.proofs.nodes.print_uses.Given as goal

-- the lines that are left complete the text, and the weights so far are within the limit
abbrev pub invariant-loop-share : goal.invariant-loop-share
invariant-loop-share l = record {
  left : l.into.items ++ phrases_text l.model (map Phrase.Use (drop l.share-index l.shares)) ≡ l.initial.into.items ++ phrases_text l.model (map Phrase.Use l.shares);
  within : (k : ℕ) (d : Share) → k < l.share-index → IsWithinLimit (get_or l.shares k d).weight;
}
