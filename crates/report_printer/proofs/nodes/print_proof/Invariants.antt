use Rattle.std.proofs.Common.{◌≡◌, ◌<◌, ◌++◌, ℕ, flat_map, drop, get_or}
use Rattle.certs.specs.declared.evidence.Node.{Node}
use Rattle.report_text.specs.Grammar.{node_phrases, phrases_text}
use Rattle.report_printer.specs.EvidenceNumbers.{HasWeightsWithin}
use Rattle.report_printer.proofs.nodes.print_proof.Given as goal

-- the lines that are left complete the text, and the weights so far are within the limit
abbrev pub invariant-loop-node : goal.invariant-loop-node
invariant-loop-node l = record {
  left : l.into.items ++ phrases_text l.model (flat_map node_phrases (drop l.node-index l.node-items)) ≡ l.initial.into.items ++ phrases_text l.model (flat_map node_phrases l.node-items);
  within : (k : ℕ) (d : Node) → k < l.node-index → HasWeightsWithin (get_or l.node-items k d);
}
