use Rattle.std.proofs.Common.{◌≡◌, ◌+◌, drop, length, take, flat_map}
use Rattle.report_text.specs.Grammar.{node_phrases}
use Rattle.cert_check.specs.Trials.{node_line}
use Rattle.cert_check.proofs.trees.line_of.Given as goal

-- the nodes that are left before it are on the lines from here on
abbrev pub invariant-loop-node : goal.invariant-loop-node
invariant-loop-node l = l.line + length (flat_map node_phrases (drop l.node-index (take l.n l.nodes))) ≡ node_line l.first l.nodes l.n
