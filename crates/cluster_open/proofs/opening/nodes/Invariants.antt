-- The nodes so far.
use Rattle.std.proofs.Common.{◌≡◌, ◌<◌, ℕ, length, get_or}
use Rattle.cluster_open.specs.Opened.{IsOpenedNode}
use Rattle.cluster_open.specs.declared.node.NodeParts.{NodeParts}
use Rattle.cluster_open.proofs.opening.nodes.Given as goal

abbrev pub invariant-numbers : goal.invariant-numbers
invariant-numbers l = record {
  count : length l.nodes.items ≡ l.number;
  each : (i : ℕ) (d : NodeParts) → i < length l.nodes.items → IsOpenedNode l.shape l.flows i (get_or l.nodes.items i d);
}
