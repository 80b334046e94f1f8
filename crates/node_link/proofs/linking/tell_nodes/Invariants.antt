use Rattle.std.specs.Prelude.{[]}
use Rattle.node_link.specs.Ends.{IsPort}
use Rattle.node_link.specs.Rule.{full_log, size_of}
use Rattle.node_link.proofs.linking.tell_nodes.Given as goal

-- the first nodes are told
abbrev pub invariant-told : goal.invariant-told
invariant-told l = IsPort l.queue l.port (full_log (size_of l.counter 0) [] [])
