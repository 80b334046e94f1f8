use Rattle.std.specs.Prelude.{[]}
use Rattle.node_link.specs.Ends.{IsPort}
use Rattle.node_link.specs.Rule.{full_log, size_of}
use Rattle.node_link.proofs.linking.tell_blocks.Given as goal

-- the first blocks are told
abbrev pub invariant-told : goal.invariant-told
invariant-told l = IsPort l.queue l.port (full_log (size_of l.nodes l.counter) [] [])
