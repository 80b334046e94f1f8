-- The path of a packet, by what the ingress's table and the FIB of the node that it is sent to have taken.
use Rattle.std.specs.Prelude.{ℕ, List, Option, Some, None}
use Rattle.flow_types.specs.declared.key.FlowKey.{FlowKey}
use Rattle.flow_types.specs.Key.{number}
use Rattle.hash_family.specs.Hash.{place}
use Rattle.group_search.specs.declared.published.Publication.{Publication}
use Rattle.group_search.specs.Home.{Home}
use Rattle.replica_shard.specs.declared.routing.Route.{Route}
use Rattle.replica_shard.specs.declared.shard.Shard.{Shard}
use Rattle.replica_shard.specs.Seats.{shard_at}
use Rattle.replica_shard.specs.Shard.{home_in_state, route_in_state}
use Rattle.replica_shard.specs.Store.{shard_state_of}
use Rattle.partial_fib.specs.Ends.{ReaderState}
use Rattle.partial_fib.specs.Fib.{FibState}
use Rattle.run_model.specs.declared.reply.Reply.{Reply}
use Rattle.run_model.specs.declared.reply.Reply.TheVariants.{Nowhere}
use Rattle.run_model.specs.Packets.{answer_of}
use Rattle.packet_path.specs.Fibs.{fib_seen}

-- the home of the key, and where the table sends the key after these records
abbrev pub home_at : Shard → List Publication → FlowKey → Home
home_at shard list key = home_in_state (shard_state_of (shard_at shard list)) (place shard.shape.blocks key)

abbrev pub route_at : Shard → List Publication → FlowKey → Route
route_at shard list key = route_in_state (shard_state_of (shard_at shard list)) (place shard.shape.blocks key) key

-- the reply to a packet that was sent so, at a version of the key's group, where the nodes' FIBs say this
abbrev pub answered_by : (seen : ℕ) → (sent : Option ℕ) → (fib_of : ℕ → FibState) → Home → FlowKey → Reply
answered_by seen None fib_of at key = Nowhere seen
answered_by seen (Some node) fib_of at key = answer_of node seen ((fib_of node).versions at) ((fib_of node).records (number key))

-- the reply to a packet, where the table has taken these records, and the FIBs' readers have seen these turns
abbrev pub path_by : Shard → List Publication → List ReaderState → FlowKey → Reply
path_by shard list fibs key = answered_by (route_at shard list key).version (route_at shard list key).node (fib_seen fibs) (home_at shard list key) key
