-- What a packet's way tells of a cluster's fields.
use Rattle.std.proofs.Common.{◌≡◌, ◌∙◌, ◌%◌, ◌<◌, ℕ, Bool, List, Option, Some, None, length, map, get_or, sym, ap, subst, arith}
use Rattle.std.proofs.lemmas.List.{length-map}
use Rattle.flow_types.specs.declared.key.FlowKey.{FlowKey}
use Rattle.flow_types.specs.declared.record.Flow.{Flow}
use Rattle.flow_types.specs.declared.record.Record.{Record}
use Rattle.flow_types.specs.Key.{number, IsKeyValue}
use Rattle.flow_types.specs.Size.{Size, owners_in}
use Rattle.hash_family.specs.Hash.{place}
use Rattle.hash_family.specs.declared.bucket.Place.{Place}
use Rattle.group_search.specs.Home.{Home, home}
use Rattle.replica_shard.specs.Shard.{ShardState, home_in_state, route_in_state}
use Rattle.replica_shard.specs.Store.{shard_state_of}
use Rattle.replica_shard.specs.declared.routing.Route.{Route}
use Rattle.partial_fib.specs.Fib.{FibState}
use Rattle.partial_fib.specs.Store.{FibStore, state_of}
use Rattle.run_model.specs.Packets.{answer_of, packet_reply}
use Rattle.run_model.specs.declared.reply.Reply.TheVariants.{Nowhere}
use Rattle.turn_log.specs.Sender.{SenderState}
use Rattle.cluster_replay.specs.Cluster.{IsCluster, IsFibOf, IsTableOf, NodeState, NodeStore, RunState, cluster_of, fib_in, journal_in, no_node, node_state_of, shard_in}
use Rattle.cluster_replay.proofs.Answered.{fib_here}
use Rattle.cluster_replay.proofs.Held.{held, node_here, node_there}
use Rattle.cluster_replay.proofs.Routing.{answered, block_low, fib_is, goes_nowhere, home_there, node_low, owner_has, table_is}

module _ (size : Size) (flows : List Flow) (owners : List SenderState) (stores : List NodeStore) (is : IsCluster size flows owners (map node_state_of stores))
    (lacks : Bool) (run : RunState) (view : held size flows owners stores is lacks run ≡ run)
    (key : FlowKey) (value : IsKeyValue key) (ingress : ℕ) (entered : ingress < run.cluster.opened.size.nodes)
    (at : Place) (at_is : at ≡ place size.blocks key) (owner : ℕ) (owner_said : owner ≡ at.block % size.nodes) where
  abbrev nodes : List NodeState
  nodes = map node_state_of stores

  abbrev own : ℕ
  own = (place size.blocks key).block % size.nodes

  own_is : owner ≡ own
  own_is = owner_said ∙ ap (λ (p : Place). p.block % size.nodes) at_is

  low : ingress < size.nodes
  low = node_there size flows owners stores is lacks run view ingress entered

  has : own < owners_in size
  has = owner_has size flows owners nodes is key value

  pub ingress_index : ingress < length stores
  ingress_index = omega (arith, low, is.one_node_each, length-map stores node_state_of)

  module _ (node : NodeStore) (node_is : node ≡ get_or stores ingress node) where
    same_node : node_state_of node ≡ get_or nodes ingress no_node
    same_node = node_here size flows owners stores is lacks run ingress low node node_is

    pub shard_index : owner < length node.shards
    shard_index =
        let one_each = (is.each_node ingress low).one_table_each in
        let many = ap (λ (n : NodeState). length n.shards) same_node in
        omega (arith, own_is, has, one_each, many, length-map node.shards shard_state_of)

    abbrev shard : ShardState
    shard = shard_in (node_state_of node) owner

    same_shard : shard ≡ shard_in (get_or nodes ingress no_node) own
    same_shard = ap (shard_in (node_state_of node)) own_is ∙ ap (λ (n : NodeState). shard_in n own) same_node

    stands : IsTableOf size own flows (journal_in owners own) (shard_in (get_or nodes ingress no_node) own)
    stands = table_is size flows owners nodes is key value ingress low

    shard_size : shard.size ≡ size
    shard_size = ap (λ (s : ShardState). s.size) (same_shard ∙ stands.stands)

    pub owned : at.block % shard.size.nodes ≡ shard.owner
    owned = ap (λ (s : Size). at.block % s.nodes) shard_size ∙ sym owner_said ∙ own_is ∙ sym (ap (λ (s : ShardState). s.owner) (same_shard ∙ stands.stands))

    pub within : at.block < shard.size.blocks
    within =
        subst (λ (s : Size). at.block < s.blocks) (sym shard_size)
        (subst (λ (p : Place). p.block < size.blocks) (sym at_is) (block_low size flows owners nodes is key value))

    routes : route_in_state shard at key ≡ route_in_state (shard_in (get_or nodes ingress no_node) own) (place size.blocks key) key
    routes = ap (λ (s : ShardState). route_in_state s at key) same_shard ∙ ap (λ (p : Place). route_in_state (shard_in (get_or nodes ingress no_node) own) p key) at_is

    module _ (route : Route) (route_is : route ≡ route_in_state shard at key) where
      whole : route ≡ route_in_state (shard_in (get_or nodes ingress no_node) own) (place size.blocks key) key
      whole = route_is ∙ routes

      pub nowhere : route.node ≡ None → Nowhere route.version ≡ packet_reply run.cluster.opened run.cluster.journals run.cluster.nodes ingress key
      unfolding cluster_of
      nowhere none =
          subst (λ (r : RunState). Nowhere route.version ≡ packet_reply r.cluster.opened r.cluster.journals r.cluster.nodes ingress key) view
          (ap (λ (r : Route). Nowhere r.version) whole ∙ goes_nowhere size flows owners nodes is key value ingress low (sym (ap (λ (r : Route). r.node) whole) ∙ none))

      module _ (to : ℕ) (sent : route.node ≡ Some to) where
        sent_there : (route_in_state (shard_in (get_or nodes ingress no_node) own) (place size.blocks key) key).node ≡ Some to
        sent_there = sym (ap (λ (r : Route). r.node) whole) ∙ sent

        to_low : to < size.nodes
        to_low = node_low size flows owners nodes is key value ingress low to sent_there

        pub to_index : to < length stores
        to_index = omega (arith, to_low, is.one_node_each, length-map stores node_state_of)

        module _ (target : NodeStore) (target_is : target ≡ get_or stores to target) where
          same_target : node_state_of target ≡ get_or nodes to no_node
          same_target = node_here size flows owners stores is lacks run to to_low target target_is

          pub fib_index : owner < length target.fibs
          fib_index =
              let one_each = (is.each_node to to_low).one_fib_each in
              let many = ap (λ (n : NodeState). length n.fibs) same_target in
              omega (arith, own_is, has, one_each, many, length-map target.fibs state_of)

          module _ (fib : FibStore) (fib_at : fib ≡ get_or target.fibs owner fib) (block group : ℕ)
              (home_said : (let at_home : Home = record { block = block; group = group } in at_home) ≡ home_in_state shard at) where
            same_fib : state_of fib ≡ fib_in (get_or nodes to no_node) own
            same_fib = fib_here target owner fib fib_index fib_at ∙ ap (fib_in (node_state_of target)) own_is ∙ ap (λ (n : NodeState). fib_in n own) same_target

            fib_stands : IsFibOf size to own flows (journal_in owners own) (fib_in (get_or nodes to no_node) own)
            fib_stands = fib_is size flows owners nodes is key value ingress low to sent_there

            fib_size : fib.size ≡ size
            fib_size = ap (λ (f : FibState). f.size) (same_fib ∙ fib_stands.stands)

            block_is : block ≡ at.block
            block_is = ap (λ (h : Home). h.block) home_said

            pub find_within : block < fib.size.blocks
            find_within =
                subst (λ (s : Size). block < s.blocks) (sym fib_size)
                (subst (λ (b : ℕ). b < size.blocks) (sym (block_is ∙ ap (λ (p : Place). p.block) at_is)) (block_low size flows owners nodes is key value))

            pub find_owned : block % fib.size.nodes ≡ fib.owner
            find_owned =
                ap (λ (s : Size). block % s.nodes) fib_size ∙ ap (λ (b : ℕ). b % size.nodes) block_is ∙ sym owner_said ∙ own_is
                ∙ sym (ap (λ (f : FibState). f.owner) (same_fib ∙ fib_stands.stands))

            at_home : (let there : Home = record { block = block; group = group } in there) ≡ home size.blocks flows key
            at_home =
                home_said ∙ ap (λ (s : ShardState). home_in_state s at) same_shard ∙ ap (home_in_state (shard_in (get_or nodes ingress no_node) own)) at_is
                ∙ home_there size flows owners nodes is key value ingress low

            pub reply : (version : ℕ) (info : Option Record) → version ≡ (state_of fib).versions (record { block = block; group = group }) → info ≡ (state_of fib).records (number key)
                → answer_of to route.version version info ≡ packet_reply run.cluster.opened run.cluster.journals run.cluster.nodes ingress key
            unfolding cluster_of
            reply version info version_is info_is =
                subst (λ (r : RunState). answer_of to route.version version info ≡ packet_reply r.cluster.opened r.cluster.journals r.cluster.nodes ingress key) view
                (rw (
                  version_is ∙ ap (state_of fib).versions at_home ∙ ap (λ (f : FibState). f.versions (home size.blocks flows key)) same_fib,
                  info_is ∙ ap (λ (f : FibState). f.records (number key)) same_fib,
                )
                (ap (λ (r : Route). answer_of to r.version ((fib_in (get_or nodes to no_node) own).versions (home size.blocks flows key)) ((fib_in (get_or nodes to no_node) own).records (number key))) whole
                ∙ answered size flows owners nodes is key value ingress low to sent_there))
