use Rattle.std.proofs.Common.{◌≡◌, ◌∙◌, ◌<◌, ℕ, List, length, map, get_or, set, sym, ap, subst, arith, rules}
use Rattle.std.proofs.lemmas.List.{set-get_or}
use Rattle.flow_types.specs.Key.{IsKeyValue}
use Rattle.hash_family.specs.Hash.{place}
use Rattle.replica_shard.specs.Shard.{route_in_state}
use Rattle.cluster_replay.specs.Cluster.{IsCluster, NodeStore, node_state_of, shard_in}
use Rattle.cluster_replay.proofs.HeldRouting.{fib_index, find_owned, find_within, ingress_index, nowhere, owned, reply, shard_index, to_index, within}
use Rattle.cluster_replay.proofs.cluster.Cluster.send.Goals as goal

-- the nodes with one that is as it was
same_nodes : (nodes : List NodeStore) (i : ℕ) (old new : NodeStore) → old ≡ get_or nodes i old → new ≡ old → set nodes i new ≡ nodes
same_nodes nodes i old new is same = ap (set nodes i) (same ∙ is) ∙ set-get_or nodes i old

-- what is read of them
read_here : (nodes : List NodeStore) (i j : ℕ) (old new found : NodeStore) → old ≡ get_or nodes i old → new ≡ old → found ≡ get_or (set nodes i new) j found → found ≡ get_or nodes j found
read_here nodes i j old new found is same read = read ∙ ap (λ (all : List NodeStore). get_or all j found) (same_nodes nodes i old new is same)

pub index_mut-sender-requires : goal.index_mut-sender-requires
index_mut-sender-requires c =
    let i = c.self.inside in
    let value : IsKeyValue c.args.key = search rules in
    let low = ingress_index i.shape i.flows.items i.owners.items i.nodes.items c.self.invariant i.lacks_memory c.args.self.now c.self.view_is c.args.key value c.args.ingress c.requires c.place-at.result (c.place-at.ensures.value ∙ ap (place i.shape.blocks) c.of-hashed.ensures) c.from-owner.result (c.from-owner.ensures ∙ c.owner.ensures.value) in
    omega (arith, low, c.from.ensures)

pub home_at-block-requires-clause-there : goal.home_at-block-requires-clause-there
home_at-block-requires-clause-there c =
    let i = c.self.inside in
    let value : IsKeyValue c.args.key = search rules in
    shard_index i.shape i.flows.items i.owners.items i.nodes.items c.self.invariant i.lacks_memory c.args.self.now c.self.view_is c.args.key value c.args.ingress c.requires c.place-at.result (c.place-at.ensures.value ∙ ap (place i.shape.blocks) c.of-hashed.ensures) c.from-owner.result (c.from-owner.ensures ∙ c.owner.ensures.value)
    c.index_mut-sender.result.now (rw (← c.from.ensures) c.index_mut-sender.ensures.value)

pub home_at-block-requires-clause-owned : goal.home_at-block-requires-clause-owned
home_at-block-requires-clause-owned c =
    let i = c.self.inside in
    let value : IsKeyValue c.args.key = search rules in
    owned i.shape i.flows.items i.owners.items i.nodes.items c.self.invariant i.lacks_memory c.args.self.now c.self.view_is c.args.key value c.args.ingress c.requires c.place-at.result (c.place-at.ensures.value ∙ ap (place i.shape.blocks) c.of-hashed.ensures) c.from-owner.result (c.from-owner.ensures ∙ c.owner.ensures.value)
    c.index_mut-sender.result.now (rw (← c.from.ensures) c.index_mut-sender.ensures.value)

pub home_at-block-requires-clause-within : goal.home_at-block-requires-clause-within
home_at-block-requires-clause-within c =
    let i = c.self.inside in
    let value : IsKeyValue c.args.key = search rules in
    within i.shape i.flows.items i.owners.items i.nodes.items c.self.invariant i.lacks_memory c.args.self.now c.self.view_is c.args.key value c.args.ingress c.requires c.place-at.result (c.place-at.ensures.value ∙ ap (place i.shape.blocks) c.of-hashed.ensures) c.from-owner.result (c.from-owner.ensures ∙ c.owner.ensures.value)
    c.index_mut-sender.result.now (rw (← c.from.ensures) c.index_mut-sender.ensures.value)

pub route_at-route-requires-clause-there : goal.route_at-route-requires-clause-there
route_at-route-requires-clause-there c =
    let i = c.self.inside in
    let value : IsKeyValue c.args.key = search rules in
    shard_index i.shape i.flows.items i.owners.items i.nodes.items c.self.invariant i.lacks_memory c.args.self.now c.self.view_is c.args.key value c.args.ingress c.requires c.place-at.result (c.place-at.ensures.value ∙ ap (place i.shape.blocks) c.of-hashed.ensures) c.from-owner.result (c.from-owner.ensures ∙ c.owner.ensures.value)
    c.index_mut-sender.result.now (rw (← c.from.ensures) c.index_mut-sender.ensures.value)

pub route_at-route-requires-clause-owned : goal.route_at-route-requires-clause-owned
route_at-route-requires-clause-owned c =
    let i = c.self.inside in
    let value : IsKeyValue c.args.key = search rules in
    owned i.shape i.flows.items i.owners.items i.nodes.items c.self.invariant i.lacks_memory c.args.self.now c.self.view_is c.args.key value c.args.ingress c.requires c.place-at.result (c.place-at.ensures.value ∙ ap (place i.shape.blocks) c.of-hashed.ensures) c.from-owner.result (c.from-owner.ensures ∙ c.owner.ensures.value)
    c.index_mut-sender.result.now (rw (← c.from.ensures) c.index_mut-sender.ensures.value)

pub route_at-route-requires-clause-within : goal.route_at-route-requires-clause-within
route_at-route-requires-clause-within c =
    let i = c.self.inside in
    let value : IsKeyValue c.args.key = search rules in
    within i.shape i.flows.items i.owners.items i.nodes.items c.self.invariant i.lacks_memory c.args.self.now c.self.view_is c.args.key value c.args.ingress c.requires c.place-at.result (c.place-at.ensures.value ∙ ap (place i.shape.blocks) c.of-hashed.ensures) c.from-owner.result (c.from-owner.ensures ∙ c.owner.ensures.value)
    c.index_mut-sender.result.now (rw (← c.from.ensures) c.index_mut-sender.ensures.value)

pub returns-in_default-clause-reply : goal.returns-in_default-clause-reply
returns-in_default-clause-reply c =
    let i = c.self.inside in
    let value : IsKeyValue c.args.key = search rules in
    nowhere i.shape i.flows.items i.owners.items i.nodes.items c.self.invariant i.lacks_memory c.args.self.now c.self.view_is c.args.key value c.args.ingress c.requires c.place-at.result (c.place-at.ensures.value ∙ ap (place i.shape.blocks) c.of-hashed.ensures) c.from-owner.result (c.from-owner.ensures ∙ c.owner.ensures.value)
    c.index_mut-sender.result.now (rw (← c.from.ensures) c.index_mut-sender.ensures.value)
    c.route_at-route.result (c.route_at-route.ensures.value ∙ ap (route_in_state (shard_in (node_state_of c.index_mut-sender.result.now) c.from-owner.result) c.place-at.result) c.of-hashed.ensures) c.in_default.is

pub index-requires : goal.index-requires
index-requires c =
    let i = c.self.inside in
    let value : IsKeyValue c.args.key = search rules in
    let low = to_index i.shape i.flows.items i.owners.items i.nodes.items c.self.invariant i.lacks_memory c.args.self.now c.self.view_is c.args.key value c.args.ingress c.requires c.place-at.result (c.place-at.ensures.value ∙ ap (place i.shape.blocks) c.of-hashed.ensures) c.from-owner.result (c.from-owner.ensures ∙ c.owner.ensures.value)
    c.index_mut-sender.result.now (rw (← c.from.ensures) c.index_mut-sender.ensures.value)
    c.route_at-route.result (c.route_at-route.ensures.value ∙ ap (route_in_state (shard_in (node_state_of c.index_mut-sender.result.now) c.from-owner.result) c.place-at.result) c.of-hashed.ensures) c.in-Some.node c.in-Some.is in
    omega (arith, low, c.from-2.ensures)

pub index-requires-2 : goal.index-requires-2
index-requires-2 c =
    let i = c.self.inside in
    let value : IsKeyValue c.args.key = search rules in
    let low = subst (λ (n : NodeStore). c.from-owner.result < length n.fibs) (sym c.behind-self.view_is) (fib_index i.shape i.flows.items i.owners.items i.nodes.items c.self.invariant i.lacks_memory c.args.self.now c.self.view_is c.args.key value c.args.ingress c.requires c.place-at.result (c.place-at.ensures.value ∙ ap (place i.shape.blocks) c.of-hashed.ensures) c.from-owner.result (c.from-owner.ensures ∙ c.owner.ensures.value)
    c.index_mut-sender.result.now (rw (← c.from.ensures) c.index_mut-sender.ensures.value)
    c.route_at-route.result (c.route_at-route.ensures.value ∙ ap (route_in_state (shard_in (node_state_of c.index_mut-sender.result.now) c.from-owner.result) c.place-at.result) c.of-hashed.ensures) c.in-Some.node c.in-Some.is
    c.index.result.now
    (rw (← c.from-2.ensures) (read_here i.nodes.items c.from.result c.from-2.result c.index_mut-sender.result.now c.route_at-route.new.self c.index.result.now c.index_mut-sender.ensures.value c.route_at-route.ensures.kept c.index.ensures))) in
    omega (arith, low)

pub find-found-requires-clause-within : goal.find-found-requires-clause-within
find-found-requires-clause-within c =
    let i = c.self.inside in
    let value : IsKeyValue c.args.key = search rules in
    find_within i.shape i.flows.items i.owners.items i.nodes.items c.self.invariant i.lacks_memory c.args.self.now c.self.view_is c.args.key value c.args.ingress c.requires c.place-at.result (c.place-at.ensures.value ∙ ap (place i.shape.blocks) c.of-hashed.ensures) c.from-owner.result (c.from-owner.ensures ∙ c.owner.ensures.value)
    c.index_mut-sender.result.now (rw (← c.from.ensures) c.index_mut-sender.ensures.value)
    c.route_at-route.result (c.route_at-route.ensures.value ∙ ap (route_in_state (shard_in (node_state_of c.index_mut-sender.result.now) c.from-owner.result) c.place-at.result) c.of-hashed.ensures) c.in-Some.node c.in-Some.is
    c.index.result.now
    (rw (← c.from-2.ensures) (read_here i.nodes.items c.from.result c.from-2.result c.index_mut-sender.result.now c.route_at-route.new.self c.index.result.now c.index_mut-sender.ensures.value c.route_at-route.ensures.kept c.index.ensures))
    c.index-2.result.now (subst (λ (n : NodeStore). c.index-2.result.now ≡ get_or n.fibs c.from-owner.result c.index-2.result.now) c.behind-self.view_is c.index-2.ensures)
    c.home_at-block.result.0 c.home_at-block.result.1 c.home_at-block.ensures.home

pub find-found-requires-clause-owned : goal.find-found-requires-clause-owned
find-found-requires-clause-owned c =
    let i = c.self.inside in
    let value : IsKeyValue c.args.key = search rules in
    find_owned i.shape i.flows.items i.owners.items i.nodes.items c.self.invariant i.lacks_memory c.args.self.now c.self.view_is c.args.key value c.args.ingress c.requires c.place-at.result (c.place-at.ensures.value ∙ ap (place i.shape.blocks) c.of-hashed.ensures) c.from-owner.result (c.from-owner.ensures ∙ c.owner.ensures.value)
    c.index_mut-sender.result.now (rw (← c.from.ensures) c.index_mut-sender.ensures.value)
    c.route_at-route.result (c.route_at-route.ensures.value ∙ ap (route_in_state (shard_in (node_state_of c.index_mut-sender.result.now) c.from-owner.result) c.place-at.result) c.of-hashed.ensures) c.in-Some.node c.in-Some.is
    c.index.result.now
    (rw (← c.from-2.ensures) (read_here i.nodes.items c.from.result c.from-2.result c.index_mut-sender.result.now c.route_at-route.new.self c.index.result.now c.index_mut-sender.ensures.value c.route_at-route.ensures.kept c.index.ensures))
    c.index-2.result.now (subst (λ (n : NodeStore). c.index-2.result.now ≡ get_or n.fibs c.from-owner.result c.index-2.result.now) c.behind-self.view_is c.index-2.ensures)
    c.home_at-block.result.0 c.home_at-block.result.1 c.home_at-block.ensures.home

pub invariant_of-self-2 : goal.invariant_of-self-2
invariant_of-self-2 c =
    let i = c.self.inside in
    let same = same_nodes i.nodes.items c.from.result c.index_mut-sender.result.now c.route_at-route.new.self c.index_mut-sender.ensures.value c.route_at-route.ensures.kept in
    subst (λ (all : List NodeStore). IsCluster i.shape i.flows.items i.owners.items (map node_state_of all)) (sym same) c.self.invariant

pub returns-clause-reply : goal.returns-clause-reply
returns-clause-reply c =
    let i = c.self.inside in
    let value : IsKeyValue c.args.key = search rules in
    c.answer.ensures
    ∙ reply i.shape i.flows.items i.owners.items i.nodes.items c.self.invariant i.lacks_memory c.args.self.now c.self.view_is c.args.key value c.args.ingress c.requires c.place-at.result (c.place-at.ensures.value ∙ ap (place i.shape.blocks) c.of-hashed.ensures) c.from-owner.result (c.from-owner.ensures ∙ c.owner.ensures.value)
    c.index_mut-sender.result.now (rw (← c.from.ensures) c.index_mut-sender.ensures.value)
    c.route_at-route.result (c.route_at-route.ensures.value ∙ ap (route_in_state (shard_in (node_state_of c.index_mut-sender.result.now) c.from-owner.result) c.place-at.result) c.of-hashed.ensures) c.in-Some.node c.in-Some.is
    c.index.result.now
    (rw (← c.from-2.ensures) (read_here i.nodes.items c.from.result c.from-2.result c.index_mut-sender.result.now c.route_at-route.new.self c.index.result.now c.index_mut-sender.ensures.value c.route_at-route.ensures.kept c.index.ensures))
    c.index-2.result.now (subst (λ (n : NodeStore). c.index-2.result.now ≡ get_or n.fibs c.from-owner.result c.index-2.result.now) c.behind-self.view_is c.index-2.ensures)
    c.home_at-block.result.0 c.home_at-block.result.1 c.home_at-block.ensures.home
    c.find-found.result.version c.find-found.result.answer c.find-found.ensures.version c.find-found.ensures.answer
