-- How a packet goes through a cluster.
use Rattle.std.proofs.Common.{◌≡◌, ◌∙◌, ◌%◌, ◌<◌, ℕ, true, List, [], ◌∷◌, map, take, get_or, Option, Some, None, refl, sym, ap, arith}
use Rattle.std.specs.Prelude.{IfSome}
use Rattle.std.proofs.lemmas.Bool.{and_from, cond-true, eq-eqb}
use Rattle.std.proofs.lemmas.Bool.Decides.{nat_tests}
use Rattle.std.proofs.lemmas.List.Elements.{All-filter, All-head, All-push, All-tail, All-take}
use Rattle.flow_types.specs.declared.key.FlowKey.{FlowKey}
use Rattle.flow_types.specs.declared.record.Flow.{Flow}
use Rattle.flow_types.specs.declared.record.Record.{Record}
use Rattle.flow_types.specs.Key.{number, IsKeyValue}
use Rattle.flow_types.specs.Map.{put, without}
use Rattle.flow_types.specs.Size.{Size, owners_in}
use Rattle.hash_family.specs.Hash.{place}
use Rattle.block_layout.specs.Candidate.{candidate}
use Rattle.group_search.specs.Home.{Home, choices, group_of, home, is_home, opening}
use Rattle.group_search.specs.Records.{AreHandled, content_of}
use Rattle.group_history.specs.declared.change.Change.{Change}
use Rattle.group_history.specs.Change.{concerns, flow_to, step, with_at}
use Rattle.group_history.specs.History.{changed, now, map_now, content_after}
use Rattle.group_history.specs.Journal.{concerning}
use Rattle.group_search.specs.Decoding.{decoded}
use Rattle.replica_shard.specs.Shard.{ShardState, home_in_state, is_owned_block, is_owned_group, route_in_state}
use Rattle.group_search.proofs.NodesBelow.{decoded_below}
use Rattle.partial_fib.specs.Fib.{FibState, record_after}
use Rattle.partial_fib.proofs.MapAnswers.{record_by_map}
use Rattle.run_model.specs.Packets.{answer_of, fib_record_after, first_changes, packet_reply, reply_sent, version_after}
use Rattle.run_model.specs.State.{ClusterOpening, Taken, fib_turns, home_of_key, journal_of, owner_of_group, table_turns}
use Rattle.run_model.specs.declared.reply.Reply.TheVariants.{Nowhere}
use Rattle.run_model.proofs.Parts.{sends_there, sent_after}
use Rattle.turn_log.specs.Sender.{SenderState}
use Rattle.cluster_replay.specs.Cluster.{GoToNodes, GoesTo, IsCluster, IsFibOf, IsTableOf, NodeState, fib_in, journal_in, journals_in, no_node, shard_in, taken_in}
use Rattle.cluster_replay.proofs.Carried.{fib_turns_is, journal_is, owner_low, table_turns_is}
use Rattle.cluster_replay.proofs.Owners.{owner_of_block}

-- ---- maps of flows at nodes of the cluster

handled_with : (nodes : ℕ) (flows : List Flow) (key : FlowKey) (to : Option (ℕ × Record)) → AreHandled nodes flows → IfSome to (λ t. t.0 < nodes) → AreHandled nodes (with_at key to flows)
unfolding put without
handled_with nodes flows key None handled low = All-filter _ (λ (f : Flow). f.node < nodes) flows handled
handled_with nodes flows key (Some to) handled low =
    All-push (λ (f : Flow). f.node < nodes) (without key flows) (flow_to key to) (All-filter _ (λ (f : Flow). f.node < nodes) flows handled) low

handled_changed : (nodes : ℕ) (changes : List Change) (flows : List Flow) → AreHandled nodes flows → GoToNodes nodes changes → AreHandled nodes (changed flows changes)
unfolding changed step
handled_changed nodes [] flows handled to_nodes = handled
handled_changed nodes (change ∷ changes) flows handled to_nodes =
    handled_changed nodes changes (step flows change) (handled_with nodes flows change.key change.to handled (All-head (GoesTo nodes) change changes to_nodes))
    (All-tail (GoesTo nodes) change changes to_nodes)

handled_now : (size : Size) (flows : List Flow) (changes : List Change) (at : Home) → AreHandled size.nodes flows → GoToNodes size.nodes changes → AreHandled size.nodes (map_now size flows changes at)
unfolding map_now now opening concerning
handled_now size flows changes at handled to_nodes =
    handled_changed size.nodes (concerning at changes) (opening size.blocks flows at)
    (All-filter (λ (flow : Flow). is_home (home size.blocks flows flow.key) at) (λ (f : Flow). f.node < size.nodes) flows handled)
    (All-filter (concerns at) (GoesTo size.nodes) changes to_nodes)

-- ---- the way of a packet

module _ (size : Size) (flows : List Flow) (owners : List SenderState) (nodes : List NodeState) (is : IsCluster size flows owners nodes) (key : FlowKey) (value : IsKeyValue key) where
  abbrev opened : ClusterOpening
  opened = record { size = size; flows = flows }

  abbrev takens : List Taken
  takens = map (taken_in size.nodes) nodes

  abbrev owner : ℕ
  owner = (place size.blocks key).block % size.nodes

  pub block_low : (place size.blocks key).block < size.blocks
  unfolding place
  block_low = let blocks = is.shape.enough_blocks in omega (arith, blocks)

  pub owner_has : owner < owners_in size
  owner_has = let some = is.shape.enough_nodes in owner_of_block size (place size.blocks key).block (omega (arith, some)) block_low

  owner_same : owner_of_group opened (home_of_key opened key) ≡ owner
  unfolding home
  owner_same = refl

  -- the record that a node's FIB has of the key
  record_there : (node : ℕ) (changes : List Change) → record_after size node owner flows changes (number key) ≡ fib_record_after opened changes node key
  unfolding fib_record_after map_now
  record_there node changes = record_by_map size node owner flows changes key value owner_same

  group_low : (home_of_key opened key).group < 64
  unfolding home candidate
  group_low = omega arith

  abbrev journal : List Change
  journal = journal_in owners owner

  first_is : (turns : ℕ) → first_changes opened (journals_in size owners) key turns ≡ take turns journal
  first_is turns = ap (take turns) (ap (journal_of (journals_in size owners)) owner_same ∙ journal_is size flows owners nodes is owner (owner_low size flows owners nodes is owner owner_has))

  handled_after : (turns : ℕ) → AreHandled size.nodes (map_now size flows (take turns journal) (home_of_key opened key))
  handled_after turns = handled_now size flows (take turns journal) (home_of_key opened key) is.handled (All-take (GoesTo size.nodes) turns journal (is.to_nodes owner owner_has))

  module _ (ingress : ℕ) (low : ingress < size.nodes) where
    abbrev shard : ShardState
    shard = shard_in (get_or nodes ingress no_node) owner

    pub table_is : IsTableOf size owner flows journal shard
    table_is = (is.each_node ingress low).tables owner owner_has

    abbrev there : List Change
    there = take shard.taken journal

    owned_block : is_owned_block size owner (place size.blocks key).block ≡ true
    owned_block = and_from _ _ (grind (arith, nat_tests, block_low)) (eq-eqb owner owner refl)

    pub home_there : home_in_state shard (place size.blocks key) ≡ home_of_key opened key
    unfolding home
    home_there =
        ap (λ (s : ShardState). home_in_state s (place size.blocks key)) table_is.stands
        ∙ ap (λ (chosen : List ℕ). let at : Home = record { block = (place size.blocks key).block; group = group_of chosen (place size.blocks key).bucket } in at)
        (cond-true _ (choices size.blocks (place size.blocks key).block flows) [] owned_block)

    owned_group : is_owned_group size owner (home_of_key opened key) ≡ true
    unfolding home
    owned_group = and_from _ _ owned_block (let few = group_low in grind (arith, nat_tests, few))

    content_there : shard.records (home_of_key opened key) ≡ content_of size.nodes (map_now size flows there (home_of_key opened key))
    unfolding map_now
    content_there =
        ap (λ (s : ShardState). s.records (home_of_key opened key)) table_is.stands
        ∙ cond-true _ (content_after size flows there (home_of_key opened key)) None owned_group

    pub version_there : (route_in_state shard (place size.blocks key) key).version ≡ version_after opened there key
    version_there = ap shard.versions home_there ∙ ap (λ (s : ShardState). s.versions (home_of_key opened key)) table_is.stands

    pub node_there : (route_in_state shard (place size.blocks key) key).node ≡ sent_after opened there key
    node_there =
        ap (λ (s : ShardState). decoded s.size key (shard.records (home_in_state shard (place size.blocks key)))) table_is.stands
        ∙ ap (decoded size key) (ap shard.records home_there ∙ content_there)
        ∙ sends_there opened there key

    pub node_low : (node : ℕ) → (route_in_state shard (place size.blocks key) key).node ≡ Some node → node < size.nodes
    node_low node sent =
        decoded_below size (map_now size flows there (home_of_key opened key)) key node (handled_after shard.taken) (sends_there opened there key ∙ sym node_there ∙ sent)

    -- the model's reply, by the first changes that the ingress has
    model_reply : packet_reply opened (journals_in size owners) takens ingress key
        ≡ reply_sent opened there (λ (node : ℕ). take (fib_turns takens node owner) journal) key (sent_after opened there key)
    unfolding packet_reply
    model_reply =
        let turns : table_turns takens ingress (owner_of_group opened (home_of_key opened key)) ≡ shard.taken =
        ap (table_turns takens ingress) owner_same ∙ table_turns_is size flows owners nodes is ingress low owner (owner_low size flows owners nodes is owner owner_has) in
        let seen : first_changes opened (journals_in size owners) key (table_turns takens ingress (owner_of_group opened (home_of_key opened key))) ≡ there =
        ap (first_changes opened (journals_in size owners) key) turns ∙ first_is shard.taken in
        let told : (λ (node : ℕ). first_changes opened (journals_in size owners) key (fib_turns takens node (owner_of_group opened (home_of_key opened key))))
        ≡ (λ (node : ℕ). take (fib_turns takens node owner) journal) =
        λ i node. (ap (first_changes opened (journals_in size owners) key) (ap (fib_turns takens node) owner_same) ∙ first_is (fib_turns takens node owner)) i in
        ap (λ (changes : List Change). reply_sent opened changes (λ (node : ℕ). first_changes opened (journals_in size owners) key (fib_turns takens node (owner_of_group opened (home_of_key opened key)))) key
        (sent_after opened changes key)) seen
        ∙ ap (λ (here : ℕ → List Change). reply_sent opened there here key (sent_after opened there key)) told

    pub goes_nowhere : (route_in_state shard (place size.blocks key) key).node ≡ None
        → Nowhere (route_in_state shard (place size.blocks key) key).version ≡ packet_reply opened (journals_in size owners) takens ingress key
    goes_nowhere nowhere =
        ap Nowhere version_there
        ∙ ap (reply_sent opened there (λ (node : ℕ). take (fib_turns takens node owner) journal) key) (sym nowhere ∙ node_there)
        ∙ sym model_reply

    module _ (node : ℕ) (sent : (route_in_state shard (place size.blocks key) key).node ≡ Some node) where
      abbrev fib : FibState
      fib = fib_in (get_or nodes node no_node) owner

      pub fib_is : IsFibOf size node owner flows journal fib
      fib_is = (is.each_node node (node_low node sent)).fibs owner owner_has

      abbrev here : List Change
      here = take fib.taken journal

      turns_there : fib_turns takens node owner ≡ fib.taken
      turns_there = fib_turns_is size flows owners nodes is node (node_low node sent) owner (owner_low size flows owners nodes is owner owner_has)

      pub answered : answer_of node (route_in_state shard (place size.blocks key) key).version (fib.versions (home_of_key opened key)) (fib.records (number key))
          ≡ packet_reply opened (journals_in size owners) takens ingress key
      answered =
          let version : fib.versions (home_of_key opened key) ≡ version_after opened here key = ap (λ (f : FibState). f.versions (home_of_key opened key)) fib_is.stands in
          let info : fib.records (number key) ≡ fib_record_after opened here node key =
          ap (λ (f : FibState). f.records (number key)) fib_is.stands
          ∙ record_there node here in
          rw (version_there, version, info)
          (ap (λ (turns : ℕ). answer_of node (version_after opened there key) (version_after opened (take turns journal) key) (fib_record_after opened (take turns journal) node key)) (sym turns_there)
          ∙ ap (reply_sent opened there (λ (node : ℕ). take (fib_turns takens node owner) journal) key) (sym sent ∙ node_there)
          ∙ sym model_reply)
