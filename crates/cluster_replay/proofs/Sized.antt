-- How many nodes, owners and numbers of turns a cluster has.
use Rattle.std.proofs.Common.{◌≡◌, ◌∙◌, ◌<◌, ◌≤◌, ℕ, Bool, List, [], length, map, get_or, inl, inr, sym, ap, subst, arith}
use Rattle.std.proofs.lemmas.Bool.{cases_lt}
use Rattle.std.proofs.lemmas.List.{get_or_default, get_or_past, length-map}
use Rattle.flow_types.specs.declared.record.Flow.{Flow}
use Rattle.flow_types.specs.Size.{Size, owners_in}
use Rattle.packet_reader.specs.declared.event.Part.{Part}
use Rattle.packet_reader.specs.declared.event.Part.TheVariants.{Fib, Table}
use Rattle.replica_shard.specs.Store.{ShardStore, shard_state_of}
use Rattle.partial_fib.specs.Store.{FibStore, state_of}
use Rattle.partial_fib.specs.Fib.{FibState}
use Rattle.replica_shard.specs.Shard.{ShardState}
use Rattle.run_model.specs.Carrying.{turns_taken}
use Rattle.run_model.specs.State.{Taken, fib_turns, journal_of, table_turns}
use Rattle.turn_log.specs.Sender.{SenderState, changes_in}
use Rattle.cluster_open.specs.Opened.{by_number}
use Rattle.cluster_replay.specs.Cluster.{IsCluster, IsSized, NodeState, NodeStore, RunState, cluster_of, fib_in, journal_in, journals_in, no_fib, no_node, no_sender, no_shard, node_state_of, shard_in, taken_in}
use Rattle.cluster_replay.proofs.Answered.{fib_here, shard_here}
use Rattle.cluster_replay.proofs.Carried.{fib_turns_is, journal_is, owner_low, table_turns_is, taken_is}
use Rattle.cluster_replay.proofs.Held.{held, node_here, node_there, owner_there}
use Rattle.cluster_open.proofs.Numbered.{numbered}

module _ (size : Size) (flows : List Flow) (owners : List SenderState) (stores : List NodeStore) (is : IsCluster size flows owners (map node_state_of stores))
    (lacks : Bool) (run : RunState) where
  abbrev nodes : List NodeState
  nodes = map node_state_of stores

  abbrev takens : List Taken
  takens = map (taken_in size.nodes) nodes

  idle_journal : (owner : ℕ) → owners_in size ≤ owner → length (journal_of (journals_in size owners) owner) ≡ 0
  idle_journal owner past = elim (cases_lt owner size.nodes) [
    | inl low ↦ ap length (journal_is size flows owners nodes is owner low ∙ ap changes_in (get_or_past owners owner no_sender (omega (arith, past, is.one_owner_each))))
    | inr beyond ↦ ap length (get_or_past (journals_in size owners) owner [] (omega (arith, beyond, numbered size.nodes (journal_in owners))))
  ]

  idle_table : (node owner : ℕ) → node < size.nodes → owners_in size ≤ owner → table_turns takens node owner ≡ 0
  unfolding taken_in
  idle_table node owner low past = elim (cases_lt owner size.nodes) [
    | inl below ↦
        table_turns_is size flows owners nodes is node low owner below
        ∙ ap (λ (s : ShardState). s.taken) (get_or_past (get_or nodes node no_node).shards owner no_shard (omega (arith, past, (is.each_node node low).one_table_each)))
    | inr beyond ↦
        ap (λ (t : Taken). get_or t.tables owner 0) (taken_is size flows owners nodes is node low)
        ∙ get_or_past (by_number size.nodes (λ (o : ℕ). (shard_in (get_or nodes node no_node) o).taken)) owner 0
        (omega (arith, beyond, numbered size.nodes (λ (o : ℕ). (shard_in (get_or nodes node no_node) o).taken)))
  ]

  idle_fib : (node owner : ℕ) → node < size.nodes → owners_in size ≤ owner → fib_turns takens node owner ≡ 0
  unfolding taken_in
  idle_fib node owner low past = elim (cases_lt owner size.nodes) [
    | inl below ↦
        fib_turns_is size flows owners nodes is node low owner below
        ∙ ap (λ (f : FibState). f.taken) (get_or_past (get_or nodes node no_node).fibs owner no_fib (omega (arith, past, (is.each_node node low).one_fib_each)))
    | inr beyond ↦
        ap (λ (t : Taken). get_or t.fibs owner 0) (taken_is size flows owners nodes is node low)
        ∙ get_or_past (by_number size.nodes (λ (o : ℕ). (fib_in (get_or nodes node no_node) o).taken)) owner 0
        (omega (arith, beyond, numbered size.nodes (λ (o : ℕ). (fib_in (get_or nodes node no_node) o).taken)))
  ]

  none_ahead : (part : Part) (node owner : ℕ) → node < size.nodes → owner < owners_in size → turns_taken part takens node owner ≤ length (journal_of (journals_in size owners) owner)
  none_ahead Table node owner low has =
      let below = owner_low size flows owners nodes is owner has in
      let same = journal_is size flows owners nodes is owner below in
      omega (arith, table_turns_is size flows owners nodes is node low owner below, ((is.each_node node low).tables owner has).sent, ap length same)
  none_ahead Fib node owner low has =
      let below = owner_low size flows owners nodes is owner has in
      let same = journal_is size flows owners nodes is owner below in
      omega (arith, fib_turns_is size flows owners nodes is node low owner below, ((is.each_node node low).fibs owner has).sent, ap length same)

  pub sized_held : IsSized (held size flows owners stores is lacks run)
  unfolding cluster_of taken_in
  sized_held = record {
    nodes_many = length-map nodes (taken_in size.nodes) ∙ is.one_node_each;
    journals_many = numbered size.nodes (journal_in owners);
    tables_many = λ node low.
        ap (λ (t : Taken). length t.tables) (taken_is size flows owners nodes is node low) ∙ numbered size.nodes (λ (o : ℕ). (shard_in (get_or nodes node no_node) o).taken);
    fibs_many = λ node low.
        ap (λ (t : Taken). length t.fibs) (taken_is size flows owners nodes is node low) ∙ numbered size.nodes (λ (o : ℕ). (fib_in (get_or nodes node no_node) o).taken);
    none_ahead = none_ahead;
    accepts_nothing = idle_journal;
    no_table_turns = idle_table;
    no_fib_turns = idle_fib;
  }

  module _ (view : held size flows owners stores is lacks run ≡ run) where
    pub sized : IsSized run
    sized = subst IsSized view sized_held

    module _ (owner : ℕ) (owns : owner < owners_in run.cluster.opened.size) where
      has : owner < owners_in size
      has = owner_there size flows owners stores is lacks run view owner owns

      low_owner : owner < size.nodes
      low_owner = owner_low size flows owners nodes is owner has

      pub owner_index : owner < length owners
      owner_index = omega (arith, has, is.one_owner_each)

      journal_there : journal_of run.cluster.journals owner ≡ journal_in owners owner
      unfolding cluster_of
      journal_there = ap (λ (r : RunState). journal_of r.cluster.journals owner) (sym view) ∙ journal_is size flows owners nodes is owner low_owner

      pub sent_is : (sender : SenderState) → sender ≡ get_or owners owner sender → length (changes_in sender) ≡ length (journal_of run.cluster.journals owner)
      sent_is sender is_sender = ap (λ (s : SenderState). length (changes_in s)) (is_sender ∙ get_or_default owners owner sender no_sender owner_index) ∙ sym (ap length journal_there)

      module _ (number : ℕ) (there : number < run.cluster.opened.size.nodes) where
        low : number < size.nodes
        low = node_there size flows owners stores is lacks run view number there

        pub node_index : number < length stores
        node_index = omega (arith, low, is.one_node_each, length-map stores node_state_of)

        module _ (node : NodeStore) (node_is : node ≡ get_or stores number node) where
          same_node : node_state_of node ≡ get_or nodes number no_node
          same_node = node_here size flows owners stores is lacks run number low node node_is

          pub shard_index : owner < length node.shards
          shard_index =
              let many = ap (λ (n : NodeState). length n.shards) same_node in
              omega (arith, has, (is.each_node number low).one_table_each, many, length-map node.shards shard_state_of)

          pub fib_index : owner < length node.fibs
          fib_index =
              let many = ap (λ (n : NodeState). length n.fibs) same_node in
              omega (arith, has, (is.each_node number low).one_fib_each, many, length-map node.fibs state_of)

          module _ (shard : ShardStore) (shard_is : shard ≡ get_or node.shards owner shard) where
            same_shard : shard_state_of shard ≡ shard_in (get_or nodes number no_node) owner
            same_shard = shard_here node owner shard shard_index shard_is ∙ ap (λ (n : NodeState). shard_in n owner) same_node

            pub shard_taken : length shard.list ≡ turns_taken Table run.cluster.nodes number owner
            unfolding cluster_of
            shard_taken =
                ap (λ (s : ShardState). s.taken) same_shard ∙ sym (table_turns_is size flows owners nodes is number low owner low_owner)
                ∙ ap (λ (r : RunState). table_turns r.cluster.nodes number owner) view

            pub shard_within : length shard.list ≤ length (journal_of run.cluster.journals owner)
            shard_within = omega (arith, ap (λ (s : ShardState). s.taken) same_shard, ((is.each_node number low).tables owner has).sent, ap length journal_there)

          module _ (fib : FibStore) (fib_is : fib ≡ get_or node.fibs owner fib) where
            same_fib : state_of fib ≡ fib_in (get_or nodes number no_node) owner
            same_fib = fib_here node owner fib fib_index fib_is ∙ ap (λ (n : NodeState). fib_in n owner) same_node

            pub fib_taken : fib.taken ≡ turns_taken Fib run.cluster.nodes number owner
            unfolding cluster_of
            fib_taken =
                ap (λ (f : FibState). f.taken) same_fib ∙ sym (fib_turns_is size flows owners nodes is number low owner low_owner)
                ∙ ap (λ (r : RunState). fib_turns r.cluster.nodes number owner) view

            pub fib_within : fib.taken ≤ length (journal_of run.cluster.journals owner)
            fib_within = omega (arith, ap (λ (f : FibState). f.taken) same_fib, ((is.each_node number low).fibs owner has).sent, ap length journal_there)

module _ (size : Size) (flows : List Flow) (owners : List SenderState) (stores : List NodeStore) (is : IsCluster size flows owners (map node_state_of stores))
    (lacks : Bool) (run : RunState) (view : held size flows owners stores is lacks run ≡ run) where
  pub nodes_counted : run.cluster.opened.size.nodes ≡ size.nodes
  unfolding cluster_of
  nodes_counted = ap (λ (r : RunState). r.cluster.opened.size.nodes) (sym view)

  pub owners_counted : owners_in run.cluster.opened.size ≡ length owners
  unfolding cluster_of
  owners_counted = ap (λ (r : RunState). owners_in r.cluster.opened.size) (sym view) ∙ sym is.one_owner_each
