-- What stands in a cluster before its first event.
use Rattle.std.proofs.Common.{◌≡◌, ◌∙◌, ◌<◌, [], ℕ, List, inl, inr, length, map, get_or, replicate, refl, sym, ap, subst, arith}
use Rattle.std.proofs.lemmas.Bool.{cases_lt}
use Rattle.std.proofs.lemmas.List.{ext_get_or, get_or-map, get_or-replicate, get_or_past, length-map, length-replicate}
use Rattle.std.proofs.lemmas.Option.{slice_get_cases}
use Rattle.flow_types.specs.declared.record.Flow.{Flow}
use Rattle.flow_types.specs.Size.{IsShape, Size, owners_in}
use Rattle.group_search.specs.Records.{AreHandled}
use Rattle.group_history.specs.declared.change.Change.{Change}
use Rattle.partial_fib.specs.Fib.{FibState, fib_after}
use Rattle.replica_shard.specs.Shard.{ShardState, shard_after}
use Rattle.run_model.specs.Replaying.{fresh, fresh_node}
use Rattle.run_model.specs.State.{ClusterState, Journals, Taken}
use Rattle.turn_log.specs.Sender.{SenderState, changes_in}
use Rattle.cluster_open.specs.Opened.{AreOpenedNodes, AreOpenedSenders, IsOpenedNode, by_number}
use Rattle.cluster_open.specs.declared.node.NodeParts.{NodeParts}
use Rattle.cluster_replay.specs.Cluster.{AreFreshNodes, GoToNodes, IsCluster, IsFibOf, IsNodeOf, IsTableOf, NodeState, NodeStore, cluster_of, fib_in, journal_in, no_fib, no_node, no_sender, no_shard, node_of_parts, node_state_of, shard_in, taken_in}
use Rattle.cluster_open.proofs.Numbered.{at_number, numbered}

-- ---- lists by number

-- a list whose elements are all the same
pub is_replicate : {X : Type 0} (count : ℕ) (all : List X) (x d : X) → length all ≡ count → ((i : ℕ) → i < count → get_or all i d ≡ x) → all ≡ replicate count x
is_replicate count all x d long are =
    ext_get_or d all (replicate count x) (long ∙ sym (length-replicate count x))
    (λ i low. are i (omega (arith, long)) ∙ sym (get_or-replicate count i x d (omega (arith, long))))

numbered_same : {X : Type 0} (count : ℕ) (each : ℕ → X) (x : X) → ((i : ℕ) → each i ≡ x) → by_number count each ≡ replicate count x
numbered_same count each x same = is_replicate count (by_number count each) x x (numbered count each) (λ i low. at_number count each i x low ∙ same i)

-- ---- a node

module _ (size : Size) (flows : List Flow) where
  opened_table : (owner : ℕ) (shard : ShardState) → shard ≡ shard_after size owner flows [] → IsTableOf size owner flows [] shard
  opened_table owner shard is = subst (IsTableOf size owner flows []) (sym is) (record { sent = omega arith; stands = refl })

  opened_fib : (number owner : ℕ) (fib : FibState) → fib ≡ fib_after size number owner flows [] → IsFibOf size number owner flows [] fib
  opened_fib number owner fib is = subst (IsFibOf size number owner flows []) (sym is) (record { sent = omega arith; stands = refl })

  opened_node : (number : ℕ) (parts : NodeParts) → IsOpenedNode size flows number parts → IsNodeOf size flows (λ (owner : ℕ). []) number (node_state_of (node_of_parts parts))
  opened_node number parts opened =
      let node = node_state_of (node_of_parts parts) in
      let count = owners_in size in
      let table : ℕ → ShardState = λ (owner : ℕ). shard_after size owner flows [] in
      let fib : ℕ → FibState = λ (owner : ℕ). fib_after size number owner flows [] in
      record {
        one_table_each = ap length opened.tables ∙ numbered count table;
        one_fib_each = ap length opened.fibs ∙ numbered count fib;
        tables = λ owner low.
            opened_table owner (shard_in node owner)
            (ap (λ (l : List ShardState). get_or l owner no_shard) opened.tables ∙ at_number count table owner no_shard low);
        fibs = λ owner low.
            opened_fib number owner (fib_in node owner)
            (ap (λ (l : List FibState). get_or l owner no_fib) opened.fibs ∙ at_number count fib owner no_fib low);
      }

  -- the nodes of parts that were opened
  pub fresh_nodes : (parts : List NodeParts) → AreOpenedNodes size flows parts → AreFreshNodes size flows (map node_of_parts parts)
  fresh_nodes parts opened = (length-map parts node_of_parts ∙ opened.0, each)
    where
      each : (number : ℕ) (d : NodeStore) → number < length (map node_of_parts parts) → IsNodeOf size flows (λ (owner : ℕ). []) number (node_state_of (get_or (map node_of_parts parts) number d))
      each number d low =
          let there : number < length parts = omega (arith, low, length-map parts node_of_parts) in
          elim (slice_get_cases parts number).1 [
            | inl found ↦
                subst (λ (node : NodeStore). IsNodeOf size flows (λ (owner : ℕ). []) number (node_state_of node))
                (sym (get_or-map node_of_parts parts number found.0 d there))
                (opened_node number (get_or parts number found.0) (opened.1 number found.0 there))
            | inr past ↦ absurd (omega (arith, there, past.0))
          ]

-- ---- a cluster

module _ (size : Size) (flows : List Flow) (number : ℕ) (node : NodeState) (is : IsNodeOf size flows (λ (owner : ℕ). []) number node) where
  -- the journals say nothing yet
  with_journals_of : (journal : ℕ → List Change) → ((owner : ℕ) → journal owner ≡ []) → IsNodeOf size flows journal number node
  with_journals_of journal empty = record {
    one_table_each = is.one_table_each;
    one_fib_each = is.one_fib_each;
    tables = λ owner low. subst (λ (changes : List Change). IsTableOf size owner flows changes (shard_in node owner)) (sym (empty owner)) (is.tables owner low);
    fibs = λ owner low. subst (λ (changes : List Change). IsFibOf size number owner flows changes (fib_in node owner)) (sym (empty owner)) (is.fibs owner low);
  }

  no_table_turns : (owner : ℕ) → (shard_in node owner).taken ≡ 0
  no_table_turns owner = elim (cases_lt owner (owners_in size)) [
    | inl low ↦ let sent = (is.tables owner low).sent in omega (arith, sent)
    | inr past ↦ ap (λ (s : ShardState). s.taken) (get_or_past node.shards owner no_shard (omega (arith, is.one_table_each)))
  ]

  no_fib_turns : (owner : ℕ) → (fib_in node owner).taken ≡ 0
  no_fib_turns owner = elim (cases_lt owner (owners_in size)) [
    | inl low ↦ let sent = (is.fibs owner low).sent in omega (arith, sent)
    | inr past ↦ ap (λ (f : FibState). f.taken) (get_or_past node.fibs owner no_fib (omega (arith, is.one_fib_each)))
  ]

  nothing_taken_yet : taken_in size.nodes node ≡ fresh_node size.nodes
  unfolding taken_in
  nothing_taken_yet =
      let tables : ℕ → ℕ = λ (owner : ℕ). (shard_in node owner).taken in
      let fibs : ℕ → ℕ = λ (owner : ℕ). (fib_in node owner).taken in
      ap (λ (l : List ℕ). let taken : Taken = record { tables = l; fibs = by_number size.nodes fibs } in taken) (numbered_same size.nodes tables 0 no_table_turns)
      ∙ ap (λ (l : List ℕ). let taken : Taken = record { tables = replicate size.nodes 0; fibs = l } in taken) (numbered_same size.nodes fibs 0 no_fib_turns)

module _ (size : Size) (flows : List Flow) (owners : List SenderState) (nodes : List NodeStore) (senders : AreOpenedSenders size flows owners)
    (opened : AreFreshNodes size flows nodes) where
  no_changes : (owner : ℕ) → journal_in owners owner ≡ []
  no_changes owner = elim (cases_lt owner (length owners)) [
    | inl low ↦ (senders.1 owner no_sender low).0
    | inr past ↦ ap changes_in (get_or_past owners owner no_sender past)
  ]

  empty_store : NodeStore
  empty_store = record { shards = []; fibs = [] }

  node_opened : (number : ℕ) → number < size.nodes → IsNodeOf size flows (λ (owner : ℕ). []) number (get_or (map node_state_of nodes) number no_node)
  node_opened number low =
      let there : number < length nodes = omega (arith, opened.0) in
      subst (λ (node : NodeState). IsNodeOf size flows (λ (owner : ℕ). []) number node) (sym (get_or-map node_state_of nodes number empty_store no_node there))
      (opened.1 number empty_store there)

  pub opened_cluster : IsShape size.nodes size.blocks → AreHandled size.nodes flows → IsCluster size flows owners (map node_state_of nodes)
  opened_cluster shape handled = record {
    shape = shape;
    handled = handled;
    one_owner_each = senders.0;
    senders = λ owner low. (senders.1 owner no_sender (omega (arith, senders.0))).1;
    to_nodes = λ owner low. subst (GoToNodes size.nodes) (sym (no_changes owner)) (λ k d below. absurd (omega arith));
    one_node_each = length-map nodes node_state_of ∙ opened.0;
    each_node = λ number low. with_journals_of size flows number (get_or (map node_state_of nodes) number no_node) (node_opened number low) (journal_in owners) no_changes;
  }

  pub opened_is_fresh : cluster_of size flows owners (map node_state_of nodes) ≡ fresh (record { size = size; flows = flows })
  unfolding cluster_of fresh
  opened_is_fresh =
      let states = map node_state_of nodes in
      let long : length (map (taken_in size.nodes) states) ≡ size.nodes = length-map states (taken_in size.nodes) ∙ length-map nodes node_state_of ∙ opened.0 in
      let count : length states ≡ size.nodes = length-map nodes node_state_of ∙ opened.0 in
      let all_fresh : map (taken_in size.nodes) states ≡ replicate size.nodes (fresh_node size.nodes) =
      is_replicate size.nodes (map (taken_in size.nodes) states) (fresh_node size.nodes) (fresh_node size.nodes) long
      (λ number low.
      get_or-map (taken_in size.nodes) states number no_node (fresh_node size.nodes) (omega (arith, count))
      ∙ nothing_taken_yet size flows number (get_or states number no_node) (node_opened number low)) in
      ap (λ (journals : Journals). let state : ClusterState = record { opened = record { size = size; flows = flows }; journals = journals; nodes = map (taken_in size.nodes) states } in state)
      (numbered_same size.nodes (journal_in owners) [] no_changes)
      ∙ ap (λ (all : List Taken). let state : ClusterState = record { opened = record { size = size; flows = flows }; journals = replicate size.nodes []; nodes = all } in state) all_fresh
