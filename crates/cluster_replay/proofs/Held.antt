-- What a contract's view of a cluster tells of its fields.
use Rattle.std.proofs.Common.{◌≡◌, ◌∙◌, ◌+◌, ◌<◌, ◌≤◌, ℕ, Bool, true, List, Ok, Err, length, map, get_or, set, refl, sym, ap, subst, arith}
use Rattle.std.proofs.lemmas.List.{get_or-map, get_or_default, get_or_past, length-map, map-set, set-get_or}
use Rattle.std.specs.Prelude.{IfOk, OnErr, OnOk, Result, nat_lt}
use Rattle.std.proofs.lemmas.Bool.Decides.{nat_tests}
use Rattle.run_model.specs.declared.reply.Reply.TheVariants.{Unsent}
use Rattle.flow_types.specs.declared.record.Flow.{Flow}
use Rattle.flow_types.specs.Size.{Size, owners_in}
use Rattle.group_history.specs.declared.change.Change.{Change}
use Rattle.delta_codec.specs.declared.message.FibMessage.{FibMessage}
use Rattle.delta_codec.specs.declared.message.TableMessage.{TableMessage}
use Rattle.packet_reader.specs.declared.event.Part.{Part}
use Rattle.run_model.specs.Carrying.{after_carry, carry_reply, nodes_by, turns_taken}
use Rattle.run_model.specs.declared.reply.Reply.{Reply}
use Rattle.run_model.specs.State.{Taken, journal_of}
use Rattle.cluster_replay.specs.Cluster.{IsCluster, IsFibOf, IsTableOf, NodeState, NodeStore, RunState, after_fib, after_table, cluster_of, fib_in, journal_in, journals_in, no_node, no_sender, node_state_of, shard_in, taken_in, taking_reply, with_nodes}
use Rattle.turn_log.specs.Sender.{IsSenderOf, SenderState, changes_in}
use Rattle.delta_codec.specs.Messages.{IsFibMessageOf, IsTableMessageOf, TableMessageFits, FibMessageFits}
use Rattle.replica_shard.specs.Shard.{ShardState, free_rows}
use Rattle.replica_shard.specs.Store.{shard_state_of}
use Rattle.partial_fib.specs.Fib.{FibState}
use Rattle.partial_fib.specs.Store.{state_of}
use Rattle.group_search.specs.Canon.{rows_in}
use Rattle.packet_reader.specs.declared.event.Part.TheVariants.{Fib, Table}
use Rattle.cluster_replay.proofs.Carried.{Carries, fib_carries, journal_is, owner_low, table_carries}
use Rattle.cluster_replay.proofs.Turns.{fib_owner, fib_size, table_owner, table_room, table_size}

module _ (size : Size) (flows : List Flow) (owners : List SenderState) (stores : List NodeStore) (is : IsCluster size flows owners (map node_state_of stores))
    (lacks : Bool) (run : RunState) where
  abbrev pub held : RunState
  held = record { cluster = cluster_of size flows owners (map node_state_of stores); lacks_memory = lacks }

  module _ (view : held ≡ run) where
    pub node_there : (node : ℕ) → node < run.cluster.opened.size.nodes → node < size.nodes
    unfolding cluster_of
    node_there node low = subst (λ (r : RunState). node < r.cluster.opened.size.nodes) (sym view) low

    pub owner_there : (owner : ℕ) → owner < owners_in run.cluster.opened.size → owner < owners_in size
    unfolding cluster_of
    owner_there owner low = subst (λ (r : RunState). owner < owners_in r.cluster.opened.size) (sym view) low

    pub turn_there : (owner turn : ℕ) → turn ≤ length (journal_of run.cluster.journals owner) → turn ≤ length (journal_of (journals_in size owners) owner)
    unfolding cluster_of
    turn_there owner turn sent = subst (λ (r : RunState). turn ≤ length (journal_of r.cluster.journals owner)) (sym view) sent

  -- an owner among the fields
  module _ (owner : ℕ) (has : owner < owners_in size) (sender : SenderState) (sender_is : sender ≡ get_or owners owner sender) where
    pub sender_here : get_or owners owner no_sender ≡ sender
    sender_here = get_or_default owners owner no_sender sender (omega (arith, is.one_owner_each)) ∙ sym sender_is

    pub sender_stands : IsSenderOf size owner flows sender
    sender_stands = subst (IsSenderOf size owner flows) sender_here (is.senders owner has)

    pub changes_here : changes_in sender ≡ journal_in owners owner
    changes_here = ap changes_in (sym sender_here)

    pub sent_here : (turn : ℕ) → turn ≤ length (journal_of (journals_in size owners) owner) → turn ≤ length (changes_in sender)
    sent_here turn sent =
        subst (λ (changes : List Change). turn ≤ length changes) (journal_is size flows owners (map node_state_of stores) is owner (owner_low size flows owners (map node_state_of stores) is owner has) ∙ sym changes_here) sent

  -- a node among the fields
  module _ (number : ℕ) (low : number < size.nodes) (node : NodeStore) (node_is : node ≡ get_or stores number node) where
    pub node_here : node_state_of node ≡ get_or (map node_state_of stores) number no_node
    node_here = ap node_state_of node_is ∙ sym (get_or-map node_state_of stores number node no_node (omega (arith, is.one_node_each, length-map stores node_state_of)))

    -- the fields with another node in its place
    pub set_here : (new : NodeStore) (to : NodeState) → node_state_of new ≡ to → map node_state_of (set stores number new) ≡ set (map node_state_of stores) number to
    set_here new to new_is = map-set node_state_of stores number new ∙ ap (set (map node_state_of stores) number) new_is

-- ---- one message

module _ (size : Size) (flows : List Flow) (owners : List SenderState) (stores : List NodeStore) (is : IsCluster size flows owners (map node_state_of stores))
    (lacks : Bool) (run : RunState) (view : held size flows owners stores is lacks run ≡ run) (owner number turn : ℕ)
    (owns : owner < owners_in run.cluster.opened.size) (low : number < run.cluster.opened.size.nodes) (was_sent : turn ≤ length (journal_of run.cluster.journals owner)) where
  -- the cluster with other nodes
  abbrev pub held_with : List NodeState → RunState
  held_with others = record { cluster = cluster_of size flows owners others; lacks_memory = lacks }

  -- the fields and the run after a message, with this node in its place
  pub record IsCarried (part : Part) (reply : Reply) (new : NodeStore) : Type 0 where
    pub stands : IsCluster size flows owners (map node_state_of (set stores number new))
    pub answers : reply ≡ carry_reply (length (journal_of run.cluster.journals owner)) (turns_taken part run.cluster.nodes number owner) turn
    pub goes_on : held_with (map node_state_of (set stores number new)) ≡ with_nodes run (after_carry run.cluster.journals run.cluster.nodes number owner turn part)

  pub has : owner < owners_in size
  has = owner_there size flows owners stores is lacks run view owner owns

  pub owner_index : owner < length owners
  owner_index = omega (arith, has, is.one_owner_each)

  pub there : number < size.nodes
  there = node_there size flows owners stores is lacks run view number low

  pub node_index : number < length stores
  node_index = omega (arith, there, is.one_node_each, length-map stores node_state_of)

  sent : turn ≤ length (journal_of (journals_in size owners) owner)
  sent = turn_there size flows owners stores is lacks run view owner turn was_sent

  module _ (sender : SenderState) (sender_is : sender ≡ get_or owners owner sender) where
    pub stands : IsSenderOf size owner flows sender
    stands = sender_stands size flows owners stores is lacks run owner has sender sender_is

    pub turn_known : turn ≤ length (changes_in sender)
    turn_known = sent_here size flows owners stores is lacks run owner has sender sender_is turn sent

    pub sender_size : sender.rib.size ≡ size
    sender_size = stands.sized

    same_changes : changes_in sender ≡ journal_in owners owner
    same_changes = changes_here size flows owners stores is lacks run owner has sender sender_is

    module _ (node : NodeStore) (node_is : node ≡ get_or stores number node) where
      nodes : List NodeState
      nodes = map node_state_of stores

      same_node : node_state_of node ≡ get_or (map node_state_of stores) number no_node
      same_node = node_here size flows owners stores is lacks run number there node node_is

      -- the cluster as it goes on with a node that has carried the message
      carries_on : (part : Part) (reply : Reply) (new : NodeStore) (to : NodeState) → node_state_of new ≡ to
          → Carries size flows owners (map node_state_of stores) is number there owner has turn sent part reply to
          → IsCarried part reply new
      unfolding cluster_of
      carries_on part reply new to new_is carried =
          let set_is = set_here size flows owners stores is lacks run number there node node_is new to new_is in
          record {
            stands = subst (IsCluster size flows owners) (sym set_is) carried.becomes.stands;
            answers = subst (λ (r : RunState). reply ≡ carry_reply (length (journal_of r.cluster.journals owner)) (turns_taken part r.cluster.nodes number owner) turn) view carried.answers;
            goes_on =
                subst (λ (r : RunState). held_with (map node_state_of (set stores number new)) ≡ with_nodes r (after_carry r.cluster.journals r.cluster.nodes number owner turn part)) view
                (ap (λ (taken : List Taken). with_nodes (held size flows owners stores is lacks run) taken) (ap (map (taken_in size.nodes)) set_is ∙ carried.becomes.takes));
          }

      -- a node that didn't take it is as it was
      pub stays : (new : NodeStore) → new ≡ node → IsCluster size flows owners (map node_state_of (set stores number new))
      stays new same =
          subst (λ (all : List NodeStore). IsCluster size flows owners (map node_state_of all))
          (sym (ap (set stores number) (same ∙ node_is) ∙ set-get_or stores number node)) is

      pub run_stays : (new : NodeStore) → new ≡ node → held_with (map node_state_of (set stores number new)) ≡ run
      run_stays new same =
          ap (λ (all : List NodeStore). held_with (map node_state_of all)) (ap (set stores number) (same ∙ node_is) ∙ set-get_or stores number node) ∙ view

      -- what holds after the call, whatever the node answered
      pub record Answers {E : Type 0} (part : Part) (result : Result Reply E) (new : NodeStore) : Type 0 where
        pub stands : IsCluster size flows owners (map node_state_of (set stores number new))
        pub answers : IfOk result (λ reply. reply ≡ carry_reply (length (journal_of run.cluster.journals owner)) (turns_taken part run.cluster.nodes number owner) turn)
        pub goes_on : OnOk result (held_with (map node_state_of (set stores number new))
            ≡ with_nodes run (after_carry run.cluster.journals run.cluster.nodes number owner turn part))
        pub refused : OnErr result (held_with (map node_state_of (set stores number new)) ≡ run)

      answered : {E : Type 0} (part : Part) (result : Result Reply E) (new : NodeStore) → ((reply : Reply) → result ≡ Ok reply → IsCarried part reply new) → OnErr result (new ≡ node)
          → Answers part result new
      answered part (Ok reply) new carried same =
          let is = carried reply refl in
          record { stands = is.stands; answers = is.answers; goes_on = is.goes_on; refused = tt }
      answered part (Err lack) new carried same = record { stands = stays new same; answers = tt; goes_on = tt; refused = run_stays new same }

      -- ---- to a table

      module _ (message : TableMessage) (said : IsTableMessageOf size owner flows (changes_in sender) turn message) where
        of_table : IsTableMessageOf size owner flows (journal_in owners owner) turn message
        of_table = subst (λ (changes : List Change). IsTableMessageOf size owner flows changes turn message) same_changes said

        abbrev here : ShardState
        here = shard_in (get_or nodes number no_node) owner

        table_is : IsTableOf size owner flows (journal_in owners owner) here
        unfolding nodes
        table_is = (is.each_node number there).tables owner has

        shard_same : shard_in (node_state_of node) message.owner ≡ here
        unfolding nodes
        shard_same = ap (shard_in (node_state_of node)) of_table.says.of_owner ∙ ap (λ (n : NodeState). shard_in n owner) same_node

        pub table_there : message.owner < length node.shards
        table_there =
            let one_each = (is.each_node number there).one_table_each in
            let many = ap (λ (n : NodeState). length n.shards) same_node in
            omega (arith, of_table.says.of_owner, has, one_each, many, length-map node.shards shard_state_of)

        pub table_own : (shard_in (node_state_of node) message.owner).owner ≡ message.owner
        table_own = ap (λ (s : ShardState). s.owner) shard_same ∙ table_owner size is.shape owner flows (journal_in owners owner) (is.senders owner has).own here table_is turn message of_table

        pub table_fits : TableMessageFits sender.rib.size message → TableMessageFits (shard_in (node_state_of node) message.owner).size message
        table_fits fits =
            subst (λ (s : Size). TableMessageFits s message)
            (sender_size ∙ sym (ap (λ (s : ShardState). s.size) shard_same ∙ table_size size is.shape owner flows (journal_in owners owner) (is.senders owner has).own here table_is turn message of_table)) fits

        pub table_has_room : message.turn ≡ (shard_in (node_state_of node) message.owner).taken + 1
            → rows_in message.content ≤ free_rows (shard_in (node_state_of node) message.owner) message.block message.group
        table_has_room next =
            subst (λ (s : ShardState). rows_in message.content ≤ free_rows s message.block message.group) (sym shard_same)
            (table_room size is.shape owner flows (journal_in owners owner) (is.senders owner has).own here table_is turn message of_table (is.senders owner has).rows (next ∙ ap (λ (s : ShardState). s.taken + 1) shard_same))

        pub table_carried : (reply : Reply) (new : NodeStore) → reply ≡ taking_reply (shard_in (node_state_of node) message.owner).taken message.turn
            → node_state_of new ≡ after_table (node_state_of node) message reply → IsCarried Table reply new
        unfolding nodes
        table_carried reply new is_reply is_new =
            carries_on Table reply new (after_table (node_state_of node) message reply) is_new
            (table_carries size flows owners (map node_state_of stores) is number there owner has turn sent message of_table reply
            (is_reply ∙ ap (λ (s : ShardState). taking_reply s.taken message.turn) shard_same)
            (after_table (node_state_of node) message reply) (ap (λ (n : NodeState). after_table n message reply) same_node))

      -- ---- to a FIB

      module _ (message : FibMessage) (said : IsFibMessageOf size number owner flows (changes_in sender) turn message) where
        of_fib : IsFibMessageOf size number owner flows (journal_in owners owner) turn message
        of_fib = subst (λ (changes : List Change). IsFibMessageOf size number owner flows changes turn message) same_changes said

        abbrev fib_now : FibState
        fib_now = fib_in (get_or nodes number no_node) owner

        fib_is : IsFibOf size number owner flows (journal_in owners owner) fib_now
        unfolding nodes
        fib_is = (is.each_node number there).fibs owner has

        message_owner : message.owner ≡ owner
        message_owner = ap (λ (m : FibMessage). m.owner) of_fib.says

        fib_same : fib_in (node_state_of node) message.owner ≡ fib_now
        unfolding nodes
        fib_same = ap (fib_in (node_state_of node)) message_owner ∙ ap (λ (n : NodeState). fib_in n owner) same_node

        pub fib_there : message.owner < length node.fibs
        fib_there =
            let one_each = (is.each_node number there).one_fib_each in
            let many = ap (λ (n : NodeState). length n.fibs) same_node in
            omega (arith, message_owner, has, one_each, many, length-map node.fibs state_of)

        pub fib_own : (fib_in (node_state_of node) message.owner).owner ≡ message.owner
        fib_own = ap (λ (f : FibState). f.owner) fib_same ∙ fib_owner size number owner flows (journal_in owners owner) (is.senders owner has).own fib_now fib_is turn message of_fib

        pub fib_fits : FibMessageFits sender.rib.size message → FibMessageFits (fib_in (node_state_of node) message.owner).size message
        fib_fits fits =
            subst (λ (s : Size). FibMessageFits s message)
            (sender_size ∙ sym (ap (λ (f : FibState). f.size) fib_same ∙ fib_size size number owner flows (journal_in owners owner) (is.senders owner has).own fib_now fib_is turn message of_fib)) fits

        pub fib_carried : (reply : Reply) (new : NodeStore) → reply ≡ taking_reply (fib_in (node_state_of node) message.owner).taken message.turn
            → node_state_of new ≡ after_fib (node_state_of node) message reply → IsCarried Fib reply new
        unfolding nodes
        fib_carried reply new is_reply is_new =
            carries_on Fib reply new (after_fib (node_state_of node) message reply) is_new
            (fib_carries size flows owners (map node_state_of stores) is number there owner has turn sent message of_fib reply
            (is_reply ∙ ap (λ (f : FibState). taking_reply f.taken message.turn) fib_same)
            (after_fib (node_state_of node) message reply) (ap (λ (n : NodeState). after_fib n message reply) same_node))

        pub fib_answers : {E : Type 0} (result : Result Reply E) (new : NodeStore)
            → IfOk result (λ reply. reply ≡ taking_reply (fib_in (node_state_of node) message.owner).taken message.turn)
            → IfOk result (λ reply. node_state_of new ≡ after_fib (node_state_of node) message reply) → OnErr result (new ≡ node) → Answers Fib result new
        fib_answers {E = E} result new says takes same =
            answered Fib result new
            (λ reply is.
            fib_carried reply new (subst (λ (r : Result Reply E). IfOk r (λ reply. reply ≡ taking_reply (fib_in (node_state_of node) message.owner).taken message.turn)) is says)
            (subst (λ (r : Result Reply E). IfOk r (λ reply. node_state_of new ≡ after_fib (node_state_of node) message reply)) is takes))
            same

-- ---- a message of a turn that there isn't

module _ (run : RunState) (part : Part) (node owner turn : ℕ) (later : length (journal_of run.cluster.journals owner) < turn) where
  pub unsent : Unsent ≡ carry_reply (length (journal_of run.cluster.journals owner)) (turns_taken part run.cluster.nodes node owner) turn
  unfolding carry_reply
  unsent = let test : nat_lt (length (journal_of run.cluster.journals owner)) turn ≡ true = grind (arith, nat_tests) in rw test refl

  pub run_unsent : run ≡ with_nodes run (after_carry run.cluster.journals run.cluster.nodes node owner turn part)
  unfolding after_carry
  run_unsent = ap (λ (reply : Reply). with_nodes run (nodes_by run.cluster.nodes node owner turn part reply)) unsent

module _ (size : Size) (flows : List Flow) (owners : List SenderState) (stores : List NodeStore) (is : IsCluster size flows owners (map node_state_of stores))
    (lacks : Bool) (run : RunState) (view : held size flows owners stores is lacks run ≡ run) (owner : ℕ) (low : owner < run.cluster.opened.size.nodes) where
  pub owner_low_here : owner < size.nodes
  unfolding cluster_of
  owner_low_here = subst (λ (r : RunState). owner < r.cluster.opened.size.nodes) (sym view) low

  -- what it has accepted
  pub journal_said : journal_of run.cluster.journals owner ≡ journal_in owners owner
  unfolding cluster_of
  journal_said =
      ap (λ (r : RunState). journal_of r.cluster.journals owner) (sym view) ∙ journal_is size flows owners (map node_state_of stores) is owner owner_low_here

  -- an owner without a block has accepted nothing
  pub nothing_accepted : length owners ≤ owner → length (journal_of run.cluster.journals owner) ≡ 0
  nothing_accepted past = ap length journal_said ∙ ap (λ (s : SenderState). length (changes_in s)) (get_or_past owners owner no_sender past)

  pub as_many_sent : (sender : SenderState) → owner < length owners → sender ≡ get_or owners owner sender → length (changes_in sender) ≡ length (journal_of run.cluster.journals owner)
  as_many_sent sender there is_sender =
      ap (λ (s : SenderState). length (changes_in s)) (is_sender ∙ get_or_default owners owner sender no_sender there) ∙ sym (ap length journal_said)

  pub has_owner : owner < length owners → owner < owners_in run.cluster.opened.size
  unfolding cluster_of
  has_owner there = subst (λ (r : RunState). owner < owners_in r.cluster.opened.size) view (omega (arith, there, is.one_owner_each))
