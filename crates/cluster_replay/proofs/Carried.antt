-- What a message makes of a cluster.
use Rattle.std.proofs.Common.{◌≡◌, ◌∙◌, ◌+◌, ◌<◌, ◌≤◌, ℕ, Bool, true, false, cond, List, [], length, map, get_or, set, refl, sym, ap, subst, arith}
use Rattle.std.specs.Prelude.{nat_le, nat_lt}
use Rattle.std.proofs.Math.Nat.{min-le_left, min-le_right}
use Rattle.std.proofs.lemmas.Bool.{leb-false, ltb-false}
use Rattle.std.proofs.lemmas.Bool.Decides.{nat_tests}
use Rattle.std.proofs.lemmas.List.{get_or-map, length-set, map-set, set-get_or}
use Rattle.flow_types.specs.declared.record.Flow.{Flow}
use Rattle.flow_types.specs.Size.{Size, owners_in}
use Rattle.group_history.specs.declared.change.Change.{Change}
use Rattle.delta_codec.specs.declared.message.FibMessage.{FibMessage}
use Rattle.delta_codec.specs.declared.message.TableMessage.{TableMessage}
use Rattle.packet_reader.specs.declared.event.Part.{Part}
use Rattle.packet_reader.specs.declared.event.Part.TheVariants.{Fib, Table}
use Rattle.run_model.specs.Carrying.{after_carry, carry_reply, nodes_by, turns_taken, with_taken}
use Rattle.run_model.specs.State.{Journals, Taken, journal_of, nothing_taken, taken_by}
use Rattle.run_model.specs.declared.reply.Reply.{Reply}
use Rattle.run_model.specs.declared.reply.Reply.TheVariants.{Applied, EarlyHave, RepeatHave}
use Rattle.cluster_replay.specs.Cluster.{IsCluster, IsFibOf, IsNodeOf, IsTableOf, NodeState, after_fib, after_table, fib_in, journal_in, journals_in, no_node, no_sender, shard_in, taken_in, taking_reply}
use Rattle.turn_log.specs.Sender.{IsSenderOf, SenderState}
use Rattle.delta_codec.specs.Messages.{IsFibMessageOf, IsTableMessageOf}
use Rattle.replica_shard.specs.Shard.{ShardState, with_content}
use Rattle.partial_fib.specs.Fib.{with_turn}
use Rattle.cluster_replay.proofs.NodeFacts.{each_set, set_fib, set_fib_taken, set_table, set_table_taken}
use Rattle.cluster_replay.proofs.Turns.{fib_goes_on, fib_turn, table_goes_on, table_turn}
use Rattle.cluster_open.proofs.Numbered.{at_number}

-- ---- the reply

-- the reply to the message of a turn that was sent, by two questions
abbrev pub reply_of : (have : ℕ) → (repeat early : Bool) → Reply
reply_of have repeat early = cond repeat (RepeatHave have) (cond early (EarlyHave have) Applied)

not_unsent : (sent turn : ℕ) → turn ≤ sent → nat_lt sent turn ≡ false
not_unsent sent turn was_sent = grind (arith, nat_tests)

pub reply_is : (sent have turn : ℕ) → turn ≤ sent → carry_reply sent have turn ≡ reply_of have (nat_le turn have) (nat_lt (have + 1) turn)
unfolding carry_reply
reply_is sent have turn was_sent = rw (not_unsent sent turn was_sent) refl

-- ---- a cluster's parts

module _ (size : Size) (flows : List Flow) (owners : List SenderState) (nodes : List NodeState) (is : IsCluster size flows owners nodes) where
  abbrev journals : Journals
  journals = journals_in size owners

  abbrev takens : List Taken
  takens = map (taken_in size.nodes) nodes

  pub owner_low : (owner : ℕ) → owner < owners_in size → owner < size.nodes
  owner_low owner has = omega (arith, min-le_left size.nodes size.blocks)

  pub owner_has_block : (owner : ℕ) → owner < owners_in size → owner < size.blocks
  owner_has_block owner has = omega (arith, min-le_right size.nodes size.blocks)

  pub journal_is : (owner : ℕ) → owner < size.nodes → journal_of journals owner ≡ journal_in owners owner
  journal_is owner low = at_number size.nodes (journal_in owners) owner [] low

  module _ (number : ℕ) (low : number < size.nodes) where
    abbrev node : NodeState
    node = get_or nodes number no_node

    pub node_is : IsNodeOf size flows (journal_in owners) number node
    node_is = is.each_node number low

    pub taken_is : taken_by takens number ≡ taken_in size.nodes node
    taken_is = get_or-map (taken_in size.nodes) nodes number no_node nothing_taken (omega (arith, is.one_node_each))

    pub table_turns_is : (owner : ℕ) → owner < size.nodes → turns_taken Table takens number owner ≡ (shard_in node owner).taken
    unfolding taken_in
    table_turns_is owner there =
        ap (λ (t : Taken). get_or t.tables owner 0) taken_is ∙ at_number size.nodes (λ (o : ℕ). (shard_in node o).taken) owner 0 there

    pub fib_turns_is : (owner : ℕ) → owner < size.nodes → turns_taken Fib takens number owner ≡ (fib_in node owner).taken
    unfolding taken_in
    fib_turns_is owner there =
        ap (λ (t : Taken). get_or t.fibs owner 0) taken_is ∙ at_number size.nodes (λ (o : ℕ). (fib_in node o).taken) owner 0 there

    pub set_node : (new : NodeState) → IsNodeOf size flows (journal_in owners) number new → IsCluster size flows owners (set nodes number new)
    set_node new here = record {
      shape = is.shape;
      handled = is.handled;
      one_owner_each = is.one_owner_each;
      senders = is.senders;
      to_nodes = is.to_nodes;
      one_node_each = length-set nodes number new ∙ is.one_node_each;
      each_node = each_set (λ (n : ℕ) (node : NodeState). IsNodeOf size flows (journal_in owners) n node) size.nodes nodes number new no_node is.one_node_each is.each_node here;
    }

    -- ---- one message

    -- the cluster with this node in its place, and how many turns its nodes have taken then
    pub record Becomes (new : NodeState) (taken : List Taken) : Type 0 where
      pub stands : IsCluster size flows owners (set nodes number new)
      pub takes : map (taken_in size.nodes) (set nodes number new) ≡ taken

    becomes_same : Becomes node takens
    becomes_same =
        let same : set nodes number node ≡ nodes = set-get_or nodes number no_node in
        record { stands = subst (IsCluster size flows owners) (sym same) is; takes = ap (map (taken_in size.nodes)) same }

    module _ (owner : ℕ) (part : Part) (have turn : ℕ) (applied : NodeState)
        (goes_on : turn ≡ have + 1 → IsNodeOf size flows (journal_in owners) number applied)
        (takes : taken_in size.nodes applied ≡ with_taken part (taken_in size.nodes node) owner (have + 1))
        (after : Reply → NodeState) (where_applied : after Applied ≡ applied)
        (where_repeat : after (RepeatHave have) ≡ node) (where_early : after (EarlyHave have) ≡ node) where
      taken_next : (next : turn ≡ have + 1) → Becomes applied (set takens number (with_taken part (taken_by takens number) owner turn))
      taken_next next = record {
        stands = set_node applied (goes_on next);
        takes =
            map-set (taken_in size.nodes) nodes number applied
            ∙ ap (set takens number) (takes ∙ ap (λ (t : Taken). with_taken part t owner (have + 1)) (sym taken_is) ∙ ap (with_taken part (taken_by takens number) owner) (sym next));
      }

      reply_case : (repeat early : Bool) → nat_le turn have ≡ repeat → nat_lt (have + 1) turn ≡ early
          → Becomes (after (reply_of have repeat early)) (nodes_by takens number owner turn part (reply_of have repeat early))
      reply_case true early r e = rw where_repeat becomes_same
      reply_case false true r e = rw where_early becomes_same
      reply_case false false r e =
          let more = leb-false _ _ r in
          let no_more = ltb-false _ _ e in
          rw where_applied (taken_next (omega (arith, more, no_more)))

      pub carried : Becomes (after (reply_of have (nat_le turn have) (nat_lt (have + 1) turn)))
          (nodes_by takens number owner turn part (reply_of have (nat_le turn have) (nat_lt (have + 1) turn)))
      carried = reply_case (nat_le turn have) (nat_lt (have + 1) turn) refl refl

    -- ---- one message of an owner

    module _ (owner : ℕ) (has : owner < owners_in size) (turn : ℕ) (sent : turn ≤ length (journal_of journals owner)) where
      abbrev journal : List Change
      journal = journal_in owners owner

      pub sender_is : IsSenderOf size owner flows (get_or owners owner no_sender)
      sender_is = is.senders owner has

      pub table_is : IsTableOf size owner flows journal (shard_in node owner)
      table_is = node_is.tables owner has

      pub fib_is : IsFibOf size number owner flows journal (fib_in node owner)
      fib_is = node_is.fibs owner has

      -- a node's reply is the model's, and the cluster goes on as the model's does
      pub record Carries (part : Part) (reply : Reply) (new : NodeState) : Type 0 where
        pub answers : reply ≡ carry_reply (length (journal_of journals owner)) (turns_taken part takens number owner) turn
        pub becomes : Becomes new (after_carry journals takens number owner turn part)

      carries : (part : Part) (have : ℕ) → turns_taken part takens number owner ≡ have → (reply : Reply) (new : NodeState) → reply ≡ taking_reply have turn
          → Becomes new (nodes_by takens number owner turn part reply) → Carries part reply new
      unfolding after_carry
      carries part have have_is reply new is_reply becomes =
          let same : carry_reply (length (journal_of journals owner)) (turns_taken part takens number owner) turn ≡ taking_reply have turn =
          ap (λ (h : ℕ). carry_reply (length (journal_of journals owner)) h turn) have_is ∙ reply_is (length (journal_of journals owner)) have turn sent
          ∙ sym (reply_is turn have turn (omega arith)) in
          let whole = is_reply ∙ sym same in
          record { answers = whole; becomes = subst (λ (r : Reply). Becomes new (nodes_by takens number owner turn part r)) whole becomes }

      module _ (message : TableMessage) (of : IsTableMessageOf size owner flows journal turn message) where
        abbrev shard : ShardState
        shard = shard_in node owner

        owner_said : message.owner ≡ owner
        owner_said = of.says.of_owner

        pub table_carries : (reply : Reply) → reply ≡ taking_reply shard.taken message.turn → (new : NodeState) → new ≡ after_table node message reply → Carries Table reply new
        table_carries reply is_reply new is_new =
            let turn_is : message.turn ≡ turn = table_turn size is.shape owner flows journal sender_is.own shard table_is turn message of in
            let said : reply ≡ taking_reply shard.taken turn = is_reply ∙ ap (taking_reply shard.taken) turn_is in
            let short : reply ≡ reply_of shard.taken (nat_le turn shard.taken) (nat_lt (shard.taken + 1) turn) = said ∙ reply_is turn shard.taken turn (omega arith) in
            carries Table shard.taken (table_turns_is owner (owner_low owner has)) reply new said
            (rw (is_new, short)
            (carried owner Table shard.taken turn (after_table node message Applied)
            (λ next. subst (λ (o : ℕ). IsNodeOf size flows (journal_in owners) number (record node { shards = set node.shards o (with_content (shard_in node o) message) })) (sym owner_said)
            (set_table size flows (journal_in owners) number node node_is owner (with_content shard message)
            (table_goes_on size is.shape owner flows journal sender_is.own shard table_is turn message of next)))
            (subst (λ (o : ℕ). taken_in size.nodes (record node { shards = set node.shards o (with_content (shard_in node o) message) }) ≡ with_taken Table (taken_in size.nodes node) owner (shard.taken + 1)) (sym owner_said)
            (set_table_taken size.nodes node owner (with_content shard message) (omega (arith, node_is.one_table_each))))
            (after_table node message) refl refl refl))

      module _ (message : FibMessage) (of : IsFibMessageOf size number owner flows journal turn message) where
        fib_owner_said : message.owner ≡ owner
        fib_owner_said = ap (λ (m : FibMessage). m.owner) of.says

        pub fib_carries : (reply : Reply) → reply ≡ taking_reply (fib_in node owner).taken message.turn → (new : NodeState) → new ≡ after_fib node message reply → Carries Fib reply new
        fib_carries reply is_reply new is_new =
            let have = (fib_in node owner).taken in
            let turn_is : message.turn ≡ turn = fib_turn size number owner flows journal sender_is.own (fib_in node owner) fib_is turn message of in
            let said : reply ≡ taking_reply have turn = is_reply ∙ ap (taking_reply have) turn_is in
            let short : reply ≡ reply_of have (nat_le turn have) (nat_lt (have + 1) turn) = said ∙ reply_is turn have turn (omega arith) in
            carries Fib have (fib_turns_is owner (owner_low owner has)) reply new said
            (rw (is_new, short)
            (carried owner Fib have turn (after_fib node message Applied)
            (λ next. subst (λ (o : ℕ). IsNodeOf size flows (journal_in owners) number (record node { fibs = set node.fibs o (with_turn (fib_in node o) message) })) (sym fib_owner_said)
            (set_fib size flows (journal_in owners) number node node_is owner (with_turn (fib_in node owner) message)
            (fib_goes_on size number owner flows journal sender_is.own (fib_in node owner) fib_is turn message of next)))
            (subst (λ (o : ℕ). taken_in size.nodes (record node { fibs = set node.fibs o (with_turn (fib_in node o) message) }) ≡ with_taken Fib (taken_in size.nodes node) owner (have + 1)) (sym fib_owner_said)
            (set_fib_taken size.nodes node owner (with_turn (fib_in node owner) message) (omega (arith, node_is.one_fib_each))))
            (after_fib node message) refl refl refl))
