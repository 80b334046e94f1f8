-- What an owner's answer to an update tells of a cluster's fields.
use Rattle.std.proofs.Common.{◌≡◌, ◌∙◌, ◌<◌, ℕ, Bool, List, Some, None, Ok, Err, length, map, get_or, set, refl, sym, ap, subst, arith}
use Rattle.std.specs.Prelude.{IfOk, IfSome, OnErr, OnOk, Result}
use Rattle.std.specs.Result.{result_ok}
use Rattle.std.proofs.lemmas.List.{get_or_default, set-get_or}
use Rattle.flow_types.specs.declared.record.Flow.{Flow}
use Rattle.flow_types.specs.Size.{Size, owners_in}
use Rattle.group_history.specs.declared.refused.UpdateRefused.{UpdateRefused}
use Rattle.group_history.specs.declared.refused.UpdateRefused.TheVariants.{Spent, Absent, BlockFull, RowsFull, OutOfMemory}
use Rattle.group_history.specs.declared.update.Update.{Update}
use Rattle.group_history.specs.Acceptance.{updated_key}
use Rattle.rib_owner.specs.Turn.{node_entered}
use Rattle.group_search.specs.Owned.{IsOwned}
use Rattle.turn_log.proofs.Accepting.{answers_known, as_seen, stands_known}
use Rattle.run_model.specs.State.{Journals}
use Rattle.run_model.specs.Updates.{after_update, update_reply}
use Rattle.run_model.specs.declared.reply.Reply.{Reply}
use Rattle.turn_log.specs.Sender.{AnswersSender, IsSenderOf, SenderState, changes_in}
use Rattle.cluster_replay.specs.Cluster.{IsCluster, NodeStore, RunState, cluster_of, journals_in, no_sender, node_state_of, told_of, with_journals}
use Rattle.cluster_replay.proofs.Held.{held}
use Rattle.cluster_replay.proofs.Owners.{Updated, owner_has, owner_is, updated}

module _ (size : Size) (flows : List Flow) (owners : List SenderState) (stores : List NodeStore) (is : IsCluster size flows owners (map node_state_of stores))
    (lacks : Bool) (run : RunState) (view : held size flows owners stores is lacks run ≡ run) (update : Update)
    (owner : ℕ) (owner_said : owner ≡ owner_is size flows owners (map node_state_of stores) is update) where
  pub owner_index : owner < length owners
  owner_index = omega (arith, owner_said, owner_has size flows owners (map node_state_of stores) is update, is.one_owner_each)

  pub owner_owns : owner < owners_in size
  owner_owns = omega (arith, owner_said, owner_has size flows owners (map node_state_of stores) is update)

  module _ (sender : SenderState) (sender_is : sender ≡ get_or owners owner sender) where
    sender_there : sender ≡ get_or owners owner no_sender
    sender_there = sender_is ∙ get_or_default owners owner sender no_sender owner_index

    pub sender_owns : IsSenderOf size owner flows sender
    sender_owns = subst (IsSenderOf size owner flows) (sym sender_there) (is.senders owner owner_owns)

    -- as it is asked to accept the update, with the cluster's flows
    pub stands_seen : (given : List Flow) → given ≡ flows → IsSenderOf sender.rib.size sender.rib.number given sender
    stands_seen given same = subst (λ (fs : List Flow). IsSenderOf sender.rib.size sender.rib.number fs sender) (sym same) (as_seen size owner flows sender sender_owns)

    pub owns_seen : IsOwned size owner (updated_key update) → IsOwned sender.rib.size sender.rib.number (updated_key update)
    owns_seen owns = rw (sender_owns.sized, sender_owns.numbered) owns

    -- the cluster with the owner as it is now
    abbrev pub with_owner : SenderState → RunState
    with_owner new = record { cluster = cluster_of size flows (set owners owner new) (map node_state_of stores); lacks_memory = lacks }

    pub record HasUpdated {E : Type 0} (new : SenderState) (result : Result Reply E) : Type 0 where
      pub stands : IsCluster size flows (set owners owner new) (map node_state_of stores)
      pub replies : IfOk result (λ reply. reply ≡ update_reply run.cluster.opened run.cluster.journals update)
      pub goes_on : OnOk result (with_owner new ≡ with_journals run (after_update run.cluster.opened run.cluster.journals update))
      pub refused : OnErr result (with_owner new ≡ run)

    lacked : (answer : Result ℕ UpdateRefused) → told_of owner answer ≡ None → answer ≡ Err OutOfMemory
    lacked (Ok turn) e = cc
    lacked (Err (Spent limit)) e = cc
    lacked (Err Absent) e = cc
    lacked (Err (BlockFull block)) e = cc
    lacked (Err (RowsFull block needed free)) e = cc
    lacked (Err OutOfMemory) e = refl

    module _ (given : List Flow) (same_flows : given ≡ flows) (new : SenderState) (new_seen : IsSenderOf sender.rib.size sender.rib.number given new)
        (answer : Result ℕ UpdateRefused) (answers_seen : AnswersSender sender.rib.size given (changes_in sender) update (changes_in new) answer)
        (kept : OnErr answer (new ≡ sender)) (node : IfSome (node_entered update) (λ node. node < size.nodes)) where
      new_is : IsSenderOf size owner flows new
      new_is = stands_known size owner flows sender new sender_owns (subst (λ (fs : List Flow). IsSenderOf sender.rib.size sender.rib.number fs new) same_flows new_seen)

      answers : AnswersSender size flows (changes_in sender) update (changes_in new) answer
      answers =
          answers_known size owner flows sender new sender_owns update answer
          (subst (λ (fs : List Flow). AnswersSender sender.rib.size fs (changes_in sender) update (changes_in new) answer) same_flows answers_seen)

      -- at the owner that the code has found
      there : sender ≡ get_or owners (owner_is size flows owners (map node_state_of stores) is update) no_sender
      there = sender_there ∙ ap (λ (o : ℕ). get_or owners o no_sender) owner_said

      whole : Updated size flows owners (map node_state_of stores) is update new answer
      whole =
          updated size flows owners (map node_state_of stores) is update new (subst (λ (o : ℕ). IsSenderOf size o flows new) owner_said new_is) answer
          (subst (λ (s : SenderState). AnswersSender size flows (changes_in s) update (changes_in new) answer) there answers)
          (subst (λ (s : SenderState). OnErr answer (new ≡ s)) there kept) node

      stands_now : IsCluster size flows (set owners owner new) (map node_state_of stores)
      stands_now = subst (λ (o : ℕ). IsCluster size flows (set owners o new) (map node_state_of stores)) (sym owner_said) whole.stands

      said_by : (reply : Reply) → told_of owner answer ≡ Some reply → told_of (owner_is size flows owners (map node_state_of stores) is update) answer ≡ Some reply
      said_by reply said = ap (λ (o : ℕ). told_of o answer) (sym owner_said) ∙ said

      ok_case : (reply : Reply) → told_of owner answer ≡ Some reply
          → (reply ≡ update_reply run.cluster.opened run.cluster.journals update) × (with_owner new ≡ with_journals run (after_update run.cluster.opened run.cluster.journals update))
      unfolding cluster_of
      ok_case reply said = (
        subst (λ (r : RunState). reply ≡ update_reply r.cluster.opened r.cluster.journals update) view (whole.replies reply (said_by reply said)),
        subst (λ (r : RunState). with_owner new ≡ with_journals r (after_update r.cluster.opened r.cluster.journals update)) view
            (ap (λ (journals : Journals). with_journals (held size flows owners stores is lacks run) journals)
            (ap (λ (o : ℕ). journals_in size (set owners o new)) owner_said ∙ whole.goes_on reply (said_by reply said))),
      )

      same_run : new ≡ sender → with_owner new ≡ run
      same_run same = ap (λ (all : List SenderState). let r : RunState = record { cluster = cluster_of size flows all (map node_state_of stores); lacks_memory = lacks } in r)
          (ap (set owners owner) (same ∙ sender_is) ∙ set-get_or owners owner sender) ∙ view

      pub has_updated : {E : Type 0} (result : Result Reply E) → result_ok result ≡ told_of owner answer → HasUpdated new result
      has_updated (Ok reply) told =
          let both = ok_case reply (sym told) in
          record { stands = stands_now; replies = both.0; goes_on = both.1; refused = tt }
      has_updated (Err why) told =
          record { stands = stands_now; replies = tt; goes_on = tt; refused = same_run (subst (λ (a : Result ℕ UpdateRefused). OnErr a (new ≡ sender)) (lacked answer (sym told)) kept) }

-- the node that an update names is one of the shape's
module _ (size : Size) (flows : List Flow) (owners : List SenderState) (stores : List NodeStore) (is : IsCluster size flows owners (map node_state_of stores))
    (lacks : Bool) (run : RunState) (view : held size flows owners stores is lacks run ≡ run) (update : Update) where
  pub node_known : IfSome (node_entered update) (λ node. node < run.cluster.opened.size.nodes) → IfSome (node_entered update) (λ node. node < size.nodes)
  unfolding cluster_of
  node_known low = subst (λ (r : RunState). IfSome (node_entered update) (λ node. node < r.cluster.opened.size.nodes)) (sym view) low
