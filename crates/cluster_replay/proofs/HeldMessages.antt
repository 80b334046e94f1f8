-- A turn's message for tables, by a cluster's fields and by what a contract sees of it.
use Rattle.std.proofs.Common.{◌≡◌, ◌∙◌, ◌<◌, ◌≤◌, ℕ, Bool, List, length, map, get_or, sym, subst, arith}
use Rattle.std.proofs.lemmas.List.{get_or_default}
use Rattle.flow_types.specs.declared.record.Flow.{Flow}
use Rattle.flow_types.specs.Size.{Size, owners_in}
use Rattle.group_history.specs.declared.change.Change.{Change}
use Rattle.delta_codec.specs.declared.message.TableMessage.{TableMessage}
use Rattle.delta_codec.specs.Messages.{IsTableMessageOf, TableMessageFits}
use Rattle.run_model.specs.State.{journal_of}
use Rattle.turn_log.specs.Sender.{IsSenderOf, SenderState, changes_in}
use Rattle.cluster_replay.specs.Cluster.{IsCluster, NodeStore, RunState, cluster_of, journal_in, journals_in, no_sender, node_state_of}
use Rattle.cluster_replay.specs.Turn.{IsTurnsTableMessage}
use Rattle.cluster_replay.proofs.Carried.{journal_is, owner_low}
use Rattle.cluster_replay.proofs.Held.{changes_here, held, owner_there, sender_stands, sent_here, turn_there}

module _ (size : Size) (flows : List Flow) (owners : List SenderState) (stores : List NodeStore) (is : IsCluster size flows owners (map node_state_of stores))
    (lacks : Bool) (run : RunState) (view : held size flows owners stores is lacks run ≡ run) (owner turn : ℕ) (owns : owner < owners_in run.cluster.opened.size) where
  has : owner < owners_in size
  has = owner_there size flows owners stores is lacks run view owner owns

  pub owner_index : owner < length owners
  owner_index = omega (arith, has, is.one_owner_each)

  -- what the owner has accepted
  journal_here : journal_of (journals_in size owners) owner ≡ journal_in owners owner
  journal_here = journal_is size flows owners (map node_state_of stores) is owner (owner_low size flows owners (map node_state_of stores) is owner has)

  -- ---- as the owner among the fields tells it

  module _ (sender : SenderState) (sender_is : sender ≡ get_or owners owner sender) where
    pub turn_known : turn ≤ length (journal_of run.cluster.journals owner) → turn ≤ length (changes_in sender)
    turn_known sent = sent_here size flows owners stores is lacks run owner has sender sender_is turn (turn_there size flows owners stores is lacks run view owner turn sent)

    pub stands : IsSenderOf size owner flows sender
    stands = sender_stands size flows owners stores is lacks run owner has sender sender_is

    pub message_told : (message : TableMessage) → TableMessageFits sender.rib.size message → IsTableMessageOf size owner flows (changes_in sender) turn message
        → IsTurnsTableMessage run.cluster owner turn message
    unfolding cluster_of
    message_told message fits of =
        subst (λ (r : RunState). IsTurnsTableMessage r.cluster owner turn message) view
        (record {
          fits = subst (λ (s : Size). TableMessageFits s message) stands.sized fits;
          of_turn =
              subst (λ (changes : List Change). IsTableMessageOf size owner flows changes turn message)
              (changes_here size flows owners stores is lacks run owner has sender sender_is ∙ sym journal_here) of;
        })

  -- ---- as a contract tells it

  abbrev pub teller : SenderState
  teller = get_or owners owner no_sender

  pub teller_is : teller ≡ get_or owners owner teller
  teller_is = get_or_default owners owner no_sender teller owner_index

  module _ (message : TableMessage) (told : IsTurnsTableMessage run.cluster owner turn message) where
    told_here : IsTurnsTableMessage (held size flows owners stores is lacks run).cluster owner turn message
    told_here = subst (λ (r : RunState). IsTurnsTableMessage r.cluster owner turn message) (sym view) told

    pub message_fits : TableMessageFits teller.rib.size message
    unfolding cluster_of
    message_fits = subst (λ (s : Size). TableMessageFits s message) (sym (stands teller teller_is).sized) told_here.fits

    pub message_is : IsTableMessageOf size owner flows (changes_in teller) turn message
    unfolding cluster_of
    message_is = subst (λ (changes : List Change). IsTableMessageOf size owner flows changes turn message) journal_here told_here.of_turn
