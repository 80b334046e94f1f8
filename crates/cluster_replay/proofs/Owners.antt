-- What an update makes of a cluster.
use Rattle.std.proofs.Common.{◌≡◌, ◌≢◌, ◌∙◌, ◌+◌, ◌%◌, ◌<◌, ◌≤◌, ◌++◌, ◌∷◌, ℕ, List, [], Option, Some, None, Ok, Err, ⊎_elim, length, get_or, set, refl, sym, ap, subst, arith}
use Rattle.std.specs.Prelude.{IfSome, OnErr, Result}
use Rattle.std.proofs.Math.Nat.{mod-lt}
use Rattle.std.proofs.lemmas.Bool.{cases_eq}
use Rattle.std.proofs.lemmas.List.{get_or-set_other, get_or-set_same, length-set, set-get_or}
use Rattle.std.proofs.lemmas.List.Elements.{All-push}
use mathlib.Core.List.{IsPrefix}
use Rattle.flow_types.proofs.Prefixes.{prefix_self, prefix_more}
use Rattle.flow_types.specs.declared.record.Flow.{Flow}
use Rattle.flow_types.specs.Size.{Size, owners_in}
use Rattle.hash_family.specs.Hash.{place}
use Rattle.group_search.specs.Home.{home}
use Rattle.group_history.specs.declared.change.Change.{Change}
use Rattle.group_history.specs.declared.refused.UpdateRefused.{UpdateRefused}
use Rattle.group_history.specs.declared.refused.UpdateRefused.TheVariants.{Spent, Absent, BlockFull, RowsFull, OutOfMemory}
use Rattle.group_history.specs.declared.update.Update.{Update}
use Rattle.group_history.specs.declared.update.Update.TheVariants.{Set, Del}
use Rattle.group_history.specs.Acceptance.{change_of, grounds, refusal, updated_key}
use Rattle.rib_owner.specs.Turn.{node_entered}
use Rattle.replica_shard.specs.Shard.{shard_after}
use Rattle.partial_fib.specs.Fib.{fib_after}
use Rattle.run_model.specs.State.{ClusterOpening, journal_of}
use Rattle.run_model.specs.Updates.{after_update, journals_by, reply_by, update_owner, update_reply, verdict}
use Rattle.run_model.specs.declared.reply.Reply.{Reply}
use Rattle.run_model.specs.declared.reply.Reply.TheVariants.{Accepted, Refused}
use Rattle.run_model.proofs.Cuts.{grown-length, grown-take}
use Rattle.turn_log.specs.Sender.{AnswersSender, IsSenderOf, SenderState, changes_in}
use Rattle.cluster_replay.specs.Cluster.{GoToNodes, IsCluster, IsFibOf, IsNodeOf, IsTableOf, NodeState, fib_in, journal_in, journals_in, no_node, no_sender, shard_in, told_of}
use Rattle.cluster_replay.proofs.Carried.{journal_is, owner_low}
use Rattle.cluster_replay.proofs.NodeFacts.{each_set}
use Rattle.cluster_open.proofs.Numbered.{set_number}

-- ---- journals that grow

module _ (size : Size) (flows : List Flow) (before after : ℕ → List Change) (grows : (owner : ℕ) → owner < owners_in size → IsPrefix (before owner) (after owner))
    (number : ℕ) (node : NodeState) (is : IsNodeOf size flows before number node) where
  table_grows : (owner : ℕ) → owner < owners_in size → IsTableOf size owner flows (after owner) (shard_in node owner)
  table_grows owner has =
      let shard = shard_in node owner in
      let old = is.tables owner has in
      record {
        sent = omega (arith, old.sent, grown-length (before owner) (after owner) (grows owner has));
        stands = old.stands ∙ ap (shard_after size owner flows) (sym (grown-take (before owner) (after owner) shard.taken (grows owner has) old.sent));
      }

  fib_grows : (owner : ℕ) → owner < owners_in size → IsFibOf size number owner flows (after owner) (fib_in node owner)
  fib_grows owner has =
      let fib = fib_in node owner in
      let old = is.fibs owner has in
      record {
        sent = omega (arith, old.sent, grown-length (before owner) (after owner) (grows owner has));
        stands = old.stands ∙ ap (fib_after size number owner flows) (sym (grown-take (before owner) (after owner) fib.taken (grows owner has) old.sent));
      }

  node_grows : IsNodeOf size flows after number node
  node_grows = record { one_table_each = is.one_table_each; one_fib_each = is.one_fib_each; tables = table_grows; fibs = fib_grows }

-- ---- the owner of a key

pub owner_of_block : (size : Size) (block : ℕ) → 1 ≤ size.nodes → block < size.blocks → block % size.nodes < owners_in size
owner_of_block size block some low = let below : block % size.nodes < size.nodes = mod-lt block (omega arith) in omega (arith, below)

-- ---- an owner that has answered

module _ (size : Size) (flows : List Flow) (owners : List SenderState) (nodes : List NodeState) (is : IsCluster size flows owners nodes)
    (owner : ℕ) (has : owner < owners_in size) (new : SenderState) where
  abbrev pub old : SenderState
  old = get_or owners owner no_sender

  journal_new : journal_in (set owners owner new) owner ≡ changes_in new
  journal_new = ap changes_in (get_or-set_same owners owner new no_sender (omega (arith, is.one_owner_each)))

  journal_other : (other : ℕ) → other ≢ owner → journal_in (set owners owner new) other ≡ journal_in owners other
  journal_other other away = ap changes_in (get_or-set_other owners owner other new no_sender away)

  all_grow : IsPrefix (changes_in old) (changes_in new) → (other : ℕ) → IsPrefix (journal_in owners other) (journal_in (set owners owner new) other)
  all_grow grows other =
      ⊎_elim
      (λ (here : other ≡ owner).
      subst (λ (o : ℕ). IsPrefix (journal_in owners o) (journal_in (set owners owner new) o)) (sym here) (subst (IsPrefix (changes_in old)) (sym journal_new) grows))
      (λ (away : other ≢ owner). subst (IsPrefix (journal_in owners other)) (sym (journal_other other away)) (prefix_self (journal_in owners other)))
      (cases_eq other owner)

  pub set_owner : IsSenderOf size owner flows new → GoToNodes size.nodes (changes_in new) → IsPrefix (changes_in old) (changes_in new) → IsCluster size flows (set owners owner new) nodes
  set_owner sender to_nodes grows = record {
    shape = is.shape;
    handled = is.handled;
    one_owner_each = length-set owners owner new ∙ is.one_owner_each;
    senders = each_set (λ (o : ℕ) (s : SenderState). IsSenderOf size o flows s) (owners_in size) owners owner new no_sender is.one_owner_each is.senders sender;
    to_nodes =
        each_set (λ (o : ℕ) (s : SenderState). GoToNodes size.nodes (changes_in s)) (owners_in size) owners owner new no_sender is.one_owner_each is.to_nodes to_nodes;
    one_node_each = is.one_node_each;
    each_node = λ number low. node_grows size flows (journal_in owners) (journal_in (set owners owner new)) (λ o there. all_grow grows o) number (get_or nodes number no_node) (is.each_node number low);
  }

  pub set_journals : journals_in size (set owners owner new) ≡ set (journals_in size owners) owner (changes_in new)
  set_journals =
      set_number size.nodes (journal_in owners) (journal_in (set owners owner new)) owner [] (λ i low away. journal_other i away)
      ∙ ap (set (journals_in size owners) owner) journal_new

-- ---- an update

module _ (size : Size) (flows : List Flow) (owners : List SenderState) (nodes : List NodeState) (is : IsCluster size flows owners nodes) (update : Update) where
  abbrev opening : ClusterOpening
  opening = record { size = size; flows = flows }

  abbrev pub owner_is : ℕ
  owner_is = (place size.blocks (updated_key update)).block % size.nodes

  pub owner_has : owner_is < owners_in size
  unfolding place
  owner_has = let some = is.shape.enough_nodes in let blocks = is.shape.enough_blocks in owner_of_block size (place size.blocks (updated_key update)).block (omega (arith, some)) (omega (arith, blocks))

  same_owner : update_owner opening update ≡ owner_is
  unfolding home
  same_owner = refl

  abbrev sender : SenderState
  sender = get_or owners owner_is no_sender

  journal_there : journal_of (journals_in size owners) (update_owner opening update) ≡ changes_in sender
  journal_there = ap (journal_of (journals_in size owners)) same_owner ∙ journal_is size flows owners nodes is owner_is (owner_low size flows owners nodes is owner_is owner_has)

  abbrev why : Option UpdateRefused
  why = refusal update (grounds size flows (changes_in sender) update)

  verdict_is : verdict opening (journals_in size owners) update ≡ why
  verdict_is = ap (λ (changes : List Change). refusal update (grounds size flows changes update)) journal_there

  reply_for : (said : Option UpdateRefused) → why ≡ said → update_reply opening (journals_in size owners) update ≡ reply_by owner_is (length (changes_in sender)) said
  unfolding update_reply
  reply_for said is_said =
      ap (λ (changes : List Change). reply_by (update_owner opening update) (length changes) (verdict opening (journals_in size owners) update)) journal_there
      ∙ ap (λ (o : ℕ). reply_by o (length (changes_in sender)) (verdict opening (journals_in size owners) update)) same_owner
      ∙ ap (reply_by owner_is (length (changes_in sender))) (verdict_is ∙ is_said)

  journals_for : (said : Option UpdateRefused) → why ≡ said
      → after_update opening (journals_in size owners) update ≡ journals_by (journals_in size owners) owner_is (change_of size flows update) said
  unfolding after_update
  journals_for said is_said =
      ap (λ (o : ℕ). journals_by (journals_in size owners) o (change_of size flows update) (verdict opening (journals_in size owners) update)) same_owner
      ∙ ap (journals_by (journals_in size owners) owner_is (change_of size flows update)) (verdict_is ∙ is_said)

  -- what holds of the cluster after the owner's answer
  pub record Updated (new : SenderState) (answer : Result ℕ UpdateRefused) : Type 0 where
    pub stands : IsCluster size flows (set owners owner_is new) nodes
    pub replies : (reply : Reply) → told_of owner_is answer ≡ Some reply → reply ≡ update_reply opening (journals_in size owners) update
    pub goes_on : (reply : Reply) → told_of owner_is answer ≡ Some reply → journals_in size (set owners owner_is new) ≡ after_update opening (journals_in size owners) update

  module _ (new : SenderState) (sender_is : IsSenderOf size owner_is flows new) where
    accepted : (turn : ℕ) → why ≡ None → turn ≡ length (changes_in sender) + 1 → changes_in new ≡ changes_in sender ++ change_of size flows update ∷ []
        → IfSome (node_entered update) (λ node. node < size.nodes) → Updated new (Ok turn)
    accepted turn none next after node = record {
      stands =
          set_owner size flows owners nodes is owner_is owner_has new sender_is
          (subst (GoToNodes size.nodes) (sym after) (All-push (λ (c : Change). IfSome c.to (λ to. to.0 < size.nodes)) (changes_in sender) (change_of size flows update) (is.to_nodes owner_is owner_has) (goes update node)))
          (subst (IsPrefix (changes_in sender)) (sym after) (prefix_more (changes_in sender) (change_of size flows update ∷ [])));
      replies = λ reply said. sym (reply_for None none ∙ ap (Accepted owner_is) (sym next) ∙ some_is _ _ said);
      goes_on = λ reply said.
          set_journals size flows owners nodes is owner_is owner_has new
          ∙ ap (set (journals_in size owners) owner_is) (after ∙ ap (λ (changes : List Change). changes ++ change_of size flows update ∷ []) (sym (ap (journal_of (journals_in size owners)) (sym same_owner) ∙ journal_there)))
          ∙ sym (journals_for None none);
    }
      where
        goes : (update : Update) → IfSome (node_entered update) (λ node. node < size.nodes) → IfSome (change_of size flows update).to (λ to. to.0 < size.nodes)
        goes (Set flow) low = low
        goes (Del key) low = tt

        some_is : (a b : Reply) → Some a ≡ Some b → a ≡ b
        some_is a b e = cc

    same : new ≡ sender → IsCluster size flows (set owners owner_is new) nodes
    same kept = subst (λ (all : List SenderState). IsCluster size flows all nodes) (sym (ap (set owners owner_is) kept ∙ set-get_or owners owner_is no_sender)) is

    stays_by : (cause : UpdateRefused) → why ≡ Some cause → told_of owner_is (Err cause) ≡ Some (Refused cause) → new ≡ sender → Updated new (Err cause)
    stays_by cause is_why told kept = record {
      stands = same kept;
      replies = λ reply said. sym (reply_for (Some cause) is_why ∙ some_is _ _ (sym told ∙ said));
      goes_on = λ reply said.
          ap (journals_in size) (ap (set owners owner_is) kept ∙ set-get_or owners owner_is no_sender) ∙ sym (journals_for (Some cause) is_why);
    }
      where
        some_is : (a b : Reply) → Some a ≡ Some b → a ≡ b
        some_is a b e = cc

    pub updated : (answer : Result ℕ UpdateRefused) → AnswersSender size flows (changes_in sender) update (changes_in new) answer → OnErr answer (new ≡ sender)
        → IfSome (node_entered update) (λ node. node < size.nodes) → Updated new answer
    updated (Ok turn) answers kept node = accepted turn answers.0 answers.1 answers.2 node
    updated (Err (Spent limit)) answers kept node = stays_by (Spent limit) answers refl kept
    updated (Err Absent) answers kept node = stays_by Absent answers refl kept
    updated (Err (BlockFull block)) answers kept node = stays_by (BlockFull block) answers refl kept
    updated (Err (RowsFull block needed free)) answers kept node = stays_by (RowsFull block needed free) answers refl kept
    updated (Err OutOfMemory) answers kept node = record { stands = same kept; replies = λ reply said. cc; goes_on = λ reply said. cc }
