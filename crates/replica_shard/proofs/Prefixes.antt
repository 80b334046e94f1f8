-- A shard at a first part of its list.
use Rattle.std.proofs.Common.{ℕ, zero, suc, ◌≡◌, ◌∙◌, ◌≤◌, List, [], ◌∷◌, ◌++◌, length, map, take, Some, sym, ap, subst, append_assoc, append-nil}
use Rattle.std.specs.Prelude.{All, fold}
use Rattle.std.specs.List.{slice_get}
use Rattle.std.proofs.lemmas.List.{length-take-le, take-map}
use Rattle.flow_types.specs.declared.record.Flow.{Flow}
use Rattle.flow_types.specs.Size.{Size}
use Rattle.group_search.specs.declared.published.Publication.{Publication}
use Rattle.group_history.specs.declared.change.Change.{Change}
use Rattle.delta_codec.specs.declared.message.TableMessage.{TableMessage}
use Rattle.replica_shard.specs.Owners.{publication_of}
use Rattle.replica_shard.specs.Shard.{ShardState, shard_after, with_content}
use Rattle.replica_shard.specs.Store.{ShardStore, shard_state_of}
use Rattle.delta_codec.specs.Journals.{IsOfOwner}
use Rattle.replica_shard.specs.Turns.{AreTableMessagesOf, IsAfterTurns}
use Rattle.replica_shard.proofs.DeltaFacts.{tell}
use Rattle.replica_shard.proofs.Taken.{with_one_more}
use Rattle.replica_shard.proofs.TurnFacts.{turns_make}

-- what stands at a place of a first part stands there in the whole
there_in_whole : {X : Type 0} (n i : ℕ) (xs : List X) (x : X) → slice_get (take n xs) i ≡ Some x → slice_get xs i ≡ Some x
there_in_whole zero i xs x there = absurd cc
there_in_whole (suc n) i [] x there = there
there_in_whole (suc n) zero (first ∷ xs) x there = there
there_in_whole (suc n) (suc i) (first ∷ xs) x there = there_in_whole n i xs x there

module _ (opened : ShardStore) where
  abbrev with_list : List Publication → ShardStore
  with_list list = record opened { list = list }

  -- a shard with the records of messages has taken these
  taken_after : (before : List Publication) (messages : List TableMessage)
      → shard_state_of (with_list (before ++ map publication_of messages)) ≡ fold with_content (shard_state_of (with_list before)) messages
  taken_after before [] = ap (λ (list : List Publication). shard_state_of (with_list list)) (append-nil before)
  taken_after before (message ∷ messages) =
      ap (λ (list : List Publication). shard_state_of (with_list list)) (sym (append_assoc before (publication_of message ∷ []) (map publication_of messages)))
      ∙ taken_after (before ++ publication_of message ∷ []) messages
      ∙ ap (λ (shard : ShardState). fold with_content shard messages) (with_one_more (with_list before) message)

  module _ (size : Size) (owner : ℕ) (flows : List Flow) (changes : List Change) (own : All (IsOfOwner size owner) changes)
      (first : shard_state_of (with_list []) ≡ shard_after size owner flows []) where
    after_all : (messages : List TableMessage) → AreTableMessagesOf size owner flows changes messages
        → IsAfterTurns size owner flows changes (length messages) (with_list (map publication_of messages))
    after_all messages of = record {
      state =
          taken_after [] messages ∙ ap (λ (shard : ShardState). fold with_content shard messages) first
          ∙ turns_make size owner flows changes messages own of;
      tells = tell size owner flows changes messages of;
    }

pub prefixes : (size : Size) (owner : ℕ) (flows : List Flow) (changes : List Change) (messages : List TableMessage) (opened : ShardStore)
    → All (IsOfOwner size owner) changes → AreTableMessagesOf size owner flows changes messages → shard_state_of (record opened { list = [] }) ≡ shard_after size owner flows []
    → (turns : ℕ) → turns ≤ length messages → IsAfterTurns size owner flows changes turns (record opened { list = take turns (map publication_of messages) })
prefixes size owner flows changes messages opened own of first turns within =
    subst (λ (list : List Publication). IsAfterTurns size owner flows changes turns (record opened { list = list })) (sym (take-map publication_of turns messages))
    (subst (λ (n : ℕ). IsAfterTurns size owner flows changes n (record opened { list = map publication_of (take turns messages) })) (length-take-le turns messages within)
    (after_all opened size owner flows changes own first (take turns messages)
    (λ i message there. of i message (there_in_whole turns i messages message there))))
