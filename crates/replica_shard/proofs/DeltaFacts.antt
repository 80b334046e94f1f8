-- The messages of an owner's first turns tell the first of its deltas.
use Rattle.std.proofs.Common.{ℕ, zero, suc, ◌≡◌, ◌∙◌, ◌+◌, List, [], ◌∷◌, ◌++◌, length, map, take, drop, Some, refl, sym, ap, subst, arith, append_assoc, append-nil}
use Rattle.std.specs.List.{slice_get}
use Rattle.std.proofs.lemmas.Option.{same_Some}
use Rattle.flow_types.specs.declared.record.Flow.{Flow}
use Rattle.flow_types.specs.Size.{Size}
use Rattle.group_history.specs.declared.change.Change.{Change}
use Rattle.delta_codec.specs.declared.message.TableMessage.{TableMessage}
use Rattle.delta_codec.specs.Deltas.{Delta, delta_of, delta_told, deltas, deltas_after}
use Rattle.delta_codec.specs.Messages.{IsTableMessage, IsTableMessageOf}
use Rattle.replica_shard.specs.Owners.{publication_of}
use Rattle.replica_shard.specs.Turns.{AreTableMessagesOf}

-- a list from an element on begins with it
from_there : {X : Type 0} (xs : List X) (i : ℕ) (x : X) → slice_get xs i ≡ Some x → drop i xs ≡ x ∷ drop (suc i) xs
from_there [] zero x there = cc
from_there [] (suc i) x there = cc
from_there (first ∷ xs) zero x there = let same : first ≡ x = same_Some first x there in ap (λ y. y ∷ xs) same
from_there (first ∷ xs) (suc i) x there = from_there xs i x there

module _ (size : Size) (flows : List Flow) where
  -- the i-th change tells its delta after those before it
  delta_at : (before later : List Change) (i : ℕ) (change : Change) → slice_get later i ≡ Some change
      → slice_get (deltas_after size flows before later) i ≡ Some (delta_of size flows (before ++ take i later) change)
  unfolding deltas_after
  delta_at before [] zero change there = cc
  delta_at before [] (suc i) change there = cc
  delta_at before (first ∷ later) zero change there =
      let same : first ≡ change = same_Some first change there in
      ap (λ (c : Change). Some (delta_of size flows before c)) same
      ∙ ap (λ (b : List Change). Some (delta_of size flows b change)) (sym (append-nil before))
  delta_at before (first ∷ later) (suc i) change there =
      delta_at (before ++ first ∷ []) later i change there
      ∙ ap (λ (b : List Change). Some (delta_of size flows b change)) (append_assoc before (first ∷ []) (take i later))

  -- a change's message tells its delta
  message_tells : (owner : ℕ) (before : List Change) (change : Change) (message : TableMessage) → IsTableMessage size owner flows before change message
      → delta_of size flows before change ≡ delta_told (publication_of message)
  message_tells owner before change message is = λ i. record {
    at = record { block = sym is.of_block i; group = sym is.of_group i };
    content = is.canonical i;
  }

  module _ (owner : ℕ) (changes : List Change) where
    tell_from : (turn : ℕ) (messages : List TableMessage)
        → ((i : ℕ) (message : TableMessage) → slice_get messages i ≡ Some message → IsTableMessageOf size owner flows changes (turn + i + 1) message)
        → map delta_told (map publication_of messages) ≡ take (length messages) (drop turn (deltas size flows changes))
    tell_from turn [] of = refl
    tell_from turn (message ∷ messages) of =
        let first : IsTableMessageOf size owner flows changes (turn + 1) message =
        subst (λ (n : ℕ). IsTableMessageOf size owner flows changes n message) (omega arith) (of 0 message refl) in
        let place : first.before ≡ turn = omega (arith, first.numbered) in
        let there : slice_get (deltas size flows changes) turn ≡ Some (delta_told (publication_of message)) =
        ap (slice_get (deltas size flows changes)) (sym place) ∙ delta_at [] changes first.before first.change first.there
        ∙ ap Some (message_tells owner (take first.before changes) first.change message first.says) in
        let rest =
        tell_from (suc turn) messages (λ i later at. subst (λ (n : ℕ). IsTableMessageOf size owner flows changes n later) (omega arith) (of (suc i) later at)) in
        ap (λ (ds : List Delta). delta_told (publication_of message) ∷ ds) rest
        ∙ sym (ap (take (suc (length messages))) (from_there (deltas size flows changes) turn (delta_told (publication_of message)) there))

pub tell : (size : Size) (owner : ℕ) (flows : List Flow) (changes : List Change) (messages : List TableMessage)
    → AreTableMessagesOf size owner flows changes messages
    → map delta_told (map publication_of messages) ≡ take (length messages) (deltas size flows changes)
tell size owner flows changes messages of =
    tell_from size flows owner changes 0 messages (λ i message there. subst (λ (n : ℕ). IsTableMessageOf size owner flows changes n message) (omega arith) (of i message there))
