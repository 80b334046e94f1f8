-- One more message, and one among the others.
use Rattle.std.proofs.Common.{◌≡◌, ℕ, zero, suc, List, [], ◌∷◌, ◌++◌, length, map, Some, refl, ap}
use Rattle.std.specs.List.{slice_get}
use Rattle.group_search.specs.declared.published.Publication.{Publication}
use Rattle.delta_codec.specs.declared.message.FibMessage.{FibMessage}
use Rattle.delta_codec.specs.declared.message.Message.{Message}
use Rattle.delta_codec.specs.declared.message.Message.TheVariants.{Table, Fib}
use Rattle.delta_codec.specs.declared.message.TableMessage.{TableMessage}
use Rattle.replica_shard.specs.Owners.{publication_of}
use Rattle.turn_relay.specs.Sent.{fibs_in, tables_in}

pub tables_snoc : (messages : List Message) (message : TableMessage) → tables_in (messages ++ Table message ∷ []) ≡ tables_in messages ++ message ∷ []
tables_snoc [] message = refl
tables_snoc (Table first ∷ messages) message = ap (λ (rest : List TableMessage). first ∷ rest) (tables_snoc messages message)
tables_snoc (Fib first ∷ messages) message = tables_snoc messages message

pub tables_skip : (messages : List Message) (message : FibMessage) → tables_in (messages ++ Fib message ∷ []) ≡ tables_in messages
tables_skip [] message = refl
tables_skip (Table first ∷ messages) message = ap (λ (rest : List TableMessage). first ∷ rest) (tables_skip messages message)
tables_skip (Fib first ∷ messages) message = tables_skip messages message

pub fibs_snoc : (messages : List Message) (message : FibMessage) → fibs_in (messages ++ Fib message ∷ []) ≡ fibs_in messages ++ message ∷ []
fibs_snoc [] message = refl
fibs_snoc (Table first ∷ messages) message = fibs_snoc messages message
fibs_snoc (Fib first ∷ messages) message = ap (λ (rest : List FibMessage). first ∷ rest) (fibs_snoc messages message)

pub fibs_skip : (messages : List Message) (message : TableMessage) → fibs_in (messages ++ Table message ∷ []) ≡ fibs_in messages
fibs_skip [] message = refl
fibs_skip (Table first ∷ messages) message = fibs_skip messages message
fibs_skip (Fib first ∷ messages) message = ap (λ (rest : List FibMessage). first ∷ rest) (fibs_skip messages message)

pub list_snoc : (messages : List TableMessage) (message : TableMessage) → map publication_of (messages ++ message ∷ []) ≡ map publication_of messages ++ publication_of message ∷ []
list_snoc [] message = refl
list_snoc (first ∷ messages) message = ap (λ (rest : List Publication). publication_of first ∷ rest) (list_snoc messages message)

pub list_length : (messages : List TableMessage) → length (map publication_of messages) ≡ length messages
list_length [] = refl
list_length (first ∷ messages) = ap suc (list_length messages)

-- the message stands where it was sent
pub table_at : (before rest : List Message) (message : TableMessage) → slice_get (tables_in (before ++ Table message ∷ rest)) (length (tables_in before)) ≡ Some message
table_at [] rest message = refl
table_at (Table first ∷ before) rest message = table_at before rest message
table_at (Fib first ∷ before) rest message = table_at before rest message

pub fib_at : (before rest : List Message) (message : FibMessage) → slice_get (fibs_in (before ++ Fib message ∷ rest)) (length (fibs_in before)) ≡ Some message
fib_at [] rest message = refl
fib_at (Table first ∷ before) rest message = fib_at before rest message
fib_at (Fib first ∷ before) rest message = fib_at before rest message

-- those before it are the first
pub tables_before : (before rest : List Message) (i : ℕ) (message : TableMessage) → slice_get (tables_in before) i ≡ Some message → slice_get (tables_in (before ++ rest)) i ≡ Some message
tables_before [] rest i message there = absurd (cc there)
tables_before (Table first ∷ before) rest zero message there = there
tables_before (Table first ∷ before) rest (suc i) message there = tables_before before rest i message there
tables_before (Fib first ∷ before) rest i message there = tables_before before rest i message there
