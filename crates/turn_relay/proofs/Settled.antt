-- Where all that was sent was taken, no message was out of turn, and the node's table and FIB are up to date.
use Rattle.std.proofs.Common.{◌≡◌, ◌∙◌, ℕ, suc, ◌+◌, ◌<◌, ◌≤◌, List, [], ◌∷◌, ◌++◌, length, take, map, fold, Some, refl, sym, ap, subst, arith, append_assoc, append-nil}
use Rattle.std.specs.Prelude.{All}
use Rattle.std.specs.List.{slice_get}
use Rattle.std.proofs.lemmas.List.{length-take-le}
use Rattle.std.proofs.lemmas.Option.{slice_get_within}
use Rattle.flow_types.specs.declared.record.Flow.{Flow}
use Rattle.flow_types.specs.Size.{Size}
use Rattle.group_search.specs.declared.published.Publication.{Publication}
use Rattle.group_search.specs.Build.{rows_left}
use Rattle.group_search.specs.Canon.{rows_in}
use Rattle.group_history.specs.declared.change.Change.{Change}
use Rattle.group_history.specs.History.{map_now}
use Rattle.delta_codec.specs.declared.message.FibMessage.{FibMessage}
use Rattle.delta_codec.specs.declared.message.Message.{Message}
use Rattle.delta_codec.specs.declared.message.Message.TheVariants.{Table, Fib}
use Rattle.delta_codec.specs.declared.message.TableMessage.{TableMessage}
use Rattle.replica_shard.specs.declared.shard.Shard.{Shard}
use Rattle.replica_shard.specs.Owners.{publication_of}
use Rattle.replica_shard.specs.Seats.{shard_at}
use Rattle.replica_shard.specs.Shard.{ShardState, free_rows, shard_after, with_content}
use Rattle.replica_shard.specs.Store.{shard_state_of}
use Rattle.delta_codec.specs.Journals.{IsOfOwner}
use Rattle.replica_shard.specs.Turns.{AreTableMessagesOf}
use Rattle.replica_shard.proofs.Opened.{of_owner_at_home}
use Rattle.replica_shard.proofs.Room.{has_room}
use Rattle.replica_shard.proofs.Taken.{with_one_more}
use Rattle.replica_shard.proofs.TurnFacts.{turns_make}
use Rattle.partial_fib.specs.Fib.{FibState}
use Rattle.delta_codec.specs.Messages.{IsTableMessageOf, message_after, messages_after}
use Rattle.turn_log.specs.Room.{HaveRows}
use Rattle.turn_log.specs.Sender.{IsSenderOf, SenderState, changes_in}
use Rattle.storm_model.specs.Follows.{FibFollows, TableFollows}
use Rattle.turn_relay.specs.declared.state.State.{State}
use Rattle.turn_relay.specs.declared.state.State.TheVariants.{Clear, Stuck}
use Rattle.turn_relay.specs.Finish.{IsPartOf}
use Rattle.turn_relay.specs.Follow.{Follow, Follows, IsOutOfTurn, Stops, list_in}
use Rattle.turn_relay.specs.PartState.{PartState, taken_by}
use Rattle.turn_relay.specs.Sent.{AreFibMessagesOf, AreSent, fibs_in, tables_in}
use Rattle.turn_relay.proofs.Messages.{fib_at, list_length, table_at, tables_before}
use Rattle.turn_relay.proofs.Places.{map_first, take_as_many, take_there}

-- ---- a table

-- a table with these records of messages last has taken their turns
taken_all : (shard : Shard) (list : List Publication) (messages : List TableMessage)
    → shard_state_of (shard_at shard (list ++ map publication_of messages)) ≡ fold with_content (shard_state_of (shard_at shard list)) messages
taken_all shard list [] = ap (λ (ps : List Publication). shard_state_of (shard_at shard ps)) (append-nil list)
taken_all shard list (message ∷ messages) =
    ap (λ (ps : List Publication). shard_state_of (shard_at shard ps)) (sym (append_assoc list (publication_of message ∷ []) (map publication_of messages)))
    ∙ taken_all shard (list ++ publication_of message ∷ []) messages
    ∙ ap (λ (state : ShardState). fold with_content state messages) (with_one_more (shard_at shard list) message)

-- the table after the turns before this one has room for the message's record
room_there : (size : Size) (owner : ℕ) (flows : List Flow) (changes : List Change) (turn : ℕ) (message : TableMessage) (of : IsTableMessageOf size owner flows changes turn message)
    → HaveRows size flows changes → rows_in message.content ≤ free_rows (shard_after size owner flows (take of.before changes)) message.block message.group
unfolding rows_left map_now
room_there size owner flows changes turn message of rows =
    has_room size owner flows (take of.before changes) of.change message of.says (rows of.before of.change of.there)

module _ (size : Size) (owner : ℕ) (flows : List Flow) (sender : SenderState) (is : IsSenderOf size owner flows sender) where
  abbrev changes : List Change
  changes = changes_in sender

  all_of_owner : All (IsOfOwner size owner) changes
  all_of_owner i default low =
      let own = is.own i default low in
      let blocks = is.shape.enough_blocks in
      of_owner_at_home size owner flows _ (omega (arith, blocks)) own.at_home own.owned

  module _ (shard : Shard) (opened : shard_state_of (shard_at shard []) ≡ shard_after size owner flows []) where
    table_after : (messages : List TableMessage) → AreTableMessagesOf size owner flows changes messages
        → shard_state_of (shard_at shard (map publication_of messages)) ≡ shard_after size owner flows (take (length messages) changes)
    table_after messages of =
        taken_all shard [] messages ∙ ap (λ (state : ShardState). fold with_content state messages) opened
        ∙ turns_make size owner flows changes messages all_of_owner of

    pub table_follows : (messages : List TableMessage) → AreTableMessagesOf size owner flows changes messages → length messages ≡ length changes
        → TableFollows size owner flows (shard_at shard []) (map publication_of messages) changes
    table_follows messages of many = record {
      many = list_length messages ∙ many;
      each = λ turns.
          ap (λ (ps : List Publication). shard_state_of (shard_at shard ps)) (map_first publication_of messages turns)
          ∙ table_after (take turns messages) (λ i message there. of i message (take_there messages turns i message there))
          ∙ ap (shard_after size owner flows) (take_as_many messages changes turns many);
    }

-- ---- a FIB

fibs_are : (size : Size) (node owner : ℕ) (flows : List Flow) (before later : List Change) (turns : List FibMessage) → length turns ≡ length later
    → ((i : ℕ) (message : FibMessage) (change : Change) → slice_get turns i ≡ Some message → slice_get later i ≡ Some change
    → message ≡ message_after size node owner flows (before ++ take i later) change)
    → turns ≡ messages_after size node owner flows before later
unfolding messages_after
fibs_are size node owner flows before [] [] many are = refl
fibs_are size node owner flows before [] (message ∷ turns) many are = absurd (cc many)
fibs_are size node owner flows before (change ∷ later) [] many are = absurd (cc many)
fibs_are size node owner flows before (change ∷ later) (message ∷ turns) many are =
    let first : message ≡ message_after size node owner flows before change =
    are 0 message change refl refl ∙ ap (λ (b : List Change). message_after size node owner flows b change) (append-nil before) in
    let rest : turns ≡ messages_after size node owner flows (before ++ change ∷ []) later =
    fibs_are size node owner flows (before ++ change ∷ []) later turns (omega (arith, many))
    (λ i m c there change_there.
    are (suc i) m c there change_there
    ∙ ap (λ (b : List Change). message_after size node owner flows b c) (sym (append_assoc before (change ∷ []) (take i later)))) in
    λ i. first i ∷ rest i

pub fib_follows : (size : Size) (node owner : ℕ) (flows : List Flow) (changes : List Change) (turns : List FibMessage) → AreFibMessagesOf size node owner flows changes turns
    → length turns ≡ length changes → FibFollows size node owner flows turns changes
fib_follows size node owner flows changes turns of many =
    fibs_are size node owner flows [] changes turns many
    (λ i message change there change_there.
    let is = of i message there in
    let place : is.before ≡ i = omega (arith, is.numbered) in
    let both : Some is.change ≡ Some change = sym is.there ∙ ap (slice_get changes) place ∙ change_there in
    let same : is.change ≡ change = cc both in
    is.says ∙ (λ j. message_after size node owner flows (take (place j) changes) (same j)))

-- ---- a part

module _ (size : Size) (node owner : ℕ) (flows : List Flow) (sender : SenderState) (is : IsSenderOf size owner flows sender) (part : PartState)
    (of : IsPartOf size node owner flows part)
    (sent : AreSent size owner node flows (changes_in sender) (length (changes_in sender)) (taken_by part.end)) (follows : Follows part) where
  shard_owner : part.table.shard.owner ≡ owner
  shard_owner = ap (λ (state : ShardState). state.owner) of.table

  fib_owner : part.fib.opening.owner ≡ owner
  fib_owner = ap (λ (state : FibState). state.owner) of.fib

  in_turn : (before rest : List Message) (message : Message) → taken_by part.end ≡ before ++ message ∷ rest
      → IsOutOfTurn part.table.shard part.fib.opening.owner before message → ⊥
  in_turn before rest (Table message) whole out =
      let there = ap (λ (all : List Message). slice_get (tables_in all) (length (tables_in before))) whole ∙ table_at before rest message in
      let told = sent.tables (length (tables_in before)) message there in
      let low : told.before < length (changes_in sender) = slice_get_within (changes_in sender) told.before told.change told.there in
      let place : told.before ≡ length (tables_in before) = omega (arith, told.numbered) in
      let state : shard_state_of (shard_at part.table.shard (list_in before)) ≡ shard_after size owner flows (take told.before (changes_in sender)) =
      table_after size owner flows sender is part.table.shard of.table (tables_in before)
      (λ i m m_there. sent.tables i m (subst (λ (all : List Message). slice_get (tables_in all) i ≡ Some m) (sym whole) (tables_before before (Table message ∷ rest) i m m_there)))
      ∙ ap (λ (n : ℕ). shard_after size owner flows (take n (changes_in sender))) (sym place) in
      let room : rows_in message.content ≤ free_rows (shard_after size owner flows (take told.before (changes_in sender))) message.block message.group =
      room_there size owner flows (changes_in sender) (length (tables_in before) + 1) message told is.rows in
      out (told.says.of_owner ∙ sym shard_owner) (omega (arith, told.says.next, place, length-take-le told.before (changes_in sender) (omega (arith, low))))
      (subst (λ (s : ShardState). rows_in message.content ≤ free_rows s message.block message.group) (sym state) room)
  in_turn before rest (Fib message) whole out =
      let there = ap (λ (all : List Message). slice_get (fibs_in all) (length (fibs_in before))) whole ∙ fib_at before rest message in
      let told = sent.fibs (length (fibs_in before)) message there in
      let low : told.before < length (changes_in sender) = slice_get_within (changes_in sender) told.before told.change told.there in
      out (ap (λ (m : FibMessage). m.owner) told.says ∙ sym fib_owner)
      (omega (arith, ap (λ (m : FibMessage). m.turn) told.says, told.numbered, length-take-le told.before (changes_in sender) (omega (arith, low))))

  pub never_stuck : part.state ≡ Stuck → ⊥
  never_stuck stuck =
      let stops : Stops part.table.shard part.fib.opening.owner (taken_by part.end) = subst (λ (state : State). Follow part.table part.fib (taken_by part.end) state) stuck follows in
      in_turn stops.before stops.rest stops.message stops.whole stops.refused

  pub table_is : part.state ≡ Clear → TableFollows size owner flows (shard_at part.table.shard []) part.table.list (changes_in sender)
  table_is clear =
      let both = subst (λ (state : State). Follow part.table part.fib (taken_by part.end) state) clear follows in
      subst (λ (list : List Publication). TableFollows size owner flows (shard_at part.table.shard []) list (changes_in sender)) (sym both.0)
      (table_follows size owner flows sender is part.table.shard of.table (tables_in (taken_by part.end)) sent.tables sent.all_tables)

  pub fib_is : part.state ≡ Clear → FibFollows size node owner flows part.fib.turns (changes_in sender)
  fib_is clear =
      let both = subst (λ (state : State). Follow part.table part.fib (taken_by part.end) state) clear follows in
      subst (λ (turns : List FibMessage). FibFollows size node owner flows turns (changes_in sender)) (sym both.1)
      (fib_follows size node owner flows (changes_in sender) (fibs_in (taken_by part.end)) sent.fibs sent.all_fibs)
