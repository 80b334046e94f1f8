-- What one more message makes of a part that follows.
use Rattle.std.proofs.Common.{◌≡◌, ◌≢◌, ◌∙◌, ◌<◌, ◌≤◌, ℕ, ◌+◌, List, [], ◌∷◌, ◌++◌, length, map, Ok, Err, refl, sym, ap, subst, arith, append_assoc}
use Rattle.std.specs.Prelude.{◌↔◌, IsErrOf, OnOk, Result, false, ⊤}
use Rattle.group_search.specs.declared.published.Publication.{Publication}
use Rattle.group_search.specs.Canon.{rows_in}
use Rattle.delta_codec.specs.declared.message.FibMessage.{FibMessage}
use Rattle.delta_codec.specs.declared.message.Message.{Message}
use Rattle.delta_codec.specs.declared.message.Message.TheVariants.{Table, Fib}
use Rattle.delta_codec.specs.declared.message.TableMessage.{TableMessage}
use Rattle.delta_codec.specs.Turns.{IsEarly, IsForeign, IsRepeat}
use Rattle.replica_shard.specs.declared.refused.ShardRefused.{ShardRefused}
use Rattle.replica_shard.specs.declared.refused.ShardRefused.TheVariants.{Foreign, Repeat, Early, RowsFull}
use Rattle.replica_shard.specs.declared.shard.Shard.{Shard}
use Rattle.replica_shard.specs.Owners.{publication_of}
use Rattle.replica_shard.specs.Seats.{shard_at}
use Rattle.replica_shard.specs.Shard.{free_rows}
use Rattle.replica_shard.specs.Store.{shard_state_of}
use Rattle.partial_fib.specs.declared.refused.FibRefused.{FibRefused}
use Rattle.partial_fib.specs.declared.refused.FibRefused.TheVariants as fib_refused
use Rattle.partial_fib.specs.Ends.{WriterState, published}
use Rattle.partial_fib.specs.Store.{FibStore}
use Rattle.packet_path.specs.Seated.{Seated, table_taken}
use Rattle.turn_relay.specs.declared.state.State.{State}
use Rattle.turn_relay.specs.declared.state.State.TheVariants.{Clear, Stuck}
use Rattle.turn_relay.specs.Follow.{Follow, IsAfterFib, IsAfterTable, IsOutOfTurn, list_in}
use Rattle.turn_relay.specs.Sent.{fibs_in, tables_in}
use Rattle.turn_relay.proofs.Messages.{fibs_skip, fibs_snoc, list_length, list_snoc, tables_skip, tables_snoc}

pub on_table : (table now : Seated) (fib : WriterState) (before : List Message) (message : TableMessage) → Follow table fib before Clear → now.list ≡ table.list ++ publication_of message ∷ []
    → Follow now fib (before ++ Table message ∷ []) Clear
on_table table now fib before message follows listed = (
  listed ∙ ap (λ (list : List Publication). list ++ publication_of message ∷ []) follows.0 ∙ sym (list_snoc (tables_in before) message)
      ∙ ap (λ (messages : List TableMessage). map publication_of messages) (sym (tables_snoc before message)),
  follows.1 ∙ sym (fibs_skip before message),
)

pub on_fib : (table : Seated) (fib now : WriterState) (before : List Message) (message : FibMessage) → Follow table fib before Clear → now ≡ published fib message
    → Follow table now (before ++ Fib message ∷ []) Clear
on_fib table fib now before message follows is = (
  follows.0 ∙ ap (λ (messages : List TableMessage). map publication_of messages) (sym (tables_skip before message)),
  ap (λ (writer : WriterState). writer.turns) is ∙ ap (λ (turns : List FibMessage). turns ++ message ∷ []) follows.1 ∙ sym (fibs_snoc before message),
)

-- ---- a refusal

module _ (table : Seated) (before : List Message) (message : TableMessage) (result : Result ⊤ ShardRefused)
    (foreign : (owner : ℕ) → IsErrOf result (Foreign owner) ↔ IsForeign table.shard.owner message.owner owner)
    (repeat : (have : ℕ) → IsErrOf result (Repeat have) ↔ IsRepeat table.shard.owner (length table.list) message.owner message.turn have)
    (early : (have : ℕ) → IsErrOf result (Early have) ↔ IsEarly table.shard.owner (length table.list) message.owner message.turn have)
    (rows_full : (needed free : ℕ) → IsErrOf result (RowsFull needed free) ↔
    ((message.owner ≡ table.shard.owner) × (message.turn ≡ length table.list + 1) × (needed ≡ rows_in message.content)
    × (free ≡ free_rows (shard_state_of (table_taken table)) message.block message.group) × (free < needed)))
    (listed : table.list ≡ list_in before) where
  many : length table.list ≡ length (tables_in before)
  many = ap length listed ∙ list_length (tables_in before)

  room : free_rows (shard_state_of (table_taken table)) message.block message.group ≡ free_rows (shard_state_of (shard_at table.shard (list_in before))) message.block message.group
  room = ap (λ (list : List Publication). free_rows (shard_state_of (shard_at table.shard list)) message.block message.group) listed

  why : (cause : ShardRefused) → result ≡ Err cause → IsOutOfTurn table.shard 0 before (Table message)
  why (Foreign owner) is own next enough = ((foreign owner).0 is).0 own
  why (Repeat have) is own next enough = absurd (omega (arith, ((repeat have).0 is).1, many, next))
  why (Early have) is own next enough = absurd (omega (arith, ((early have).0 is).1, many, next))
  why (RowsFull needed free) is own next enough =
      let facts = (rows_full needed free).0 is in
      absurd (omega (arith, facts.2, facts.3, facts.4, room, enough))

  stuck_at_table : (cause : ShardRefused) → result ≡ Err cause → (now : Seated) (fib : WriterState) → now.shard ≡ table.shard → Follow now fib (before ++ Table message ∷ []) Stuck
  stuck_at_table cause is now fib same = record {
    before = before;
    message = Table message;
    rest = [];
    whole = refl;
    refused = subst (λ (shard : Shard). IsOutOfTurn shard fib.opening.owner before (Table message)) (sym same) (why cause is);
  }

  pub follows_table : (now : Seated) (fib : WriterState) (state : State) → Follow table fib before Clear → now.shard ≡ table.shard
      → OnOk result (now.list ≡ table.list ++ publication_of message ∷ []) → IsAfterTable result state → Follow now fib (before ++ Table message ∷ []) state
  follows_table now fib state follows same listed is = by result refl listed is
    where
      by : (answer : Result ⊤ ShardRefused) → result ≡ answer → OnOk answer (now.list ≡ table.list ++ publication_of message ∷ []) → IsAfterTable answer state
          → Follow now fib (before ++ Table message ∷ []) state
      by (Ok done) answer_is listed is = subst (Follow now fib (before ++ Table message ∷ [])) (sym is) (on_table table now fib before message follows listed)
      by (Err cause) answer_is listed is = subst (Follow now fib (before ++ Table message ∷ [])) (sym is) (stuck_at_table cause answer_is now fib same)

module _ (fib : WriterState) (before : List Message) (message : FibMessage) (result : Result ⊤ FibRefused)
    (foreign : (owner : ℕ) → IsErrOf result (fib_refused.Foreign owner) ↔ ((fib.spent ≡ false) × IsForeign fib.opening.owner message.owner owner))
    (repeat : (have : ℕ) → IsErrOf result (fib_refused.Repeat have) ↔ ((fib.spent ≡ false) × IsRepeat fib.opening.owner (length fib.turns) message.owner message.turn have))
    (early : (have : ℕ) → IsErrOf result (fib_refused.Early have) ↔ ((fib.spent ≡ false) × IsEarly fib.opening.owner (length fib.turns) message.owner message.turn have))
    (turned : fib.turns ≡ fibs_in before) where
  many_turns : length fib.turns ≡ length (fibs_in before)
  many_turns = ap length turned

  why_fib : (shard : Shard) (cause : FibRefused) → result ≡ Err cause → cause ≢ fib_refused.OutOfMemory → IsOutOfTurn shard fib.opening.owner before (Fib message)
  why_fib shard (fib_refused.Foreign owner) is other own next = ((foreign owner).0 is).1.0 own
  why_fib shard (fib_refused.Repeat have) is other own next = absurd (omega (arith, ((repeat have).0 is).1.1, many_turns, next))
  why_fib shard (fib_refused.Early have) is other own next = absurd (omega (arith, ((early have).0 is).1.1, many_turns, next))
  why_fib shard fib_refused.OutOfMemory is other own next = absurd (other refl)

  stuck_at_fib : (cause : FibRefused) → result ≡ Err cause → cause ≢ fib_refused.OutOfMemory → (table : Seated) (now : WriterState) → now.opening ≡ fib.opening
      → Follow table now (before ++ Fib message ∷ []) Stuck
  stuck_at_fib cause is other table now same = record {
    before = before;
    message = Fib message;
    rest = [];
    whole = refl;
    refused = subst (λ (opening : FibStore). IsOutOfTurn table.shard opening.owner before (Fib message)) (sym same) (why_fib table.shard cause is other);
  }

  pub follows_fib : (table : Seated) (now : WriterState) (state : State) → Follow table fib before Clear → now.opening ≡ fib.opening
      → OnOk result (now ≡ published fib message) → IsAfterFib result state → Follow table now (before ++ Fib message ∷ []) state
  follows_fib table now state follows same turn is = by result refl turn is
    where
      stuck : (cause : FibRefused) → result ≡ Err cause → cause ≢ fib_refused.OutOfMemory → state ≡ Stuck → Follow table now (before ++ Fib message ∷ []) state
      stuck cause answer_is other is = subst (Follow table now (before ++ Fib message ∷ [])) (sym is) (stuck_at_fib cause answer_is other table now same)

      by : (answer : Result ⊤ FibRefused) → result ≡ answer → OnOk answer (now ≡ published fib message) → IsAfterFib answer state → Follow table now (before ++ Fib message ∷ []) state
      by (Ok done) answer_is turn is = subst (Follow table now (before ++ Fib message ∷ [])) (sym is) (on_fib table fib now before message follows turn)
      by (Err (fib_refused.Foreign owner)) answer_is turn is = stuck (fib_refused.Foreign owner) answer_is (λ e. absurd (cc e)) is
      by (Err (fib_refused.Repeat have)) answer_is turn is = stuck (fib_refused.Repeat have) answer_is (λ e. absurd (cc e)) is
      by (Err (fib_refused.Early have)) answer_is turn is = stuck (fib_refused.Early have) answer_is (λ e. absurd (cc e)) is
      by (Err fib_refused.OutOfMemory) answer_is turn is = subst (Follow table now (before ++ Fib message ∷ [])) (sym is) tt

-- it stays stuck, whatever else is taken
pub stays_stuck : (table now : Seated) (fib then : WriterState) (before : List Message) (message : Message) → Follow table fib before Stuck → now.shard ≡ table.shard → then.opening ≡ fib.opening
    → Follow now then (before ++ message ∷ []) Stuck
stays_stuck table now fib then before message stops shard opening = record {
  before = stops.before;
  message = stops.message;
  rest = stops.rest ++ message ∷ [];
  whole = ap (λ (messages : List Message). messages ++ message ∷ []) stops.whole ∙ append_assoc stops.before (stops.message ∷ stops.rest) (message ∷ []);
  refused = subst (λ (s : Shard). IsOutOfTurn s then.opening.owner stops.before stops.message) (sym shard)
      (subst (λ (o : ℕ). IsOutOfTurn table.shard o stops.before stops.message) (sym (ap (λ (o : FibStore). o.owner) opening)) stops.refused);
}
