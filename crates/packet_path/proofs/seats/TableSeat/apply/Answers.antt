-- The shard's refusals are the table's.
use Rattle.std.proofs.Common.{◌≡◌, ◌+◌, ◌<◌, ℕ, length, subst}
use Rattle.std.specs.Prelude.{◌↔◌, IsErrOf}
use Rattle.group_search.specs.Canon.{rows_in}
use Rattle.delta_codec.specs.Turns.{IsEarly, IsForeign, IsRepeat}
use Rattle.replica_shard.specs.declared.refused.ShardRefused.TheVariants.{Foreign, Repeat, Early, RowsFull}
use Rattle.replica_shard.specs.Shard.{free_rows}
use Rattle.replica_shard.specs.Store.{shard_state_of}
use Rattle.packet_path.specs.Seated.{Seated, table_taken}
use Rattle.packet_path.proofs.Seating.{seated-there}
use Rattle.packet_path.proofs.seats.TableSeat.apply.Goals as goal

pub returns-clause-foreign : goal.returns-clause-foreign
returns-clause-foreign c =
    let message = c.args.message.now in
    subst (λ (t : Seated). (owner : ℕ) → IsErrOf c.apply.result (Foreign owner) ↔ IsForeign t.shard.owner message.owner owner)
    (seated-there c.args.self.now c.deref.result.now _ c.self.inside.writer c.deref.ensures c.self.view_is) c.apply.ensures.foreign

pub returns-clause-repeat : goal.returns-clause-repeat
returns-clause-repeat c =
    let message = c.args.message.now in
    subst (λ (t : Seated). (have : ℕ) → IsErrOf c.apply.result (Repeat have) ↔ IsRepeat t.shard.owner (length t.list) message.owner message.turn have)
    (seated-there c.args.self.now c.deref.result.now _ c.self.inside.writer c.deref.ensures c.self.view_is) c.apply.ensures.repeat

pub returns-clause-early : goal.returns-clause-early
returns-clause-early c =
    let message = c.args.message.now in
    subst (λ (t : Seated). (have : ℕ) → IsErrOf c.apply.result (Early have) ↔ IsEarly t.shard.owner (length t.list) message.owner message.turn have)
    (seated-there c.args.self.now c.deref.result.now _ c.self.inside.writer c.deref.ensures c.self.view_is) c.apply.ensures.early

pub returns-clause-rows_full : goal.returns-clause-rows_full
returns-clause-rows_full c =
    let message = c.args.message.now in
    subst (λ (t : Seated). (needed free : ℕ) → IsErrOf c.apply.result (RowsFull needed free) ↔
    ((message.owner ≡ t.shard.owner) × (message.turn ≡ length t.list + 1) × (needed ≡ rows_in message.content)
    × (free ≡ free_rows (shard_state_of (table_taken t)) message.block message.group) × (free < needed)))
    (seated-there c.args.self.now c.deref.result.now _ c.self.inside.writer c.deref.ensures c.self.view_is) c.apply.ensures.rows_full
