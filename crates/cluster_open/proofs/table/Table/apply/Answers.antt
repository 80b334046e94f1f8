use Rattle.std.proofs.Common.{◌≡◌, ◌↔◌, ◌+◌, ◌<◌, length, subst}
use Rattle.std.specs.Prelude.{IsErrOf}
use Rattle.delta_codec.specs.Turns.{IsEarly, IsForeign, IsRepeat}
use Rattle.group_search.specs.Canon.{rows_in}
use Rattle.replica_shard.specs.declared.refused.ShardRefused.TheVariants.{Foreign, Repeat, Early, RowsFull}
use Rattle.replica_shard.specs.Shard.{free_rows}
use Rattle.replica_shard.specs.Store.{ShardStore, shard_state_of}
use Rattle.cluster_open.proofs.table.Table.apply.Goals as goal

pub returns-clause-foreign : goal.returns-clause-foreign
returns-clause-foreign c owner =
    subst (λ (s : ShardStore). IsErrOf c.apply.result (Foreign owner) ↔ IsForeign s.owner c.args.message.now.owner owner)
    c.self.view_is (c.apply.ensures.foreign owner)

pub returns-clause-repeat : goal.returns-clause-repeat
returns-clause-repeat c have =
    subst
    (λ (s : ShardStore). IsErrOf c.apply.result (Repeat have)
    ↔ IsRepeat s.owner (length s.list) c.args.message.now.owner c.args.message.now.turn have)
    c.self.view_is (c.apply.ensures.repeat have)

pub returns-clause-early : goal.returns-clause-early
returns-clause-early c have =
    subst
    (λ (s : ShardStore). IsErrOf c.apply.result (Early have)
    ↔ IsEarly s.owner (length s.list) c.args.message.now.owner c.args.message.now.turn have)
    c.self.view_is (c.apply.ensures.early have)

pub returns-clause-rows_full : goal.returns-clause-rows_full
returns-clause-rows_full c needed free =
    subst
    (λ (s : ShardStore). IsErrOf c.apply.result (RowsFull needed free)
    ↔ ((c.args.message.now.owner ≡ s.owner) × (c.args.message.now.turn ≡ length s.list + 1) × (needed ≡ rows_in c.args.message.now.content)
    × (free ≡ free_rows (shard_state_of s) c.args.message.now.block c.args.message.now.group) × (free < needed)))
    c.self.view_is (c.apply.ensures.rows_full needed free)
