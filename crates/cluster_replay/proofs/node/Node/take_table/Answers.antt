use Rattle.std.proofs.Common.{◌≡◌, ◌∙◌, ◌+◌, ◌<◌, Err, length, subst, get_or, refl, sym, ap, arith}
use Rattle.replica_shard.specs.Shard.{ShardState, free_rows, with_content}
use Rattle.replica_shard.specs.Store.{shard_state_of}
use Rattle.cluster_replay.specs.Cluster.{NodeStore, node_state_of, shard_in}
use Rattle.replica_shard.specs.declared.refused.ShardRefused.TheVariants.{Early, Repeat}
use Rattle.cluster_replay.proofs.Answered.{applied, next_of_ok, repeated, same_shard, shard_here, too_early, with_shard}
use Rattle.cluster_replay.proofs.node.Node.take_table.Goals as goal
use Rattle.cluster_replay.proofs.node.Node.take_table.Goals.{in-Ok, in-Err-Repeat, in-Err-Early}

pub returns-clause-reply : goal.returns-clause-reply
returns-clause-reply c =
    let node : NodeStore = c.args.self.now in
    let old = c.index_mut.result.now in
    let is_old : old ≡ get_or node.shards c.args.message.now.owner old = rw (← c.from.ensures, ← c.self.view_is) c.index_mut.ensures.value in
    let here : shard_state_of old ≡ shard_in (node_state_of node) c.args.message.now.owner = shard_here node c.args.message.now.owner old c.requires.there is_old in
    let have : length old.list ≡ (shard_in (node_state_of node) c.args.message.now.owner).taken = ap (λ (s : ShardState). s.taken) here in
    let own : c.args.message.now.owner ≡ old.owner = sym (ap (λ (s : ShardState). s.owner) here ∙ c.requires.own) in
    elim c.match-apply.branch [
      | in-Ok w ↦
          rw (w.result-is, ← have)
          (applied (length old.list) c.args.message.now.turn
          (next_of_ok c.apply.result Repeat Early (length old.list) c.args.message.now.turn _ w.in-Ok.is
          (λ late. (c.apply.ensures.repeat (length old.list)).1 (own, late, refl)) (λ early. (c.apply.ensures.early (length old.list)).1 (own, early, refl))))
      | in-Err-Repeat w ↦
          let facts = (c.apply.ensures.repeat w.in-Err-Repeat.have).0 (w.in-Err-Repeat.is ∙ ap Err w.in-Err-Repeat.field-0-is) in
          rw (w.result-is, facts.2, ← have) (repeated (length old.list) c.args.message.now.turn facts.1)
      | in-Err-Early w ↦
          let facts = (c.apply.ensures.early w.in-Err-Early.have).0 (w.in-Err-Early.is ∙ ap Err w.in-Err-Early.field-0-is) in
          rw (w.result-is, facts.2, ← have) (too_early (length old.list) c.args.message.now.turn facts.1)
    ]

pub returns-clause-taken : goal.returns-clause-taken
returns-clause-taken c =
    let held : NodeStore = record { shards = c.self.inside.tables.items; fibs = c.self.inside.fibs.items } in
    let owner = c.args.message.now.owner in
    let there : owner < length held.shards = subst (λ (n : NodeStore). owner < length n.shards) (sym c.self.view_is) c.requires.there in
    let old = c.index_mut.result.now in
    let is_old : old ≡ get_or held.shards owner old = rw (← c.from.ensures) c.index_mut.ensures.value in
    let here : shard_state_of old ≡ shard_in (node_state_of held) owner = shard_here held owner old there is_old in
    elim c.match-apply.branch [
      | in-Ok w ↦
          rw (w.result-is, c.from.ensures, ← c.self.view_is)
          (with_shard held owner c.apply.new.self (with_content (shard_in (node_state_of held) owner) c.args.message.now)
          (w.in-Ok.ensures.taken ∙ ap (λ (s : ShardState). with_content s c.args.message.now) here))
      | in-Err-Repeat w ↦ rw (w.result-is, c.from.ensures, ← c.self.view_is) (same_shard held owner c.apply.new.self old w.in-Err-Repeat.ensures.refused is_old)
      | in-Err-Early w ↦ rw (w.result-is, c.from.ensures, ← c.self.view_is) (same_shard held owner c.apply.new.self old w.in-Err-Early.ensures.refused is_old)
    ]

pub unreachable-requires : goal.unreachable-requires
unreachable-requires c =
    let node : NodeStore = c.args.self.now in
    let old = c.index_mut.result.now in
    let is_old : old ≡ get_or node.shards c.args.message.now.owner old = rw (← c.from.ensures, ← c.self.view_is) c.index_mut.ensures.value in
    let here : shard_state_of old ≡ shard_in (node_state_of node) c.args.message.now.owner = shard_here node c.args.message.now.owner old c.requires.there is_old in
    let own : c.args.message.now.owner ≡ old.owner = sym (ap (λ (s : ShardState). s.owner) here ∙ c.requires.own) in
    let facts = (c.apply.ensures.foreign c.in-Err-Foreign.field-0-0).0 (c.in-Err-Foreign.is ∙ ap Err c.in-Err-Foreign.field-0-is) in
    facts.0 own

pub unreachable-requires-in-Err-RowsFull : goal.unreachable-requires-in-Err-RowsFull
unreachable-requires-in-Err-RowsFull c =
    let node : NodeStore = c.args.self.now in
    let message = c.args.message.now in
    let old = c.index_mut.result.now in
    let is_old : old ≡ get_or node.shards message.owner old = rw (← c.from.ensures, ← c.self.view_is) c.index_mut.ensures.value in
    let here : shard_state_of old ≡ shard_in (node_state_of node) message.owner = shard_here node message.owner old c.requires.there is_old in
    let facts = (c.apply.ensures.rows_full c.in-Err-RowsFull.field-0-0 c.in-Err-RowsFull.field-0-1).0 (c.in-Err-RowsFull.is ∙ ap Err c.in-Err-RowsFull.field-0-is) in
    let room = c.requires.room (facts.1 ∙ ap (λ (s : ShardState). s.taken + 1) here) in
    let free = facts.3 ∙ ap (λ (s : ShardState). free_rows s message.block message.group) here in
    omega (arith, room, free, facts.2, facts.4)
