use Rattle.group_cell.specs.Seats.{opened_with, published, the_group}
use Rattle.replica_shard.specs.Seats.{taken_list}
use Rattle.replica_shard.proofs.Cells.{route_is}
use Rattle.replica_shard.proofs.shard.Shard.route_own_at.Goals as goal

pub returns-clause-answer : goal.returns-clause-answer
returns-clause-answer c =
    let shard = c.args.self.now in
    let look = c.look_own_hashed-version in
    route_is shard.shape shard.owner shard.choices.items (opened_with shard.table) shard.cells shard.full (published c.args.writer.now.seat) c.args.at c.requires.within c.requires.owned
    (the_group c.cell-block.result.0 c.cell-block.result.1) c.cell-block.ensures.inside.group (c.cell-block.ensures.cell (taken_list shard c.args.writer.now))
    c.args.key.now look.result.version look.result.node look.ensures.version look.ensures.node
