use Rattle.std.proofs.Common.{ℕ, ◌∙◌, ◌*◌, List, map, ap, subst, sym}
use Rattle.std.proofs.lemmas.List.{map-append}
use mathlib.Core.List.{IsPrefix}
use Rattle.group_search.specs.declared.published.Publication.{Publication}
use Rattle.group_search.specs.Home.{Home}
use Rattle.group_cell.specs.Seats.{Changes, HasLooked, opened_with, seen, the_group}
use Rattle.replica_shard.specs.Owners.{in_cluster}
use Rattle.replica_shard.proofs.Cells.{route_is}
use Rattle.replica_shard.proofs.shard.Shard.route_at.Goals as goal

-- a list goes on by the cluster's blocks as by the cells'
goes_on : (nodes owner : ℕ) (short long : List Publication) → IsPrefix short long → IsPrefix (map (in_cluster nodes owner) short) (map (in_cluster nodes owner) long)
goes_on nodes owner short long more =
    (map (in_cluster nodes owner) more.0, sym (map-append (in_cluster nodes owner) short more.0) ∙ ap (map (in_cluster nodes owner)) more.1)

pub returns-in-Ok-clause-later : goal.returns-in-Ok-clause-later
returns-in-Ok-clause-later c =
    goes_on c.args.self.now.shape.nodes c.args.self.now.owner (seen c.args.reader.now.seat) (seen c.look_hashed.new.reader) c.look_hashed.ensures.later

pub returns-in-Err-clause-later : goal.returns-in-Err-clause-later
returns-in-Err-clause-later c =
    goes_on c.args.self.now.shape.nodes c.args.self.now.owner (seen c.args.reader.now.seat) (seen c.look_hashed.new.reader) c.look_hashed.ensures.later

pub returns-in-Ok-clause-answer : goal.returns-in-Ok-clause-answer
returns-in-Ok-clause-answer c =
    let shard = c.args.self.now in
    let look = c.in-Ok.look in
    let found = c.in-Ok.ensures.answer in
    let list = map (in_cluster shard.shape.nodes shard.owner) (seen c.look_hashed.new.reader) in
    route_is shard.shape shard.owner shard.choices.items (opened_with shard.table) shard.cells shard.full (seen c.look_hashed.new.reader) c.args.at c.requires.within c.requires.owned
    (the_group c.cell-block.result.0 c.cell-block.result.1) c.cell-block.ensures.inside.group (c.cell-block.ensures.cell list)
    c.args.key.now look.version look.node found.version_is found.node_is

pub returns-in-Ok-clause-this_look : goal.returns-in-Ok-clause-this_look
returns-in-Ok-clause-this_look c =
    let shard = c.args.self.now in
    let list = map (in_cluster shard.shape.nodes shard.owner) (seen c.look_hashed.new.reader) in
    subst (λ (cell : Home). HasLooked c.look_hashed.new.reader cell (2 * c.in-Ok.look.version) (2 * c.in-Ok.look.version)) (c.cell-block.ensures.cell list) c.in-Ok.ensures.answer.this_look

pub returns-in-Err-clause-changing : goal.returns-in-Err-clause-changing
returns-in-Err-clause-changing c =
    let shard = c.args.self.now in
    let list = map (in_cluster shard.shape.nodes shard.owner) (seen c.look_hashed.new.reader) in
    subst (λ (cell : Home). Changes c.look_hashed.new.reader cell c.in-Err.changing.first c.in-Err.changing.second) (c.cell-block.ensures.cell list) c.in-Err.ensures.changing
