use Rattle.std.proofs.Common.{ℕ, ◌≡◌, ◌∙◌, ◌+◌, ◌*◌, ◌++◌, ◌∷◌, [], List, length, map, ap, sym, arith}
use Rattle.std.proofs.lemmas.List.{length-map, map_push}
use Rattle.group_search.specs.declared.published.Publication.{Publication}
use Rattle.group_cell.specs.Seats.{opened_with, published, the_group}
use Rattle.group_cell.specs.Plays.{publication}
use Rattle.replica_shard.specs.Owners.{in_cluster, publication_of}
use Rattle.replica_shard.specs.Seats.{shard_at, shard_taken, taken_list}
use Rattle.replica_shard.specs.Shard.{free_rows}
use Rattle.replica_shard.specs.Store.{shard_state_of}
use Rattle.replica_shard.proofs.FreeRows.{room_is_free}
use Rattle.replica_shard.proofs.OwnedBlocks.{its_place}
use Rattle.replica_shard.proofs.Taken.{with_one_more}
use Rattle.replica_shard.proofs.shard.Shard.apply.Goals as goal

pub returns-then-needed-free-clause-rows_full : goal.returns-then-needed-free-clause-rows_full
returns-then-needed-free-clause-rows_full c needed free =
    let message = c.args.message.now in
    let shard = c.args.self.now in
    let ps = published c.args.writer.now.seat in
    let own : message.owner ≡ shard.owner = c.if-message-self.false in
    let free_is : c.room-free.result ≡ free_rows (shard_state_of (shard_taken shard c.args.writer.now)) message.block message.group =
    room_is_free shard.shape shard.owner shard.choices.items (opened_with shard.table) shard.cells shard.full ps message.block c.requires.fits.0.in_table (c.requires.fits.0.owned ∙ own)
    message.group c.cell_block-block.result c.room-free.result c.cell_block-block.ensures c.room-free.ensures in
    let have : c.args.writer.now.taken ≡ length (taken_list shard c.args.writer.now) =
    c.args.writer.now.counted ∙ sym (length-map ps (in_cluster shard.shape.nodes shard.owner)) in
    let next : message.turn ≡ length (taken_list shard c.args.writer.now) + 1 = omega (arith, c.if-message-have.false, c.if-message-have-2.false, have) in (
      λ tells.
          let needed_is : c.rows-needed.result ≡ needed = cc in
          let said : c.room-free.result ≡ free = cc in
          (own, next, sym needed_is ∙ c.rows-needed.ensures, sym said ∙ free_is, omega (arith, needed_is, said)),
      λ so.
          let needed_is : c.rows-needed.result ≡ needed = c.rows-needed.ensures ∙ sym so.2 in
          let said : c.room-free.result ≡ free = free_is ∙ sym so.3 in
          cc,
    )

pub returns-clause-taken : goal.returns-clause-taken
returns-clause-taken c =
    let message = c.args.message.now in
    let shard = c.args.self.now in
    let ps = published c.args.writer.now.seat in
    let up : Publication → Publication = in_cluster shard.shape.nodes shard.owner in
    let own : message.owner ≡ shard.owner = c.if-message-self.false in
    let block_is : shard.owner + shard.shape.nodes * c.cell_block-block.result ≡ message.block =
    ap (λ (n : ℕ). shard.owner + shard.shape.nodes * n) c.cell_block-block.ensures
    ∙ its_place shard.shape.nodes shard.owner message.block (omega (arith, shard.cells.node)) (c.requires.fits.0.owned ∙ own) in
    let listed : map up (published c.publish.new.writer) ≡ taken_list shard c.args.writer.now ++ publication_of message ∷ [] =
    ap (map up) c.publish.ensures.published
    ∙ map_push up ps (publication (the_group c.cell_block-block.result message.group) message.content)
    ∙ ap (λ (block : ℕ). map up ps ++ (let p : Publication = record { block = block; group = message.group; content = message.content } in p) ∷ []) block_is in
    ap (λ (list : List Publication). shard_state_of (shard_at shard list)) listed ∙ with_one_more (shard_taken shard c.args.writer.now) message

pub returns-clause-rows_full : goal.returns-clause-rows_full
returns-clause-rows_full c needed free =
    let message = c.args.message.now in
    let shard = c.args.self.now in
    let ps = published c.args.writer.now.seat in
    let own : message.owner ≡ shard.owner = c.if-message-self.false in
    let free_is : c.room-free.result ≡ free_rows (shard_state_of (shard_taken shard c.args.writer.now)) message.block message.group =
    room_is_free shard.shape shard.owner shard.choices.items (opened_with shard.table) shard.cells shard.full ps message.block c.requires.fits.0.in_table (c.requires.fits.0.owned ∙ own)
    message.group c.cell_block-block.result c.room-free.result c.cell_block-block.ensures c.room-free.ensures in (
      λ tells. cc,
      λ so.
          let needed_is : c.rows-needed.result ≡ needed = c.rows-needed.ensures ∙ sym so.2 in
          let said : c.room-free.result ≡ free = free_is ∙ sym so.3 in
          absurd (omega (arith, needed_is, said, so.4, c.if-needed-free.false)),
    )
