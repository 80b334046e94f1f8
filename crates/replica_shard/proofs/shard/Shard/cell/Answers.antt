use Rattle.std.proofs.Common.{ℕ, ◌≡◌, ◌∙◌, [], List, get_or, slice_index, ap}
use Rattle.block_layout.specs.Candidate.{candidate}
use Rattle.group_cell.specs.Seats.{opened_with}
use Rattle.replica_shard.specs.Seats.{shard_at}
use Rattle.replica_shard.specs.Store.{choices_shown, image_in}
use Rattle.replica_shard.proofs.Cells.{choices_there}
use Rattle.replica_shard.proofs.shard.Shard.cell.Goals as goal

pub returns-clause-cell : goal.returns-clause-cell
returns-clause-cell c list =
    let shard = c.args.self.now in
    let at = c.args.at in
    let place = c.from.ensures ∙ c.cell_block-block.ensures in
    let choices : c.index.result.now ≡ choices_shown (image_in (shard_at shard list) at.block) =
    c.index.ensures
    ∙ (ap (λ (place : ℕ). get_or shard.choices.items place c.index.result.now) place
    ∙ choices_there shard.shape shard.owner shard.choices.items (opened_with shard.table) shard.cells shard.full [] at.block c.requires.within c.requires.owned c.index.result.now) in
    let group = c.group.ensures.value ∙ ap (λ (choices : List ℕ). candidate at.bucket (slice_index choices at.bucket)) choices in
    λ i. record { block = c.cell_block-block.ensures i; group = group i }
