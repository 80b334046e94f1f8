use Rattle.std.proofs.Common.{ℕ, ◌∙◌, ◌*◌, ◌/◌, ap, arith}
use Rattle.replica_shard.proofs.Shares.{product_divides}
use Rattle.replica_shard.proofs.shard.Shard.cell_block.Goals as goal

pub returns : goal.returns
returns c =
    let shard = c.args.self.now in
    let shape = c.numbers_of_a_shape.ensures in
    let block : ℕ = c.args.block in
    ap (λ (n : ℕ). n * shard.share / 65536) c.from.ensures
    ∙ (ap (λ (share : ℕ). block * share / 65536) shard.shared
    ∙ product_divides shard.shape.nodes block shape.enough_nodes shape.few_nodes (omega (arith, c.requires, shape.few_blocks)))
