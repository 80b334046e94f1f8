use Rattle.std.proofs.Common.{leb, ltb, rules, take, drop, ◌≡◌, ◌∙◌, ap, List}
use Rattle.std.specs.List.Sorted.{IsNonDecreasingBy}
use Rattle.std.proofs.lemmas.List.Sorted.{IsNonDecreasingBy-drop, IsPartitionPoint-from_clause, IsPartitionedBy-leb, IsPartitionedBy-ltb}
use Rattle.setsep_build.specs.declared.placed.Placed.{Placed}
use Rattle.setsep_build.specs.Placing.{placed_in}
use Rattle.setsep_build.proofs.InOrder.{by_block}
use Rattle.setsep_build.proofs.Neighbours.{neighbours}
use Rattle.setsep_build.proofs.placed.placed_in.Goals as goal

pub returns : goal.returns
unfolding placed_in
returns c =
    let rises = by_block c.args.all.now c.requires in
    let rest : List Placed = drop c.partition_point-start.result c.args.all.now in
    let shown : c.split_at.result.1.now ≡ rest = c.split_at.ensures.back in
    let later : IsNonDecreasingBy (λ (one : Placed). one.block) rest = IsNonDecreasingBy-drop (λ (one : Placed). one.block) c.partition_point-start.result c.args.all.now rises in
    c.split_at-2.ensures.front ∙ ap (take c.partition_point-count.result) shown
    ∙ neighbours (λ (one : Placed). one.block) c.args.block c.args.all.now c.partition_point-start.result c.partition_point-count.result c.partition_point-start.ensures.bound
    (IsPartitionPoint-from_clause (λ (one : Placed). ltb one.block c.args.block) c.args.all.now c.partition_point-start.result c.partition_point-start.ensures.partitioned
    (IsPartitionedBy-ltb (λ (one : Placed). one.block) c.args.all.now c.args.block rises) (λ a r q k. search rules))
    (IsPartitionPoint-from_clause (λ (one : Placed). leb one.block c.args.block) rest c.partition_point-count.result (rw shown at c.partition_point-count.ensures.partitioned)
    (IsPartitionedBy-leb (λ (one : Placed). one.block) rest c.args.block later) (λ a r q k. search rules))
