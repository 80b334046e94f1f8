use Rattle.std.proofs.Common.{◌≡◌, ◌∙◌, ap, sym, arith}
use Rattle.bucket_arena.specs.Arena.{item_count}
use Rattle.group_history.specs.Acceptance.{keys_in}
use Rattle.rib_owner.specs.Rib.{map_in}
use Rattle.rib_owner.specs.Stock.{Stock, part_in}
use Rattle.rib_owner.proofs.GroupMaps.{all_flows}
use Rattle.rib_owner.proofs.block.OwnedBlock.reserve.Goals as goal

pub reserve-requires : goal.reserve-requires
reserve-requires c =
    let whole : keys_in (map_in (part_in c.args.self.now)) ≡ item_count c.self.inside.arena =
    ap (λ (s : Stock). keys_in (map_in (part_in s))) (sym c.self.view_is) ∙ all_flows c.self.inside.choices c.self.inside.arena.buckets c.self.invariant.one_list_each in
    omega (arith, whole, c.requires)
