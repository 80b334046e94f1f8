use Rattle.std.proofs.Common.{◌∙◌, ap, sym}
use Rattle.group_history.specs.Acceptance.{keys_in}
use Rattle.rib_owner.specs.Rib.{map_in}
use Rattle.rib_owner.specs.Stock.{Stock, part_in}
use Rattle.rib_owner.proofs.GroupMaps.{all_flows}
use Rattle.rib_owner.proofs.block.OwnedBlock.keys.Goals as goal

pub returns : goal.returns
returns c =
    c.self.invariant.keys ∙ sym (all_flows c.self.inside.choices c.self.inside.arena.buckets c.self.invariant.one_list_each)
    ∙ ap (λ (s : Stock). keys_in (map_in (part_in s))) c.self.view_is
