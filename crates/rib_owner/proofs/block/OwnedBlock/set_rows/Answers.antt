use Rattle.std.proofs.Common.{◌∙◌, [], refl, arith}
use Rattle.std.proofs.lemmas.List.{length-set}
use Rattle.rib_owner.specs.Rib.{Part}
use Rattle.rib_owner.specs.Stock.{part_in}
use Rattle.rib_owner.proofs.Counted.{rows_same, rows_with, rows_within, with_map}
use Rattle.rib_owner.proofs.GroupMaps.{map_each}
use Rattle.rib_owner.proofs.block.OwnedBlock.set_rows.Goals as goal

pub overflow_sub-self : goal.overflow_sub-self
overflow_sub-self c =
    omega (
      arith,
      rows_within (part_in (record { choices = c.self.inside.choices; arena = c.self.inside.arena; rows = c.self.inside.rows })) c.group-at.result c.group-at.ensures.below,
      c.self.invariant.used,
    )

pub invariant_of-self : goal.invariant_of-self
invariant_of-self c =
    let part : Part = part_in (record { choices = c.self.inside.choices; arena = c.self.inside.arena; rows = c.self.inside.rows }) in
    let low = c.group-at.ensures.below in
    let there = c.self.invariant.one_number_each in
    record {
      one_list_each = c.self.invariant.one_list_each;
      one_number_each = length-set c.self.inside.rows c.group-at.result c.args.rows ∙ there;
      placed = c.self.invariant.placed;
      keys = c.self.invariant.keys;
      used = omega (
        arith,
        rows_with part c.group-at.result c.args.rows [] low (map_each c.self.inside.choices c.self.inside.arena.buckets) there,
        rows_within part c.group-at.result low,
        rows_same (with_map part c.group-at.result [] c.args.rows)
            (part_in (record { choices = c.self.inside.choices; arena = c.self.inside.arena; rows = (with_map part c.group-at.result [] c.args.rows).rows })) refl,
        c.self.invariant.used,
      );
    }
