use Rattle.std.proofs.Common.{arith}
use Rattle.rib_owner.specs.Stock.{part_in}
use Rattle.rib_owner.proofs.Counted.{rows_apart, rows_left_is, rows_within}
use Rattle.rib_owner.proofs.block.OwnedBlock.rows_left.Goals as goal

pub overflow_sub-result : goal.overflow_sub-result
overflow_sub-result c =
    omega (
      arith,
      rows_within (part_in (record { choices = c.self.inside.choices; arena = c.self.inside.arena; rows = c.self.inside.rows })) c.args.group c.requires.in_range,
      c.self.invariant.used,
    )

pub returns-clause-value : goal.returns-clause-value
returns-clause-value c =
    rw (← c.self.view_is)
    (omega (
      arith,
      rows_left_is (part_in (record { choices = c.self.inside.choices; arena = c.self.inside.arena; rows = c.self.inside.rows })) c.args.group,
      rows_apart (part_in (record { choices = c.self.inside.choices; arena = c.self.inside.arena; rows = c.self.inside.rows })) c.args.group c.requires.in_range,
      c.self.invariant.used,
    ))
