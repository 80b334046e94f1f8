use Rattle.std.proofs.Common.{arith}
use Rattle.flow_types.proofs.ValueBits.{are_value_bits}
use Rattle.flow_types.proofs.shape.Shape.value_bits.Goals as goal

pub returns-in-5-to-8-clause-fewest : goal.returns-in-5-to-8-clause-fewest
returns-in-5-to-8-clause-fewest c = rw (← c.self.view_is) (are_value_bits _ 3 (omega arith) (omega arith) (omega arith))

pub returns-in_default-clause-fewest : goal.returns-in_default-clause-fewest
returns-in_default-clause-fewest c = rw (← c.self.view_is) (are_value_bits _ 4 (omega arith) (omega arith) (omega arith))
