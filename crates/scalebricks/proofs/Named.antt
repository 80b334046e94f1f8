-- The fault that an input's outcome is.
use Rattle.std.proofs.Common.{◌≡◌, ℕ, List, Result, Err}
use Rattle.std.specs.Prelude.{IfSome}
use Rattle.cluster_open.specs.declared.fault.InputFault.{InputFault}
use Rattle.cluster_open.specs.declared.fault.InputFault.TheVariants.{Bad, BlockFull, RowsFull, OutOfMemory}
use Rattle.cluster_open.specs.Limits.{named_fault}
use Rattle.scalebricks.specs.Printed.{IsRefused}

-- a fault that is printed has a name
pub named_refused : (fault : InputFault) (said : Result (List ℕ) InputFault) → IfSome (named_fault fault) (λ reason. said ≡ Err reason) → IsRefused (Err fault) → said ≡ Err fault
named_refused (Bad bad) said is refused = is
named_refused (BlockFull block) said is refused = is
named_refused (RowsFull block) said is refused = is
named_refused OutOfMemory said is refused = absurd refused
