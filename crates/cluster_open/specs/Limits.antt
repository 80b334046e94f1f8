-- The faults that refusals of rows and of builds are.
use Rattle.std.specs.Prelude.{ℕ, ◌≡◌, List, ◌++◌, codes, Option, Some, None, IfSome, option_map}
use Rattle.std.specs.Fmt.{decimal}
use Rattle.flow_types.specs.Refusal.{bad_row_text}
use Rattle.row_fields.specs.declared.refused.RowRefused.{RowRefused}
use Rattle.row_fields.specs.declared.refused.RowRefused.TheVariants as row
use Rattle.group_search.specs.Build.{PastLimit}
use Rattle.group_search.specs.Build.PastLimit.{TooManyFlows, TooManyRows}
use Rattle.setsep_build.specs.declared.refused.BuildRefused.{BuildRefused}
use Rattle.setsep_build.specs.declared.refused.BuildRefused.TheVariants as refused
use Rattle.cluster_open.specs.declared.fault.InputFault.{InputFault}
use Rattle.cluster_open.specs.declared.fault.InputFault.TheVariants.{Bad, BlockFull, RowsFull, OutOfMemory}

-- the fault of a block that is past a limit
abbrev pub fault_of_limit : PastLimit → InputFault
fault_of_limit (TooManyFlows block) = BlockFull block
fault_of_limit (TooManyRows block needed) = RowsFull block

-- the fault that an input has; none at want of memory
abbrev pub named_fault : InputFault → Option InputFault
named_fault (Bad bad) = Some (Bad bad)
named_fault (BlockFull block) = Some (BlockFull block)
named_fault (RowsFull block) = Some (RowsFull block)
named_fault OutOfMemory = None

-- the fault of rows that were refused
abbrev pub fault_of : RowRefused → InputFault
fault_of (row.Bad bad) = Bad bad
fault_of row.OutOfMemory = OutOfMemory

-- the fault of a build that was refused
abbrev pub fault_of_build : BuildRefused → InputFault
fault_of_build (refused.BlockFull block) = BlockFull block
fault_of_build (refused.RowsFull block needed) = RowsFull block
fault_of_build refused.OutOfMemory = OutOfMemory

-- the fault is that of what is past a limit, or want of memory
abbrev pub IsCausedBy : Option PastLimit → InputFault → Type 0
IsCausedBy past fault = IfSome (named_fault fault) (λ named. option_map fault_of_limit past ≡ Some named)

-- how a fault is printed
abbrev pub fault_text : InputFault → List ℕ
fault_text (Bad bad) = bad_row_text bad
fault_text (BlockFull block) = codes "block " ++ decimal block ++ codes " has too many flows"
fault_text (RowsFull block) = codes "block " ++ decimal block ++ codes " needs too many rows"
fault_text OutOfMemory = codes "out of memory"
