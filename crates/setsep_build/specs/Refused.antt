-- Why the flows of a cluster can't be built.
use Rattle.std.specs.Prelude.{◌≡◌, ℕ, List, ◌++◌, Option, Some, None, IfSome, codes}
use Rattle.std.specs.Fmt.{decimal}
use Rattle.flow_types.specs.declared.record.Flow.{Flow}
use Rattle.flow_types.specs.Size.{Size}
use Rattle.group_search.specs.Build.{PastLimit, past_limit}
use Rattle.group_search.specs.Build.PastLimit.{TooManyFlows, TooManyRows}
use Rattle.setsep_build.specs.declared.refused.BuildRefused.{BuildRefused}
use Rattle.setsep_build.specs.declared.refused.BuildRefused.TheVariants.{BlockFull, RowsFull, OutOfMemory}

-- what is past its limit, as a refusal names it; nothing at want of memory
abbrev pub named_limit : BuildRefused → Option PastLimit
named_limit (BlockFull block) = Some (TooManyFlows block)
named_limit (RowsFull block needed) = Some (TooManyRows block needed)
named_limit OutOfMemory = None

-- the build of the flows is refused for what the first block that is past a limit has too many of
abbrev pub Refuses : Size → List Flow → BuildRefused → Type 0
Refuses size flows why = IfSome (named_limit why) (λ past. past_limit size flows ≡ Some past)

-- how a refusal is printed
abbrev pub refusal_text : BuildRefused → List ℕ
refusal_text (BlockFull block) = codes "block " ++ decimal block ++ codes " has too many flows"
refusal_text (RowsFull block needed) = codes "block " ++ decimal block ++ codes " needs " ++ decimal needed ++ codes " rows"
refusal_text OutOfMemory = codes "out of memory"
