-- How refusals of updates are printed.
use Rattle.std.specs.Prelude.{ℕ, List, ◌++◌, codes}
use Rattle.std.specs.Fmt.{decimal}
use Rattle.group_history.specs.declared.refused.UpdateRefused.{UpdateRefused}
use Rattle.group_history.specs.declared.refused.UpdateRefused.TheVariants.{Spent, Absent, BlockFull, RowsFull, OutOfMemory}

abbrev pub refusal_text : UpdateRefused → List ℕ
refusal_text (Spent limit) = codes "all " ++ decimal limit ++ codes " turns are taken"
refusal_text Absent = codes "no flow has the key"
refusal_text (BlockFull block) = codes "block " ++ decimal block ++ codes " has as many keys as it may"
refusal_text (RowsFull block needed free) =
    codes "rows needed in block " ++ decimal block ++ codes ": " ++ decimal needed ++ codes ", free: " ++ decimal free
refusal_text OutOfMemory = codes "out of memory"
