-- How refusals of messages are printed.
use Rattle.std.specs.Prelude.{ℕ, List, ◌++◌, codes}
use Rattle.std.specs.Fmt.{decimal}
use Rattle.replica_shard.specs.declared.refused.ShardRefused.{ShardRefused}
use Rattle.replica_shard.specs.declared.refused.ShardRefused.TheVariants.{Foreign, Repeat, Early, RowsFull}

abbrev pub refusal_text : ShardRefused → List ℕ
refusal_text (Foreign owner) = codes "a message of owner " ++ decimal owner
refusal_text (Repeat have) = codes "a turn of the first " ++ decimal have ++ codes ", which are taken"
refusal_text (Early have) = codes "a turn too early: " ++ decimal have ++ codes " are taken"
refusal_text (RowsFull needed free) = codes "rows needed: " ++ decimal needed ++ codes ", free: " ++ decimal free
