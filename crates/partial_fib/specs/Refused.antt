-- How refusals of messages are printed.
use Rattle.std.specs.Prelude.{ℕ, List, ◌++◌, codes}
use Rattle.std.specs.Fmt.{decimal}
use Rattle.partial_fib.specs.declared.refused.FibRefused.{FibRefused}
use Rattle.partial_fib.specs.declared.refused.FibRefused.TheVariants.{Foreign, Repeat, Early, OutOfMemory}

abbrev pub refusal_text : FibRefused → List ℕ
refusal_text (Foreign owner) = codes "a message of owner " ++ decimal owner
refusal_text (Repeat have) = codes "a turn of the first " ++ decimal have ++ codes ", which are taken"
refusal_text (Early have) = codes "a turn too early: " ++ decimal have ++ codes " are taken"
refusal_text OutOfMemory = codes "out of memory"
