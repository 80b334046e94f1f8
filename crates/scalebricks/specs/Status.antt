-- The statuses with which the program ends.
use Rattle.std.specs.Prelude.{◌≡◌, ◌⊎◌, ℕ, List, Option, Some, None, codes}

pub data Status : Type 0 where
  Done : Status
  InputRefused : Status
  WordsRefused : Status
  ReadFailed : Status
  WriteFailed : Status
  NoMemory : Status
  TooLarge : Status

-- the number that a status is to the caller
abbrev pub code : Status → ℕ
code Done = 0
code InputRefused = 1
code WordsRefused = 2
code ReadFailed = 3
code WriteFailed = 4
code NoMemory = 5
code TooLarge = 6

-- what a status says on standard error
abbrev pub sentence : Status → Option (List ℕ)
sentence Done = None
sentence InputRefused = None
sentence WordsRefused = Some (codes "scalebricks: words refused")
sentence ReadFailed = Some (codes "scalebricks: read fault")
sentence WriteFailed = Some (codes "scalebricks: write fault")
sentence NoMemory = Some (codes "scalebricks: out of memory")
sentence TooLarge = Some (codes "scalebricks: input too large")

-- with this status nothing was written
abbrev pub WritesNothing : ℕ → Type 0
WritesNothing status = (status ≡ code WordsRefused) ⊎ (status ≡ code ReadFailed) ⊎ (status ≡ code NoMemory) ⊎ (status ≡ code TooLarge)

-- the status tells a fault of the source or the sink, or want of memory
abbrev pub IsHindered : ℕ → Type 0
IsHindered status = (status ≡ code ReadFailed) ⊎ (status ≡ code WriteFailed) ⊎ (status ≡ code NoMemory)
