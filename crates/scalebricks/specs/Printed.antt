-- What is printed for an input.
use Rattle.std.specs.Prelude.{ℕ, List, [], ◌∷◌, codes, Result, Ok, Err, ⊤}
use Rattle.std.specs.List.{concat}
use Rattle.std.specs.Fmt.{decimal}
use Rattle.flow_types.specs.declared.why.Why.{Why}
use Rattle.flow_types.specs.declared.why.Why.TheVariants.{Fields, Kind, Number, Address, Node, Duplicate, NoBegin, CarryInStorm, TooManyPhases, NoEnd, AfterEnd}
use Rattle.flow_types.specs.declared.why.BadRow.{BadRow}
use Rattle.cluster_open.specs.declared.fault.InputFault.{InputFault}
use Rattle.cluster_open.specs.declared.fault.InputFault.TheVariants.{Bad, BlockFull, RowsFull, OutOfMemory}

-- the word for why a row is refused
abbrev pub why_word : Why → List ℕ
why_word Fields = codes "Fields"
why_word Kind = codes "Kind"
why_word Number = codes "Number"
why_word Address = codes "Address"
why_word Node = codes "Node"
why_word Duplicate = codes "Duplicate"
why_word NoBegin = codes "NoBegin"
why_word CarryInStorm = codes "CarryInStorm"
why_word TooManyPhases = codes "TooManyPhases"
why_word NoEnd = codes "NoEnd"
why_word AfterEnd = codes "AfterEnd"

-- the line of a row that is refused
unfoldable pub refused_row : BadRow → List ℕ
refused_row bad = concat (codes "refused row " ∷ decimal bad.row ∷ codes " " ∷ why_word bad.why ∷ (10 ∷ []) ∷ [])

-- the line of a block that is past a limit
unfoldable pub refused_block : ℕ → List ℕ → List ℕ
refused_block block why = concat (codes "refused block " ∷ decimal block ∷ codes " " ∷ why ∷ (10 ∷ []) ∷ [])

-- what is printed for what an input comes to: its report, or the line of its first bad row or of the first block past a limit
abbrev pub printed : Result (List ℕ) InputFault → List ℕ
printed (Ok report) = report
printed (Err (Bad row)) = refused_row row
printed (Err (BlockFull block)) = refused_block block (codes "BlockFull")
printed (Err (RowsFull block)) = refused_block block (codes "RowsFull")
printed (Err OutOfMemory) = []

-- the input has a bad row, or flows past a limit
abbrev pub IsRefused : Result (List ℕ) InputFault → Type 0
IsRefused (Ok report) = ⊥
IsRefused (Err (Bad row)) = ⊤
IsRefused (Err (BlockFull block)) = ⊤
IsRefused (Err (RowsFull block)) = ⊤
IsRefused (Err OutOfMemory) = ⊥
