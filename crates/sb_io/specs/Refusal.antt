-- Why a source wasn't read to its end.
use Rattle.std.specs.Prelude.{◌≡◌, ℕ, ⊤, List, ◌++◌, codes}
use Rattle.std.specs.Fmt.{decimal}
use Rattle.sb_io.specs.declared.reading.ReadRefusal.{ReadRefusal}
use Rattle.sb_io.specs.declared.reading.ReadRefusal.TheVariants.{ReadFault, TooLarge, OutOfMemory}

-- a limit that the refusal names is this one
abbrev pub NamesLimit : ℕ → ReadRefusal → Type 0
NamesLimit limit ReadFault = ⊤
NamesLimit limit (TooLarge named) = named ≡ limit
NamesLimit limit OutOfMemory = ⊤

-- how a refusal is printed
abbrev pub refusal_text : ReadRefusal → List ℕ
refusal_text ReadFault = codes "read fault"
refusal_text (TooLarge limit) = codes "more than " ++ decimal limit ++ codes " octets"
refusal_text OutOfMemory = codes "out of memory"
