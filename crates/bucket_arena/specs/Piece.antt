-- A piece of raw memory at values of the row R: its cells stand side by side from the place that its pointer names.
use Rattle.std.specs.Prelude.{ℕ, ◌+◌, ◌*◌, ◌^◌, List, [], ◌∷◌, length, Option, Some, None}
use Rattle.std.specs.Mem.{type_size}
use base.Fraction.{full_share}
use base.Fml.{Lft, Fml, ftrue, ffalse, fsep, flt, froom}
use mir.Syntax.{Ty, ty_array}
use mir.Raw.{raw}
use denote.RattleType.{RattleType}
use denote.Memory.{lone, part_at, shared_of}
use denote.Sharing.{nothing, said, beside}
use denote.RawPtr.{Ptr, block_ptr, null_ptr}

-- what is said of a place in a block; null is no place in one
abbrev pub in_block : {F : Type 1} → F → (ℕ → ℕ → F) → Ptr → F
in_block elsewhere says (block_ptr block offset) = says block offset
in_block elsewhere says null_ptr = elsewhere

module _ (R : RattleType) where
  -- what is said of each cell, where the first lies at the offset, and each next one a value's octets on
  abbrev pub side_by_side : {F : Type 1} → F → (F → F → F) → (ℕ → Option R.Denot → F) → ℕ → List (Option R.Denot) → F
  side_by_side none both says offset [] = none
  side_by_side none both says offset (cell ∷ cells) = both (says offset cell) (side_by_side none both says (offset + type_size R) cells)

  -- the cells take fewer octets than half of the address space
  abbrev pub fits : List (Option R.Denot) → Fml
  fits cells = flt (length cells * type_size R) (2 ^ 63)

  -- who owns a cell owns the value in it, or bare room for one
  abbrev pub cell_owned : ℕ → ℕ → Option R.Denot → Fml
  cell_owned block offset None = froom (raw (lone R.mir)) block offset
  cell_owned block offset (Some x) = part_at R full_share x block offset

  abbrev pub cells_owned : ℕ → ℕ → List (Option R.Denot) → Fml
  cells_owned block = side_by_side ftrue fsep (cell_owned block)

  abbrev pub piece_owned : Ptr → List (Option R.Denot) → Fml
  piece_owned at cells = in_block ffalse (λ block offset. fsep (fits cells) (cells_owned block offset cells)) at

  -- who has a `&` to a cell has a `&` to the value in it
  abbrev pub cell_lent : ℕ → ℕ → Option R.Denot → Lft → Fml
  cell_lent block offset None = nothing
  cell_lent block offset (Some x) = shared_of R x block offset

  abbrev pub cells_lent : ℕ → ℕ → List (Option R.Denot) → Lft → Fml
  cells_lent block = side_by_side nothing beside (cell_lent block)

  abbrev pub piece_lent : Ptr → List (Option R.Denot) → Lft → Fml
  piece_lent at cells = in_block (said ffalse) (λ block offset. beside (said (fits cells)) (cells_lent block offset cells)) at

  -- the right to free a block of `room` cells
  abbrev pub title_owned : (Ty → Ptr → Fml) → Ptr → ℕ → Fml
  title_owned may_free at room = may_free (raw (ty_array (lone R.mir) room)) at
