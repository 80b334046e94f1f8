-- What a row of cells holds.
use Rattle.std.specs.Prelude.{◌≡◌, ℕ, List, [], length, get_or, Option, Some, None}
use Rattle.std.specs.declared.alloc.Global.{Global}
use Rattle.bucket_arena.specs.declared.piece.Piece.{Piece}
use Rattle.bucket_arena.specs.declared.piece.Title.{Title}

module _ {X : Type 0} where
  -- the cell holds a value
  abbrev pub IsWritten : List (Option X) → ℕ → Type 0
  IsWritten cells number = (x : X) × (get_or cells number None ≡ Some x)

  -- what the cells of the piece hold, if there is one
  abbrev pub cells_of : Option (Piece X × Title X Global) → List (Option X)
  cells_of None = []
  cells_of (Some p) = p.0.cells

  -- there is no piece and no room, or the piece has this room and goes back to this allocator
  abbrev pub IsPieceOf : Option (Piece X × Title X Global) → ℕ → Global → Type 0
  IsPieceOf None room alloc = room ≡ 0
  IsPieceOf (Some p) room alloc = (p.1.at ≡ p.0.at) × (p.1.room ≡ room) × (length p.0.cells ≡ room) × (p.1.alloc ≡ alloc)
