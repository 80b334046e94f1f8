-- What a `&` to a piece shows is made from the piece, can be copied and shortened. Assumes `Logic`.
use Prim.Native.Nat.{ℕ}
use Rattle.std.specs.Prelude.{List, Option, Some, None}
use seplogic.Ra.Ura.{Ura}
use base.Fml.{Lft, Fml, Incl, ftrue, ffalse, fsep}
use types.Logic.{Logic}
use denote.RattleType.{RattleType, RowLaws}
use denote.Param.Laws.{Laws}
use denote.RawPtr.{Ptr, block_ptr, null_ptr}
use denote.Sharing.{ShrLaws, nothing, said, beside}
use denote.SharingLaws.{beside_shr_laws, nothing_shr_laws, said_shr_laws}
use denote.Shares.{Shares-less}
use denote.Struct.Lending.{Lends, Lends-both, Lends-nothing, Lends-said, Lends-false}
use Rattle.bucket_arena.specs.Piece.{cell_owned, cells_owned, cell_lent, cells_lent, fits, piece_owned, piece_lent}
use Rattle.bucket_arena.proofs.Sides.{each_to_all}

module _ (R : RattleType) (shared : RowLaws R) where
  cell_shared : (b o : ℕ) (c : Option R.Denot) → ShrLaws (cell_lent R b o c)
  cell_shared b o None = nothing_shr_laws
  cell_shared b o (Some x) = shared x b o

  pub piece_shared : (p : Ptr) (cs : List (Option R.Denot)) → ShrLaws (piece_lent R p cs)
  piece_shared null_ptr cs = said_shr_laws ffalse tt
  piece_shared (block_ptr b o) cs =
      let row = cell_lent R b in
      beside_shr_laws (said (fits R cs)) (cells_lent R b o cs) (said_shr_laws (fits R cs) tt)
      (each_to_all R nothing beside row nothing beside row (λ s _. ShrLaws s) nothing_shr_laws (λ s s' _ _. beside_shr_laws s s') (cell_shared b) o cs)

module _ {M : Type 1} {𝓤 : Ura M} (𝓛 : Logic 𝓤) (l : Lft) (R : RattleType) (L : Laws R) (lives : Incl l R.lives) where
  abbrev Goes : Fml → (Lft → Fml) → Type 1
  Goes P s = Lends 𝓛 P s l

  cell_lends : (b o : ℕ) (c : Option R.Denot) → Goes (cell_owned R b o c) (cell_lent R b o c)
  cell_lends b o None = Lends-nothing 𝓛 (cell_owned R b o None) l
  cell_lends b o (Some x) = λ κ ts. Shares-less 𝓛 R R.lives l lives (L.shares 𝓛) x κ ts b o

  pub piece_lends : (p : Ptr) (cs : List (Option R.Denot)) → Goes (piece_owned R p cs) (piece_lent R p cs)
  piece_lends null_ptr cs = Lends-false 𝓛 (said ffalse) l
  piece_lends (block_ptr b o) cs =
      let both = λ (P P' : Fml) (s s' : Lft → Fml). Lends-both 𝓛 P P' s s' l in
      both (fits R cs) (cells_owned R b o cs) (said (fits R cs)) (cells_lent R b o cs) (Lends-said 𝓛 (fits R cs) tt l)
      (each_to_all R ftrue fsep (cell_owned R b) nothing beside (cell_lent R b) Goes (Lends-nothing 𝓛 ftrue l) both (cell_lends b) o cs)
