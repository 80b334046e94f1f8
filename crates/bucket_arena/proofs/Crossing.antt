-- A piece and its title may go to another thread, as the values and the allocator may.
use Rattle.std.specs.Prelude.{ℕ, List, Option, Some, None}
use mathlib.Core.Path.{◌≡◌, refl, sym, subst}
use base.Fml.{ftrue, fsep}
use base.Fraction.{full_share}
use base.Shift.{Keyless}
use denote.RattleType.{RattleType}
use denote.Exit.{Kept, hidden, under}
use denote.RawPtr.{Ptr, block_ptr, null_ptr}
use denote.Struct.Struct.{exits_of}
use denote.Struct.Owning.{Owning, row, shape, fields, to}
use denote.Param.Send.{Quiet, IsSend, AllSend, part_keyless, owning_send, struct_send, sendable}
use Rattle.core.specs.declared.alloc.Allocator.{Ghosts}
use Rattle.std_alloc.proofs.SendSync.{FreesAnywhere, quiet}
use Rattle.bucket_arena.specs.Piece.{cell_owned, piece_owned}
use Rattle.bucket_arena.specs.contracts.piece.Piece as piece
use Rattle.bucket_arena.specs.contracts.piece.Title as title
use Rattle.bucket_arena.proofs.Sides.{each_to_all}

-- a struct whose end is hidden crosses where its fields do, and what it owns beside them is of no thread
crosses : (O : Owning) → AllSend (fields O) → ((d : O.D) → Keyless (O.heap d)) → ((k : Kept) → O.exit k ≡ hidden (under (to O) (exits_of k (fields O)))) → IsSend (row O)
crosses O all free ends = owning_send O all free (λ k. subst Quiet (sym (ends k)) (quiet (to O) (exits_of k (fields O)) ((struct_send (shape O) all).leaving k)))

module _ (R : RattleType) where
  module _ (send : IsSend R) where
    cell_free : (b o : ℕ) (c : Option R.Denot) → Keyless (cell_owned R b o c)
    cell_free b o None = tt
    cell_free b o (Some x) = part_keyless R send full_share x b o

    piece_free : (p : Ptr) (cs : List (Option R.Denot)) → Keyless (piece_owned R p cs)
    piece_free null_ptr cs = tt
    piece_free (block_ptr b o) cs = let owned = cell_owned R b in (tt, each_to_all R ftrue fsep owned ftrue fsep owned (λ P _. Keyless P) tt (λ P P' _ _ k k'. (k, k')) (cell_free b) o cs)

    pub piece_send : IsSend (piece.the_row R)
    piece_send = crosses (piece.the_type R) (search sendable, tt) (λ d. piece_free d.at d.cells) (λ k. refl)

  pub title_send : (A : RattleType) (g : Ghosts A.Denot) → FreesAnywhere A.Denot g → IsSend (title.the_row R A g)
  title_send A g frees = crosses (title.the_type R A g) (search sendable, tt) (λ t. frees.frees t.alloc _ t.at) (λ k. refl)
