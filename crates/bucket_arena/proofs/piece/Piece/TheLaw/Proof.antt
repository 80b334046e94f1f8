-- A `&` to a piece shows the value in each written cell. Assumes `Logic`.
use mathlib.Core.List.{[], ◌++◌}
use base.Fml.{Incl-trans}
use contract.BorrowLft.{meet_⊑_left}
use denote.RattleType.{RattleType}
use denote.Param.Laws.{Laws}
use denote.Param.Shared.{copy_shared}
use denote.Struct.Field.{RawPtr-field}
use denote.Struct.Laws.{RawPtr-copy}
use denote.Struct.Lending.{of_Lends}
use Rattle.bucket_arena.specs.contracts.piece.Piece as P
use Rattle.bucket_arena.proofs.piece.Piece.TheLaw.Statement.{statement}
use Rattle.bucket_arena.proofs.Sharing.{piece_shared, piece_lends}

pub shares : (R : RattleType) (L : Laws R) → statement R L
shares R L = of_Lends (P.struct R) (P.the_codes R.Denot R.coded) (P.the_heap R) (P.the_lent R)
    (λ d p. piece_shared R L.shr_laws d.at d.cells) (copy_shared RawPtr-field RawPtr-copy, tt)
    (λ M 𝓤 𝓛 d p. piece_lends 𝓛 (P.the_row R).lives R L (Incl-trans (meet_⊑_left (R.lives ++ []) _) (meet_⊑_left R.lives [])) d.at d.cells)
