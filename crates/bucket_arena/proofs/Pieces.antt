-- What each deed on a piece of raw memory needs of it and leaves, over plain variables: a pointer and the cells behind it.
--     made        room for an array is a piece of bare cells
--     opened      room for a value at one cell, and the piece again once the value stands there
--     shown       a `&` to a piece is a `&` to each value in it.        lent        and to its pointer
--     emptied     a piece is room for an array
-- Assumes `Logic`.
use mathlib.Core.Path.{◌≡◌, refl, sym, subst}
use Prim.Native.Nat.{ℕ, ◌+◌, ◌*◌, ◌<◌, ◌^◌}
use native.Mathlib.Omega.{arith}
use mathlib.Core.List.{List, [], ◌∷◌}
use lib.ListN.{length, get_or, set, replicate, length-set, length-replicate}
use seplogic.Ra.Ura.{Ura}
use base.Fraction.{full_share}
use base.Logic.{ent, sep, wand, via, mono∗, never_e, apply∗}
use base.Fml.{Lft, fat, froom}
use mir.Syntax.{ty_array}
use mir.Raw.{raw as bare}
use mir.Val.{Val, vstruct, of_list}
use types.Logic.{Logic, sem}
use types.Kit.{Item, mean, ‵, raw, ◌⊛◌, some, given, ◌$◌, ◌∵◌, !, qed, keep, use1, use2, split, fsplit, flt_i, flt_l, show, check, frame, assume, done}
use denote.RattleType.{RattleType}
use denote.Memory.{hidden_shr}
use denote.Laws.{Is}
use denote.Param.Laws.{param_laws}
use denote.Opens.{unhide}
use denote.Struct.Struct.{Struct}
use denote.Struct.Owning.{shape}
use denote.Struct.Lending.{lent_out}
use denote.RawPtr.{Ptr, RawPtr, block_ptr, null_ptr, ptr_val}
use borrow.Table.OneValue.{part_in}
use Rattle.std.specs.Prelude.{Some, None}
use Rattle.core.proofs.mem.Param.{El, R, el_x, elτ}
use Rattle.core.proofs.ptr.Rows.{times_below, one_below}
use Rattle.bucket_arena.specs.Piece.{cell_owned, cell_lent, piece_owned, piece_lent}
use Rattle.bucket_arena.specs.contracts.piece.Piece as P
use Rattle.bucket_arena.proofs.piece.Piece.TheLaws.{lowers}
use Rattle.bucket_arena.proofs.Cells.{Cell, width, row, single, vacated, cell_swapped, all_bare, all_vacated, value_found}

abbrev pub piece_val : Ptr → Val
piece_val p = vstruct (of_list (ptr_val p ∷ []))

module _ (E : El) where
  abbrev pub Row : RattleType
  Row = P.the_row (R E)

  -- a piece's one field
  abbrev pub Words : RattleType
  Words = Struct (shape (P.the_type (R E)))

  -- the machine value of a piece
  pub spelled : (d : Row.Denot) (vs : List Val) → Is Row d vs → vs ≡ piece_val d.at ∷ []
  spelled = (lowers (R E) (param_laws 0 E.row E.laws)).val_is

  -- the pointer is into a block, and the octets of a cell, and those before the i-th, are counted by a word
  pub record IsPlace (p : Ptr) (i : ℕ) (at : ℕ × ℕ) : Type 0 where
    pub block : p ≡ block_ptr at.0 at.1
    pub one : width E < 2 ^ 64
    pub before : i * width E < 2 ^ 64

  place_of : (b o n i : ℕ) → i < n → n * width E < 2 ^ 63 → IsPlace (block_ptr b o) i (b, o)
  place_of b o n i l fit = record {
    block = refl;
    one = omega (arith, one_below n (width E) (2 ^ 63) (omega arith) fit);
    before = omega (arith, times_below i n (width E) (2 ^ 63) (omega arith) fit);
  }

module _ (E : El) {M : Type 1} {𝓤 : Ura M} (𝓛 : Logic 𝓤) where
  open 𝓛 use {H}

  pub made : (n b o : ℕ) → n * width E < 2 ^ 63 → ent 𝓤 (H.room (bare (ty_array (elτ E) n)) b o) (sem 𝓛 (piece_owned (R E) (block_ptr b o) (replicate n None)))
  made n b o fit =
      qed 𝓛 (raw (H.room (bare (ty_array (elτ E) n)) b o) ∷ []) ∵
      use1 𝓛 (raw (row E 𝓛 b o (replicate n None))) (via 𝓤 (H.room (ty_array (elτ E) n) b o) (𝓛.laws.raw-room (ty_array (elτ E) n) b o) (all_bare E 𝓛 b n o)) $
      flt_i ! (length (replicate n None) * width E) (2 ^ 63) (subst (λ (k : ℕ). k * width E < 2 ^ 63) (sym (length-replicate n None)) fit) $ frame ! $ done !

  module _ (cs : List (Cell E)) (i : ℕ) (x : el_x E) where
    -- where cell i lies
    abbrev spot : ℕ × ℕ → ℕ
    spot at = i * width E + at.1

    -- for the machine value v of x: room at cell i, and the way back
    abbrev pub Opened : Ptr → Val → ℕ × ℕ → Item 𝓤
    Opened p v at = given (IsPlace E p i at) (‵ (froom (elτ E) at.0 (spot at))
        ⊛ raw (wand 𝓤 (sep 𝓤 (H.at full_share (elτ E) at.0 (spot at) v) (sem 𝓛 (E.row.own_val x (v ∷ [])))) (sem 𝓛 (piece_owned (R E) p (set cs i (Some x))))))

    pub opened : (p : Ptr) (v : Val) → i < length cs → ent 𝓤 (sem 𝓛 (piece_owned (R E) p cs)) (mean 𝓛 (some (Opened p v)))
    opened null_ptr v l = never_e 𝓤 (mean 𝓛 (some (Opened null_ptr v)))
    opened (block_ptr b o) v l =
        let at = spot (b, o) in
        qed 𝓛 (‵ (piece_owned (R E) (block_ptr b o) cs) ∷ []) ∵ fsplit ! $ flt_l ! (λ fit.
        use1 𝓛 (‵ (cell_owned (R E) b at (get_or cs i None)) ⊛ raw (wand 𝓤 (single E 𝓛 b at (Some x)) (row E 𝓛 b o (set cs i (Some x))))) (cell_swapped E 𝓛 b cs i o (Some x) l) $
        split ! $ use1 𝓛 (‵ (froom (elτ E) b at)) (vacated E 𝓛 b at (get_or cs i None)) $
        show ! (λ (to : ℕ × ℕ). mean 𝓛 (Opened (block_ptr b o) v to)) (b, o) $ check ! (place_of E b o (length cs) i l fit) $ frame ! $
        assume ! (‵ (fat full_share (elτ E) b at v) ⊛ ‵ (E.row.own_val x (v ∷ []))) $
        use1 𝓛 (‵ (cell_owned (R E) b at (Some x))) (part_in 𝓛 (R E) refl full_share x b at v) $
        use2 𝓛 (raw (row E 𝓛 b o (set cs i (Some x)))) (apply∗ 𝓤 (single E 𝓛 b at (Some x)) (row E 𝓛 b o (set cs i (Some x)))) $
        flt_i ! (length (set cs i (Some x)) * width E) (2 ^ 63) (subst (λ (k : ℕ). k * width E < 2 ^ 63) (sym (length-set cs i (Some x))) fit) $ frame ! $ done !)

    abbrev pub Shown : Lft → Ptr → ℕ × ℕ → Item 𝓤
    Shown κ p at = given (IsPlace E p i at) (‵ (cell_lent (R E) at.0 (spot at) (Some x) κ))

    pub shown : (κ : Lft) (p : Ptr) → i < length cs → get_or cs i None ≡ Some x → ent 𝓤 (sem 𝓛 (piece_lent (R E) p cs κ)) (mean 𝓛 (some (Shown κ p)))
    shown κ null_ptr l holds = never_e 𝓤 (mean 𝓛 (some (Shown κ null_ptr)))
    shown κ (block_ptr b o) l holds =
        qed 𝓛 (‵ (piece_lent (R E) (block_ptr b o) cs κ) ∷ []) ∵ fsplit ! $ flt_l ! (λ fit.
        use1 𝓛 (‵ (cell_lent (R E) b (spot (b, o)) (Some x) κ)) (value_found E 𝓛 b κ x cs i o l holds) $
        show ! (λ (to : ℕ × ℕ). mean 𝓛 (Shown κ (block_ptr b o) to)) (b, o) $ check ! (place_of E b o (length cs) i l fit) $ done !)

  -- and a `&` to its pointer
  pub lent : (κ : Lft) (d : (Row E).Denot) (b o i : ℕ) (x : el_x E) → i < length d.cells → get_or d.cells i None ≡ Some x
      → ent 𝓤 (sem 𝓛 (hidden_shr (Row E) κ d b o)) (mean 𝓛 (‵ (hidden_shr RawPtr κ d.at b (o + 0)) ⊛ some (Shown d.cells i x κ d.at)))
  lent κ d b o i x l holds =
      let pointer = qed 𝓛 (‵ (hidden_shr (Words E) κ (d.at, tt) b o) ∷ []) {P = sem 𝓛 (hidden_shr RawPtr κ d.at b (o + 0))} (unhide ! $ fsplit ! $ fsplit ! $ keep ! (0 ∷ []) $ done !) in
      via 𝓤 (sep 𝓤 (sem 𝓛 (hidden_shr (Words E) κ (d.at, tt) b o)) (sem 𝓛 (piece_lent (R E) d.at d.cells κ)))
      (lent_out 𝓛 (P.struct (R E)) (P.the_codes (R E).Denot (R E).coded) (P.the_heap (R E)) (P.the_lent (R E)) κ d b o) (mono∗ 𝓤 pointer (shown d.cells i x κ d.at l holds))

  abbrev pub Emptied : List (Cell E) → Ptr → ℕ × ℕ → Item 𝓤
  Emptied cs p at = given ((p ≡ block_ptr at.0 at.1) × (length cs * width E < 2 ^ 63)) (‵ (froom (bare (ty_array (elτ E) (length cs))) at.0 at.1))

  pub emptied : (cs : List (Cell E)) (p : Ptr) → ent 𝓤 (sem 𝓛 (piece_owned (R E) p cs)) (mean 𝓛 (some (Emptied cs p)))
  emptied cs null_ptr = never_e 𝓤 (mean 𝓛 (some (Emptied cs null_ptr)))
  emptied cs (block_ptr b o) =
      qed 𝓛 (‵ (piece_owned (R E) (block_ptr b o) cs) ∷ []) ∵ fsplit ! $ flt_l ! (λ fit.
      use1 𝓛 (‵ (froom (bare (ty_array (elτ E) (length cs))) b o))
      (via 𝓤 (H.room (ty_array (elτ E) (length cs)) b o) (all_vacated E 𝓛 b cs o) (𝓛.laws.room-raw (ty_array (elτ E) (length cs)) b o)) $
      show ! (λ (to : ℕ × ℕ). mean 𝓛 (Emptied cs (block_ptr b o) to)) (b, o) $ check ! (refl, fit) $ done !)
