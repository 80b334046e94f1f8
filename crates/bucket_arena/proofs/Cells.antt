-- A row of cells in raw memory: one cell comes out, with the way back for what is put there, and a whole row is the room
-- of an array. Assumes `Logic`.
use mathlib.Core.Path.{◌≡◌, refl, subst}
use Prim.Native.Nat.{ℕ, zero, suc, ◌+◌, ◌*◌, ◌<◌}
use native.Mathlib.Nat.{not-suc-le-zero, le_of_suc-le-suc}
use mathlib.Core.List.{List, [], ◌∷◌}
use lib.ListN.{length, get_or, set, replicate}
use seplogic.Ra.Ura.{Ura}
use base.Fraction.{full_share}
use base.Logic.{SProp, ent, sep, wand, via, mono∗, fst∗, snd∗, id⊢, apply∗}
use base.Fml.{Lft, fat}
use mir.Syntax.{ty_array}
use mir.Val.{Val}
use types.Logic.{Logic, sem}
use types.Kit.{‵, raw, ◌⊛◌, some, ◌$◌, ◌∵◌, !, qed, by, keep, move, drop, use1, pick, split, fsplit, fjoin, frame, assume, use2, done}
use denote.Index.{place, place_is}
use denote.Memory.{part_at}
use borrow.Table.OneValue.{part_out}
use Rattle.std.specs.Prelude.{Option, Some, None}
use Rattle.std.specs.Mem.{type_size}
use Rattle.core.proofs.mem.Param.{El, R, el_x, elτ}
use Rattle.bucket_arena.specs.Piece.{cell_owned, cells_owned, cell_lent, cells_lent}

module _ (E : El) where
  abbrev pub Cell : Type 0
  Cell = Option (el_x E)

  -- the octets of a cell
  abbrev pub width : ℕ
  width = type_size (R E)

module _ (E : El) {M : Type 1} {𝓤 : Ura M} (𝓛 : Logic 𝓤) (b : ℕ) where
  open 𝓛 use {H}

  abbrev pub single : ℕ → Cell E → SProp 𝓤
  single o c = sem 𝓛 (cell_owned (R E) b o c)

  abbrev pub row : ℕ → List (Cell E) → SProp 𝓤
  row o cs = sem 𝓛 (cells_owned (R E) b o cs)

  -- whatever a cell holds, it is room for a value
  pub vacated : (o : ℕ) (c : Cell E) → ent 𝓤 (single o c) (H.room (elτ E) b o)
  vacated o None = 𝓛.laws.raw-room (elτ E) b o
  vacated o (Some x) =
      qed 𝓛 (‵ (part_at (R E) full_share x b o) ∷ []) ∵
      use1 𝓛 (some (λ (v : Val). ‵ (fat full_share (elτ E) b o v) ⊛ ‵ (E.row.own_val x (v ∷ [])))) (part_out 𝓛 (R E) refl full_share x b o) $
      pick ! (λ v. split ! $ keep ! (0 ∷ []) $ by ! (𝓛.laws.at_room (elτ E) b o v))

  -- one cell out of the row, and the row again once a cell stands in its place
  swapped : (cs : List (Cell E)) (i o : ℕ) (new : Cell E) → i < length cs
      → ent 𝓤 (row o cs) (sep 𝓤 (single (place (width E) o i) (get_or cs i None)) (wand 𝓤 (single (place (width E) o i) new) (row o (set cs i new))))
  swapped [] i o new l = absurd (not-suc-le-zero l)
  swapped (c ∷ cs) zero o new l = qed 𝓛 (‵ (cells_owned (R E) b o (c ∷ cs)) ∷ []) ∵ fsplit ! $ frame ! $ assume ! (‵ (cell_owned (R E) b o new)) $ fjoin ! $ done !
  swapped (c ∷ cs) (suc i) o new l =
      let next = o + width E in let there = place (width E) next i in
      qed 𝓛 (‵ (cells_owned (R E) b o (c ∷ cs)) ∷ []) ∵ fsplit ! $ move ! (1 ∷ []) $
      use1 𝓛 (‵ (cell_owned (R E) b there (get_or cs i None)) ⊛ raw (wand 𝓤 (single there new) (row next (set cs i new)))) (swapped cs i next new (le_of_suc-le-suc l)) $
      split ! $ frame ! $ assume ! (‵ (cell_owned (R E) b there new)) $ use2 𝓛 (‵ (cells_owned (R E) b next (set cs i new))) (apply∗ 𝓤 (single there new) (row next (set cs i new))) $
      move ! (1 ∷ []) $ fjoin ! $ done !

  pub cell_swapped : (cs : List (Cell E)) (i o : ℕ) (new : Cell E) → i < length cs
      → ent 𝓤 (row o cs) (sep 𝓤 (single (i * width E + o) (get_or cs i None)) (wand 𝓤 (single (i * width E + o) new) (row o (set cs i new))))
  cell_swapped cs i o new l =
      subst (λ (at : ℕ). ent 𝓤 (row o cs) (sep 𝓤 (single at (get_or cs i None)) (wand 𝓤 (single at new) (row o (set cs i new))))) (place_is (width E) o i) (swapped cs i o new l)

  -- the room of an array is a row of bare cells
  pub all_bare : (n o : ℕ) → ent 𝓤 (H.room (ty_array (elτ E) n) b o) (row o (replicate n None))
  all_bare zero o = qed 𝓛 (raw (H.room (ty_array (elτ E) 0) b o) ∷ []) ∵ drop ! $ done !
  all_bare (suc n) o =
      via 𝓤 (sep 𝓤 (H.room (elτ E) b o) (H.room (ty_array (elτ E) n) b (o + width E))) (𝓛.laws.room_uncons (elτ E) n b o)
      (mono∗ 𝓤 (𝓛.laws.room-raw (elτ E) b o) (all_bare n (o + width E)))

  -- and each row is the room of an array
  pub all_vacated : (cs : List (Cell E)) (o : ℕ) → ent 𝓤 (row o cs) (H.room (ty_array (elτ E) (length cs)) b o)
  all_vacated [] o = 𝓛.laws.room_nil (elτ E) b o
  all_vacated (c ∷ cs) o =
      via 𝓤 (sep 𝓤 (H.room (elτ E) b o) (H.room (ty_array (elτ E) (length cs)) b (o + width E))) (mono∗ 𝓤 (vacated o c) (all_vacated cs (o + width E)))
      (𝓛.laws.room_cons (elτ E) (length cs) b o)

  -- a row that is lent shows each value in it
  module _ (κ : Lft) (x : el_x E) where
    abbrev lent : ℕ → Cell E → SProp 𝓤
    lent o c = sem 𝓛 (cell_lent (R E) b o c κ)

    abbrev all_lent : ℕ → List (Cell E) → SProp 𝓤
    all_lent o cs = sem 𝓛 (cells_lent (R E) b o cs κ)

    found : (cs : List (Cell E)) (i o : ℕ) → i < length cs → get_or cs i None ≡ Some x → ent 𝓤 (all_lent o cs) (lent (place (width E) o i) (Some x))
    found [] i o l holds = absurd (not-suc-le-zero l)
    found (c ∷ cs) zero o l holds = via 𝓤 (lent o c) (fst∗ 𝓤 (lent o c) (all_lent (o + width E) cs)) (subst (λ (a : Cell E). ent 𝓤 (lent o c) (lent o a)) holds (id⊢ 𝓤 (lent o c)))
    found (c ∷ cs) (suc i) o l holds = via 𝓤 (all_lent (o + width E) cs) (snd∗ 𝓤 (lent o c) (all_lent (o + width E) cs)) (found cs i (o + width E) (le_of_suc-le-suc l) holds)

    pub value_found : (cs : List (Cell E)) (i o : ℕ) → i < length cs → get_or cs i None ≡ Some x → ent 𝓤 (all_lent o cs) (lent (i * width E + o) (Some x))
    value_found cs i o l holds = subst (λ (at : ℕ). ent 𝓤 (all_lent o cs) (lent at (Some x))) (place_is (width E) o i) (found cs i o l holds)
