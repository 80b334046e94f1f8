-- The block behind a piece: what the allocator is asked for, what its answer becomes, and what goes back to it. Assumes `Logic`.
use mathlib.Core.Path.{◌≡◌, refl, sym, subst, ◌∙◌}
use Prim.Native.Nat.{ℕ, ◌*◌, ◌<◌, ◌^◌}
use native.Mathlib.Omega.{arith}
use mathlib.Core.List.{List, [], ◌∷◌}
use lib.ListN.{length, replicate}
use seplogic.Ra.Ura.{Ura}
use base.Logic.{SProp, ent, sep, emp}
use base.Fml.{Lft, Share, froom, flft}
use contract.BorrowLft.{◌⊑◌}
use contract.Monad.{Fun}
use mir.Val.{Val, vptr, vstruct, of_list, vnil}
use prog.Capped.{capped_fits}
use prog.Memory.{Memory, align, capped}
use prog.Routine.{Routine}
use types.Logic.{Logic, sem}
use types.Kit.{Item, mean, ‵, ◌⊛◌, some, given, ◌$◌, ◌∵◌, !, qed, by, move, drop, use1, use2, fsplit, fjoin, rewrite, pick, learn, show, check, frame, done}
use types.Match.{live}
use denote.Laws.{Is}
use denote.Param.Laws.{param_laws}
use denote.RattleType.{RattleType}
use denote.RawPtr.{Ptr, block_ptr}
use denote.Steps.{owned}
use denote.Struct.Declared as Declared
use denote.Struct.Owning.{shape}
use denote.Struct.Struct.{Struct, Struct-Makes}
use denote.Struct.Tuple.{Tuple}
use Rattle.std.specs.Prelude.{Ok, Err, None}
use Rattle.core.specs.contracts.alloc.AllocError as AllocError
use Rattle.core.specs.contracts.result.Result as Result
use Rattle.core.proofs.mem.Param.{El, R, elτ}
use Rattle.core.proofs.alloc.Calls.{Al, token, seen, Takes, Gives, at_takes, at_gives, Takes-goes, Gives-goes}
use Rattle.core.proofs.slots.Leases.{P, uncapped, block_ty, block_size, block_align}
use Rattle.std_alloc.proofs.Pairs.{pair_val, pair_of}
use Rattle.std_alloc.proofs.ResultValues.{ok_val, ok_of, err_of}
use Rattle.bucket_arena.specs.Piece.{piece_owned}
use Rattle.bucket_arena.specs.contracts.piece.Piece as piece
use Rattle.bucket_arena.specs.contracts.piece.Title as title
use Rattle.bucket_arena.proofs.piece.Title.TheLaws.{lowers}
use Rattle.bucket_arena.proofs.Cells.{width}
use Rattle.bucket_arena.proofs.Pieces.{Row, Words, piece_val, made, Emptied, emptied}

-- a struct that takes no octets, and the one that wraps it
abbrev pub no_octets : Val
no_octets = vstruct vnil

abbrev pub title_val : Val
title_val = vstruct (of_list (no_octets ∷ []))

abbrev pub taken_val : ℕ → ℕ → Val
taken_val b o = pair_val (piece_val (block_ptr b o)) title_val

abbrev pub err_val : Val → Val
err_val v = live 1 (of_list (v ∷ []))

module _ (E : El) where
  -- the octets of n cells, as the code counts them
  pub record AreOctets (n : ℕ) : Type 0 where
    pub few : n * width E < 2 ^ 64
    pub counted : n * capped (width E) < 2 ^ 64
    pub same : n * capped (width E) ≡ n * width E

  pub octets : (n : ℕ) → n * width E < 2 ^ 63 → AreOctets n
  octets n fit =
      let few : n * width E < 2 ^ 64 = omega arith in let same = uncapped n (width E) few in
      record { few = few; counted = subst (λ (k : ℕ). k < 2 ^ 64) (sym same) few; same = same }

module _ (E : El) (Z : Al) where
  abbrev pub Title : RattleType
  Title = title.the_row (R E) (P E Z) Z.g

  -- a title's one field
  abbrev pub Mark : RattleType
  Mark = Struct (shape (title.the_type (R E) (P E Z) Z.g))

  abbrev pub Both : RattleType
  Both = Tuple (Row E ∷ Title ∷ [])

  -- the machine value of a title
  pub title_spelled : (t : Title.Denot) (vs : List Val) → Is Title t vs → vs ≡ title_val ∷ []
  title_spelled = (lowers (R E) (P E Z) Z.g (param_laws 0 E.row E.laws) (param_laws 1 Z.row Z.laws)).val_is

  -- what `take_piece` answers
  abbrev pub Taken : RattleType
  Taken = Result.the_row Both AllocError.the_row

  -- a piece of n bare cells at the start of a block, and the title to it
  abbrev pub taken : Z.row.Denot → ℕ → ℕ → ℕ → Both.Denot
  taken a n b o = (record { at = block_ptr b o; cells = replicate n None }, record { mark = record {}; at = block_ptr b o; room = n; alloc = a })

module _ (E : El) (Z : Al) {M : Type 1} {𝓤 : Ura M} (𝓛 : Logic 𝓤) where
  open 𝓛 use {H}

  pub took : (a : Z.row.Denot) (n b o : ℕ) → n * width E < 2 ^ 63
      → ent 𝓤 (sep 𝓤 (H.room (block_ty E n) b o) (sem 𝓛 (token Z a (block_ty E n) (block_ptr b o)))) (sem 𝓛 ((Taken E Z).own_val (Ok (taken E Z a n b o)) (ok_val (taken_val b o) ∷ [])))
  took a n b o fit =
      let p = block_ptr b o in let both = taken E Z a n b o in
      qed 𝓛 (‵ (froom (block_ty E n) b o) ∷ ‵ (token Z a (block_ty E n) p) ∷ []) ∵
      use1 𝓛 (‵ (piece_owned (R E) p (replicate n None))) (made E 𝓛 n b o fit) $
      owned ! (Words E) (Is (Words E)) (Struct-Makes 𝓛 (shape (piece.the_type (R E))) ((λ x vs. tt), tt)) (p, tt) (piece_val p ∷ []) ((vptr b o ∷ [], tt), (refl, (refl, tt))) $ fjoin ! $ move ! (1 ∷ []) $
      owned ! (Mark E Z) (Is (Mark E Z)) (Struct-Makes 𝓛 (shape (title.the_type (R E) (P E Z) Z.g)) ((λ x vs us. (tt, tt)), tt)) (tt, tt) (title_val ∷ []) ((no_octets ∷ [], tt), (refl, ((tt, (refl, tt)), tt))) $ fjoin ! $ move ! (1 ∷ []) $
      use2 𝓛 (‵ ((Both E Z).own_val both (taken_val b o ∷ []))) (pair_of 𝓛 (Row E) (Title E Z) both.0 both.1 (piece_val p) title_val) $ by ! (ok_of 𝓛 (Both E Z) AllocError.the_row both (taken_val b o))

  -- a refusal takes nothing
  pub refused : ent 𝓤 (emp 𝓤) (sem 𝓛 ((Taken E Z).own_val (Err (record {})) (err_val no_octets ∷ [])))
  refused =
      let Empty = Struct (Declared.shape AllocError.the_type) in
      qed 𝓛 [] ∵ owned ! Empty (Is Empty) (Struct-Makes 𝓛 (Declared.shape AllocError.the_type) tt) tt (no_octets ∷ []) (tt, (refl, tt)) $ by ! (err_of 𝓛 (Both E Z) AllocError.the_row (record {}) no_octets)

  -- a piece of n cells and the title to it are the block, and the right to free it
  abbrev pub Surrendered : (Row E).Denot → Z.row.Denot → ℕ → ℕ × ℕ → Item 𝓤
  Surrendered d a n at = given ((d.at ≡ block_ptr at.0 at.1) × (n * width E < 2 ^ 63)) (‵ (froom (block_ty E n) at.0 at.1) ⊛ ‵ (token Z a (block_ty E n) (block_ptr at.0 at.1)))

  pub surrendered : (d : (Row E).Denot) (t : (Title E Z).Denot) (a : Z.row.Denot) (n : ℕ) (us ws : List Val)
      → (t.at ≡ d.at) × (t.room ≡ n) × (length d.cells ≡ n) × (t.alloc ≡ a)
      → ent 𝓤 (sep 𝓤 (sem 𝓛 ((Row E).own_val d us)) (sem 𝓛 ((Title E Z).own_val t ws))) (mean 𝓛 (some (Surrendered d a n)))
  surrendered d t a n us ws asked =
      qed 𝓛 (‵ ((Row E).own_val d us) ∷ ‵ ((Title E Z).own_val t ws) ∷ []) ∵ fsplit ! $ drop ! $
      use1 𝓛 (some (Emptied E 𝓛 d.cells d.at)) (emptied E 𝓛 d.cells d.at) $ pick ! (λ at. learn ! (λ is.
      rewrite ! 0 (λ (k : ℕ). ‵ (froom (block_ty E k) at.0 at.1)) asked.2 refl $ move ! (1 ∷ []) $ fsplit ! $ drop ! $
      rewrite ! 0 (λ (k : Z.row.Denot × (ℕ × Ptr)). ‵ (token Z k.0 (block_ty E k.1.0) k.1.1)) (λ i. (asked.3 i, (asked.1 i, (asked.0 ∙ is.0) i))) refl $ move ! (1 ∷ []) $
      show ! (λ (to : ℕ × ℕ). mean 𝓛 (Surrendered d a n to)) at $ check ! (is.0, subst (λ (k : ℕ). k * width E < 2 ^ 63) asked.2 is.1) $ frame ! $ done !))

  module _ (at_mem : Memory → SProp 𝓤) (run : Routine → Fun 𝓤) (κ : Lft) (q : Share) (handle : ℕ × ℕ) (a : Z.row.Denot) (n : ℕ) where
    abbrev pub asking : (Takes Z 𝓛 at_mem run).Ghost
    asking = at_takes Z 𝓛 at_mem run κ q handle a (n * width E) (capped (align (elτ E))) (block_ty E n)

    pub asks : κ ⊑ Z.row.lives → AreOctets E n → ent 𝓤 (sep 𝓤 (sem 𝓛 (seen Z κ handle a)) (sem 𝓛 (flft κ q))) ((Takes Z 𝓛 at_mem run).pre asking)
    asks lives is = Takes-goes Z 𝓛 at_mem run κ q handle a lives (n * width E) _ (block_ty E n) (block_size E n is.few) (block_align E n) is.few (capped_fits (align (elτ E)))

    abbrev pub returning : ℕ → ℕ → (Gives Z 𝓛 at_mem run).Ghost
    returning b o = at_gives Z 𝓛 at_mem run κ q handle a b o (n * width E) (capped (align (elτ E))) (block_ty E n)

    pub returned : κ ⊑ Z.row.lives → AreOctets E n → (b o : ℕ)
        → ent 𝓤 (sep 𝓤 (H.room (block_ty E n) b o) (sep 𝓤 (sem 𝓛 (token Z a (block_ty E n) (block_ptr b o))) (sep 𝓤 (sem 𝓛 (seen Z κ handle a)) (sem 𝓛 (flft κ q))))) ((Gives Z 𝓛 at_mem run).pre (returning b o))
    returned lives is b o = Gives-goes Z 𝓛 at_mem run κ q handle a lives b o (n * width E) _ (block_ty E n) (block_size E n is.few) (block_align E n) is.few (capped_fits (align (elτ E)))
