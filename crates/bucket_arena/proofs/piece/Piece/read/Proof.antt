-- `read` walks to the cell by the pointer, which the `&` to the piece shows, and hands on the `&` to the value there. Assumes `Logic`.
use Rattle.bucket_arena.proofs.Steps.{◌≡◌, ◌+◌, ◌*◌, List, [], ◌∷◌, refl, ftrue, flft, ◌⊑◌, fact, fact_i, tables, hidden_shr, hide, uint_vals, uint_Tells, owns, RawPtr, shr_vals, shr_Tells, types_at, heard, Ended, Stays, stay_dropped, walk_of, Goes-dropped, inst_fn, Fn, w64, named, Val, vint, vptr, alloc_all, pass_all, free_all, look_at, get, through, sets, sets_last, env, ‵, raw, ◌⊛◌, some, at_ret, ◌$◌, ◌∵◌, !, qed, by, move, drop, use1, pick, learn, split, join, fsplit, fjoin, feq_i, enter, stop, fld, load, look, addr, size_lit, of_opd, bin, first, blocks, exec, returns, after, proved, all_used, ends_with}
use denote.Builtin.{RefOf, usize}
use base.Logic.{emp}
use denote.Exit.{yes}
use denote.Signature.{Slot, plain}
use Rattle.std.specs.Prelude.{Some, None, get_or}
use Rattle.core.proofs.mem.Param.{El, args, el_x}
use Rattle.core.proofs.slots.Lent.{pointer_in, pointer_out}
use Rattle.bucket_arena.proofs.Cells.{width}
use Rattle.bucket_arena.proofs.Pieces.{Row, Shown, lent}
use Rattle.bucket_arena.proofs.Written.{within}
use Rattle.bucket_arena.specs.contracts.piece.Piece.read as deed
use Rattle.bucket_arena.specs.contracts.piece.Piece.read.Key.{name as callee}
use Rattle.bucket_arena.proofs.piece.Piece.read.Statement.{statement}
use Rattle.bucket_arena.proofs.piece.Piece.read.Code as code

abbrev word : Slot 2
word = plain (λ _. usize)

module _ (E : El) where
  abbrev lent_piece : Slot 2
  lent_piece = RefOf (0 ∷ []) tt (plain (λ _. Row E)) (λ _. tt)

  abbrev T : Ended
  T = deed.ended E.row

  abbrev used : Stays T.signature.params T.kept
  used = (stay_dropped lent_piece yes, (stay_dropped word yes, tt))

  abbrev fn : Fn
  fn = inst_fn (args E) code.function

pub read_spec : {M : Type 1} → statement M
read_spec 𝓤 𝓛 𝓜 𝓡 wired X L =
    let E : El = record { row = X; laws = L } in
    let c = deed.clauses X 𝓛 𝓜.mem 𝓡.returns in
    let 𝓣 = tables 𝓤 𝓛.H 𝓜 𝓡 𝓡.env in
    proved 𝓛 (T E) (used E) c 𝓜 𝓡 (Goes-dropped 𝓛 2 (lent_piece E) yes (λ κs x f. refl), (Goes-dropped 𝓛 2 word yes (λ κs x f. refl), tt))
    (callee (args E)) (fn E) (code.unfolded 𝓤 𝓛.H 𝓜 𝓡 wired (X, tt))
    (λ κs. (shr_vals, (uint_vals w64, tt))) (λ κs. (shr_Tells (named 0) κs.0 (Row E), (uint_Tells w64, tt))) (λ κs qs bounds a g are.
    let κ = κs.0 in let self = a.0 in let p = self.now.at in let cs = self.now.cells in let i = a.1.0 in
    let b = self.ref_ptr.0 in let o = self.ref_ptr.1 in
    let y : (walk_of 𝓛 (T E) (used E) c).Ghost = ((κs, qs, bounds, a, (shr_vals self, (uint_vals w64 i, tt))), g) in
    let Holds : Type 0 = (x : el_x E) × (get_or cs i None ≡ Some x) in
    qed 𝓛 (((‵ (flft κ qs.0) ⊛ ‵ (flft κs.1.0 qs.1.0) ⊛ ‵ ftrue) ⊛ ‵ (owns (types_at (T E).signature.params κs) a y.0.4)) ∷ (raw (fact 𝓤 (κs.1.0 ⊑ X.lives)) ⊛ raw (fact 𝓤 Holds)) ∷ []) ∵
    move ! (1 ∷ []) $ split ! $ drop ! $ heard ! Holds (λ holds.
    let x = holds.0 in
    split ! $ split ! $ move ! (2 ∷ []) $ fsplit ! $ move ! (1 ∷ []) $ drop ! $ fsplit ! $ drop ! $
    use1 𝓛 (‵ (hidden_shr RawPtr κ p b (o + 0)) ⊛ some (Shown E 𝓛 cs i x κ p)) (lent E 𝓛 κ self.now b o i x (within cs i x holds.1) holds.1) $
    split ! $ move ! (1 ∷ []) $ pick ! (λ at. learn ! (λ is. hide ! $ move ! (1 ∷ 2 ∷ []) $
    -- [the `&` to the pointer; its token; the `&` to the value; the other tokens]
    let before = i * width E in let spot = before + at.1 in
    enter ! 𝓣.C 𝓣.Λ (fn E) (vptr b o ∷ vint w64 i ∷ []) _ $ alloc_all ! (λ l. pass_all ! refl ((tt, tt), ((tt, record { fits = are.1.0.1 }), tt)) $
    first ! $ blocks ! $ pointer_in ! tt p at.0 at.1 is.block b (o + 0) (λ part.
    sets ! (of_opd ! (load ! (through ! refl (fld ! refl (stop !))) (look ! 0 refl))) refl (tt, tt) $ pointer_out ! tt p at.0 at.1 is.block b (o + 0) $
    sets ! (bin ! (get ! refl) (size_lit ! (record { fits = is.one })) (record { fits = is.before })) refl (tt, record { fits = is.before }) $
    sets ! (bin ! (get ! refl) (get ! refl) tt) refl (tt, tt) $ sets_last ! (addr ! (through ! refl (stop !))) refl (tt, tt) $
    exec ! 𝓣.C 𝓣.Λ (env (fn E).locals l) (after 1 (fn E).body) (at_ret _ ((walk_of 𝓛 (T E) (used E) c).post y)) $
    sets ! (of_opd ! (get ! refl)) refl (tt, tt) $ returns ! (look_at ! 0 refl) $ free_all ! refl $
    move ! (0 ∷ 2 ∷ []) $ join ! $ move ! (1 ∷ []) $ feq_i ! (List Val) (vptr at.0 spot ∷ []) (vptr at.0 spot ∷ []) refl $ fjoin ! $ move ! (1 ∷ []) $
    by ! (ends_with 𝓛 (T E) (used E) c y (vptr at.0 spot) (record { ref_ptr = (at.0, spot); now = x }) (tt, (tt, tt)) (tt, (tt, tt)) (all_used 𝓛 2) (fact_i 𝓤 (get_or cs i None ≡ Some x) (emp 𝓤) holds.1))))))))
