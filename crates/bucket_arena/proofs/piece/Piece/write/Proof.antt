-- `write` opens the `&mut`, makes room of the cell, puts the value there and closes the `&mut` at the cells that are now. Assumes `Logic`.
use Rattle.bucket_arena.proofs.Steps.{◌≡◌, ◌+◌, ◌*◌, ◌<◌, List, [], ◌∷◌, ◌++◌, refl, sym, ap, ◌∙◌, sep, ftrue, flft, ◌⊑◌, fact, fact_i, tables, cell_at, owns, Ptr, types_at, heard, opens, closes, peeks, Ended, Stays, stay_dropped, stay_ref, walk_of, Goes-dropped, Goes-ref, inst_fn, Fn, w64, Val, vint, vptr, vunit, WpFn, alloc_all, pass_all, free_all, look_at, get, through, sets, env, ‵, raw, ◌⊛◌, some, prop, at_ret, ◌$◌, ◌∵◌, !, qed, by, move, keep, drop, use0, use1, use2, pick, learn, split, join, rewrite, regoal, fsplit, fsplit3, fjoin, fjoin3, feq_i, whole, sub, look_in, enter, stop, fld, load, size_lit, of_opd, bin, unit_lit, assigns_last, init, first, blocks, exec, returns, after, proved_at, leaves, nothing_of, all_used, block_ptr}
use base.Fraction.{full_share}
use base.Logic.{emp, apply∗}
use types.Logic.{sem}
use denote.Builtin.{usize}
use denote.Exit.{yes, no}
use denote.Laws.{shows}
use denote.Signature.{Slot, plain}
use lib.ListN.{length, set}
use Rattle.std.specs.Prelude.{Some}
use Rattle.core.proofs.mem.Param.{El, R, args, elτ, one, lawful}
use Rattle.bucket_arena.specs.Piece.{piece_owned}
use Rattle.bucket_arena.proofs.Cells.{width}
use Rattle.bucket_arena.proofs.Pieces.{Row, Opened, opened, spelled, piece_val}
use Rattle.bucket_arena.specs.contracts.piece.Piece.write as deed
use Rattle.bucket_arena.specs.contracts.piece.Piece.write.Key.{name as callee}
use Rattle.bucket_arena.proofs.piece.Piece.write.Statement.{statement}
use Rattle.bucket_arena.proofs.piece.Piece.write.Code as code

abbrev word : Slot 2
word = plain (λ _. usize)

module _ (E : El) where
  abbrev piece : Slot 2
  piece = plain (λ _. Row E)

  abbrev value : Slot 2
  value = plain (λ _. R E)

  abbrev T : Ended
  T = deed.ended E.row

  abbrev kept : Stays T.signature.params T.kept
  kept = (stay_ref (0 ∷ []) tt piece, (stay_dropped word yes, (stay_dropped value no, tt)))

  abbrev fn : Fn
  fn = inst_fn (args E) code.function

pub write_spec : {M : Type 1} → statement M
write_spec 𝓤 𝓛 𝓜 𝓡 wired X L =
    let E : El = record { row = X; laws = L } in
    let c = deed.clauses X 𝓛 𝓜.mem 𝓡.returns in
    let 𝓣 = tables 𝓤 𝓛.H 𝓜 𝓡 𝓡.env in
    proved_at 𝓛 (T E) (kept E) c 𝓜 𝓡 (Goes-ref 𝓛 2 0 tt (piece E), (Goes-dropped 𝓛 2 word yes (λ κs x f. refl), (Goes-dropped 𝓛 2 (value E) no (λ κs x f. refl), tt)))
    (callee (args E)) (fn E) (code.unfolded 𝓤 𝓛.H 𝓜 𝓡 wired (X, tt)) (λ y are.
    let κs = y.0.0 in let qs = y.0.1 in let a = y.0.3 in let vs = y.0.4 in
    let d = a.0.now in let i = a.1.0 in let x = a.1.1.0 in let b = a.0.ref_ptr.0 in let o = a.0.ref_ptr.1 in
    let got = one E vs.1.1.0 ((lawful E 𝓛).typed x vs.1.1.0 are.1.1.0) in let v = got.0 in
    let End = (walk_of 𝓛 (T E) (kept E) c).post y in
    qed 𝓛 (((‵ (flft κs.0 qs.0) ⊛ ‵ (flft κs.1.0 qs.1.0) ⊛ ‵ ftrue) ⊛ ‵ (owns (types_at (T E).signature.params κs) a vs)) ∷ (raw (fact 𝓤 (κs.1.0 ⊑ X.lives)) ⊛ raw (fact 𝓤 (i < length d.cells))) ∷ []) ∵
    move ! (1 ∷ []) $ split ! $ drop ! $ heard ! (i < length d.cells) (λ l.
    split ! $ split ! $ move ! (2 ∷ []) $ fsplit3 ! $ move ! (2 ∷ []) $ fsplit ! $ keep ! (2 ∷ 4 ∷ 0 ∷ 5 ∷ []) $
    fsplit3 ! $ move ! (1 ∷ 2 ∷ 3 ∷ []) $ rewrite ! 4 (λ (us : List Val). ‵ (X.own_val x us)) got.1 refl $
    regoal ! (λ (us : List Val). prop (WpFn 𝓤 𝓛.H 𝓣.C 𝓣.Λ (fn E) us End)) (λ k. are.0.0 k ++ (are.1.0.0 k ++ (got.1 k ++ []))) refl $
    enter ! 𝓣.C 𝓣.Λ (fn E) (vptr b o ∷ vint w64 i ∷ v ∷ []) End $ alloc_all ! (λ locals. pass_all ! refl ((tt, tt), ((tt, record { fits = are.1.0.1 }), (got.2, tt))) $
    opens ! tt (Row E) b o (λ us. move ! (1 ∷ []) $ peeks ! (Row E) _ (shows 𝓛 (Row E)) d us (λ is. fsplit ! $ move ! (1 ∷ []) $
    use1 𝓛 (some (Opened E 𝓛 d.cells i x d.at v)) (opened E 𝓛 d.cells i x d.at v l) $ pick ! (λ at. learn ! (λ place. split ! $
    let cell = λ (ws : List Val). ‵ (cell_at full_share (Row E).mir ws b o) in
    let spot = i * width E + at.1 in
    let word_is : us ≡ piece_val (block_ptr at.0 at.1) ∷ [] = spelled E d us is ∙ ap (λ (p : Ptr). piece_val p ∷ []) place.block in
    let now : (Row E).Denot = record { at = d.at; cells = set d.cells i (Some x) } in
    rewrite ! 3 cell word_is refl $
    -- [the room; the way back; the field; the pointer; the open `&mut`, in three entries; ..]
    first ! $ blocks ! $
    sets ! (of_opd ! (load ! (through ! refl (fld ! refl (stop !))) (look_in ! 3 (sub ! 0 refl (whole !))))) refl (tt, tt) $
    sets ! (bin ! (get ! refl) (size_lit ! (record { fits = place.one })) (record { fits = place.before })) refl (tt, record { fits = place.before }) $
    sets ! (bin ! (get ! refl) (get ! refl) tt) refl (tt, tt) $ sets ! (of_opd ! (get ! refl)) refl got.2 $
    assigns_last ! (of_opd ! (get ! refl)) (through ! refl (stop !)) (init ! 0 refl got.2) $
    exec ! 𝓣.C 𝓣.Λ (env (fn E).locals locals) (after 1 (fn E).body) (at_ret _ End) $ sets ! (of_opd ! (unit_lit !)) refl (tt, tt) $
    move ! (0 ∷ 8 ∷ []) $ join ! $ use2 𝓛 (‵ (piece_owned (R E) d.at now.cells)) (apply∗ 𝓤 (sep 𝓤 (𝓛.H.at full_share (elτ E) at.0 spot v) (sem 𝓛 (X.own_val x (v ∷ [])))) (sem 𝓛 (piece_owned (R E) d.at now.cells))) $
    rewrite ! 2 cell (sym word_is) refl $ move ! (1 ∷ 0 ∷ []) $ fjoin ! $ move ! (1 ∷ []) $ closes ! tt (Row E) now us b o $
    returns ! (look_at ! 0 refl) $ free_all ! refl $ move ! (3 ∷ 0 ∷ 1 ∷ []) $ fjoin3 ! $
    -- [the `&mut`; its token; the other tokens]
    use0 𝓛 (‵ (nothing_of 2)) (all_used 𝓛 2) $ move ! (1 ∷ 0 ∷ []) $ fjoin ! $ move ! (1 ∷ 2 ∷ []) $ join ! $
    feq_i ! (List Val) (vunit ∷ []) (vunit ∷ []) refl $ use0 𝓛 (raw (fact 𝓤 ((d.at ≡ d.at) × (now.cells ≡ now.cells)))) (fact_i 𝓤 ((d.at ≡ d.at) × (now.cells ≡ now.cells)) (emp 𝓤) (refl, refl)) $
    move ! (2 ∷ 3 ∷ 1 ∷ 0 ∷ []) $ by ! (leaves 𝓛 (T E) (kept E) c y vunit tt (now, (tt, (tt, tt))) (tt, (tt, (tt, tt)))))))))))
