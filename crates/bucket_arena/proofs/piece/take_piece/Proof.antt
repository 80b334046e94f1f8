-- `take_piece` asks the allocator for the room of an array, and makes a piece of bare cells and its title of what it gives. Assumes `Logic`.
use Rattle.bucket_arena.proofs.Steps.{◌≡◌, ◌*◌, ◌<◌, ◌^◌, [], ◌∷◌, refl, ap, ftrue, flft, Incl-trans, ◌⊑◌, fact, fact_i, tables, owns, types_at, uint_vals, uint_Tells, shr_vals, shr_Tells, heard, Ended, Stays, stay_dropped, walk_of, Goes-dropped, inst_fn, Fn, Body, w64, named, vint, vptr, alloc_all, pass_all, free_all, look_at, get, get_in, sets, sets_last, env, ‵, raw, ◌⊛◌, later, at_ret, ◌$◌, ◌∵◌, !, qed, by, move, drop, use0, use1, use2, split, join, fsplit, await, whole, enter, stop, fld, of_opd, bin, first, exec, returns, and_then, no_more, after, proved, all_used, ends_with}
use base.Logic.{emp}
use lib.Dec.{lit<}
use mathlib.Core.Bool.{true, false}
use mir.Val.{WT}
use prog.Wp.{Wp, after_seq, at_return}
use types.ByLocal.{get_tag, is, lands_as}
use types.Kit.{any_q}
use types.Match.{vrt, in_variant}
use types.Part.{agg}
use types.Run.{lit, size_word, align_word, switches_on}
use denote.Builtin.{RefOf, usize}
use denote.Exit.{yes}
use denote.Signature.{Slot, plain}
use denote.Triple.Call.{calls_at}
use denote.Triple.Table.{framed}
use Rattle.std.specs.Prelude.{IfOk, Ok, Err, None, replicate}
use Rattle.std.specs.Vec.Ownership.{FitsInBlock}
use Rattle.core.proofs.mem.Param.{El, R}
use Rattle.core.proofs.alloc.Calls.{Al, Answer-typed, Takes, Takes-gives, Answered, answers}
use Rattle.core.proofs.slots.Bodies.{head, arm_body}
use Rattle.core.proofs.slots.Leases.{P, args, block_ty}
use Rattle.std_alloc.proofs.ResultValues.{ok_val}
use Rattle.bucket_arena.proofs.Cells.{width}
use Rattle.bucket_arena.proofs.Blocks.{AreOctets, octets, Taken, taken, taken_val, err_val, no_octets, took, refused, asking, asks}
use Rattle.bucket_arena.specs.contracts.piece.take_piece as deed
use Rattle.bucket_arena.specs.contracts.piece.take_piece.Key.{name as callee}
use Rattle.bucket_arena.proofs.piece.take_piece.Statement.{statement}
use Rattle.bucket_arena.proofs.piece.take_piece.Code as code

abbrev word : Slot 3
word = plain (λ _. usize)

module _ (E : El) (Z : Al) where
  abbrev handle : Slot 3
  handle = RefOf (0 ∷ []) tt (plain (λ _. P E Z)) (λ _. tt)

  abbrev T : Ended
  T = deed.ended E.row Z.row Z.g Z.d Z.drops

  abbrev used : Stays T.signature.params T.kept
  used = (stay_dropped handle yes, (stay_dropped word yes, tt))

  abbrev fn : Fn
  fn = inst_fn (args E Z) code.function

  -- the `match`
  abbrev cases : Body
  cases = head (after 2 fn.body)

pub take_piece_spec : {M : Type 1} → statement M
take_piece_spec 𝓤 𝓛 𝓜 𝓡 wired X Y LX LY g d drops met _ =
    let E : El = record { row = X; laws = LX } in let Z : Al = record { row = Y; laws = LY; g = g; d = d; drops = drops } in
    let c = deed.clauses X Y g d drops 𝓛 𝓜.mem 𝓡.returns in
    let 𝓣 = tables 𝓤 𝓛.H 𝓜 𝓡 𝓡.env in
    proved 𝓛 (T E Z) (used E Z) c 𝓜 𝓡 (Goes-dropped 𝓛 3 (handle E Z) yes (λ κs x f. refl), (Goes-dropped 𝓛 3 word yes (λ κs x f. refl), tt))
    (callee (args E Z)) (fn E Z) (code.unfolded 𝓤 𝓛.H 𝓜 𝓡 wired (X, (Y, tt)) d drops)
    (λ κs. (shr_vals, (uint_vals w64, tt))) (λ κs. (shr_Tells (named 0) κs.0 (P E Z), (uint_Tells w64, tt))) (λ κs qs bounds args' gh are.
    let κ = κs.0 in let q = qs.0 in let at = args'.0.ref_ptr in let a = args'.0.now in let n = args'.1.0 in
    let y : (walk_of 𝓛 (T E Z) (used E Z) c).Ghost = ((κs, qs, bounds, args', (shr_vals args'.0, (uint_vals w64 n, tt))), gh) in
    let End = (walk_of 𝓛 (T E Z) (used E Z) c).post y in
    let Says : (Taken E Z).Denot → Type 0 = λ r. IfOk r (λ t. (t.0.cells ≡ replicate n None) × (t.1.at ≡ t.0.at) × (t.1.room ≡ n) × (t.1.alloc ≡ a)) in
    let Asked : Type 0 = FitsInBlock (R E) n in
    qed 𝓛 (((‵ (flft κ q) ⊛ ‵ (flft κs.1.0 qs.1.0) ⊛ ‵ (flft κs.1.1.0 qs.1.1.0) ⊛ ‵ ftrue) ⊛ ‵ (owns (types_at (T E Z).signature.params κs) args' y.0.4))
    ∷ (raw (fact 𝓤 (κs.1.0 ⊑ X.lives)) ⊛ raw (fact 𝓤 (κs.1.1.0 ⊑ Y.lives)) ⊛ raw (fact 𝓤 Asked)) ∷ []) ∵
    move ! (1 ∷ []) $ split ! $ drop ! $ split ! $ heard ! (κs.1.1.0 ⊑ Y.lives) (λ lives. heard ! Asked (λ asked.
    let small : n * width E < 2 ^ 63 = asked.0 in let octet : AreOctets E n = octets E n small in
    split ! $ split ! $ move ! (2 ∷ []) $ fsplit ! $ move ! (1 ∷ []) $ drop ! $ fsplit ! $ drop ! $
    enter ! 𝓣.C 𝓣.Λ (fn E Z) (vptr at.0 at.1 ∷ vint w64 n ∷ []) End $ alloc_all ! (λ l. pass_all ! refl ((tt, tt), ((tt, record { fits = are.1.0.1 }), tt)) $
    let here = env (fn E Z).locals l in
    let Rest = any_q (after_seq 𝓤 𝓛.H (Wp 𝓤 𝓛.H 𝓣.C 𝓣.Λ here (after 3 (fn E Z).body) (at_return 𝓤 𝓛.H here End)) (at_return 𝓤 𝓛.H here End)) in
    sets ! (is ! (bin ! (get ! refl) (size_word !) (record { fits = octet.counted })) (ap (vint w64) octet.same)) refl (tt, record { fits = octet.few }) $
    use2 𝓛 (raw ((Takes Z 𝓛 𝓜.mem 𝓡.returns).pre (asking E Z 𝓛 𝓜.mem 𝓡.returns κ q at a n))) (asks E Z 𝓛 𝓜.mem 𝓡.returns κ q at a n (Incl-trans bounds.0 lives) octet) $
    calls_at ! (framed 𝓤 𝓛.H 𝓜 𝓣) (Takes Z 𝓛 𝓜.mem 𝓡.returns) (met.allocate drops) (asking E Z 𝓛 𝓜.mem 𝓡.returns κ q at a n)
    (and_then ! (get ! refl) (and_then ! (get ! refl) (and_then ! (align_word !) (no_more !)))) (λ v.
    use1 𝓛 (later (raw (Answered Z 𝓛 𝓜.mem 𝓡.returns a (block_ty E n) v) ⊛ ‵ (flft κ q))) (Takes-gives Z 𝓛 𝓜.mem 𝓡.returns κ q at a (n * width E) (asking E Z 𝓛 𝓜.mem 𝓡.returns κ q at a n).0.3.1.1.0 (block_ty E n) v) $
    await ! tt $ split ! $ move ! (1 ∷ 2 ∷ []) $ join ! $ move ! (1 ∷ []) $ answers Z ! 𝓜.mem 𝓡.returns a (block_ty E n) v
    -- a block
    (λ b o is_ok.
    let r = Ok (taken E Z a n b o) in let w = ok_val (taken_val b o) in let typed : WT w = (record { fits = lit< tt }, (((tt, tt), ((tt, tt), tt)), tt)) in
    lands_as ! is_ok refl (Answer-typed true b o) $ first ! $ switches_on ! (get_tag ! (vrt ! refl (fld ! refl (stop !))) (whole !)) $ exec ! 𝓣.C 𝓣.Λ here (arm_body 0 (cases E Z)) Rest $
    sets ! (of_opd ! (get_in ! (vrt ! refl (fld ! refl (stop !))) (in_variant ! 0 0 refl refl (whole !)))) refl (tt, tt) $
    sets ! (of_opd ! (get ! refl)) refl (tt, tt) $ sets ! (agg ! (and_then ! (get ! refl) (no_more !))) refl (tt, (tt, tt)) $
    sets ! (agg ! (no_more !)) refl (tt, tt) $ sets ! (agg ! (and_then ! (get ! refl) (no_more !))) refl (tt, (tt, tt)) $
    sets ! (of_opd ! (get ! refl)) refl (tt, (tt, tt)) $ sets ! (of_opd ! (get ! refl)) refl (tt, (tt, tt)) $
    sets ! (agg ! (and_then ! (get ! refl) (and_then ! (get ! refl) (no_more !)))) refl (tt, ((tt, tt), ((tt, tt), tt))) $
    sets_last ! (agg ! (and_then ! (lit ! tt) (and_then ! (get ! refl) (no_more !)))) refl (tt, typed) $
    exec ! 𝓣.C 𝓣.Λ here (after 3 (fn E Z).body) (at_ret here End) $ sets ! (of_opd ! (get ! refl)) refl (tt, typed) $
    use2 𝓛 (‵ ((Taken E Z).own_val r (w ∷ []))) (took E Z 𝓛 a n b o small) $ returns ! (look_at ! 0 refl) $ free_all ! refl $ move ! (1 ∷ []) $
    by ! (ends_with 𝓛 (T E Z) (used E Z) c y w r (tt, (tt, tt)) (tt, (tt, tt)) (all_used 𝓛 2) (fact_i 𝓤 (Says r) (emp 𝓤) (refl, refl, refl, refl))))
    -- no block
    (λ is_err.
    let r = Err (record {}) in let w = err_val no_octets in let typed : WT w = (record { fits = lit< tt }, (tt, tt)) in
    lands_as ! is_err refl (Answer-typed false 0 0) $ first ! $ switches_on ! (get_tag ! (vrt ! refl (fld ! refl (stop !))) (whole !)) $ exec ! 𝓣.C 𝓣.Λ here (arm_body 1 (cases E Z)) Rest $
    sets ! (of_opd ! (get_in ! (vrt ! refl (fld ! refl (stop !))) (in_variant ! 1 0 refl refl (whole !)))) refl (tt, tt) $
    sets_last ! (agg ! (and_then ! (lit ! tt) (and_then ! (get ! refl) (no_more !)))) refl (tt, typed) $
    exec ! 𝓣.C 𝓣.Λ here (after 3 (fn E Z).body) (at_ret here End) $ sets ! (of_opd ! (get ! refl)) refl (tt, typed) $
    use0 𝓛 (‵ ((Taken E Z).own_val r (w ∷ []))) (refused E Z 𝓛) $ returns ! (look_at ! 0 refl) $ free_all ! refl $ move ! (1 ∷ []) $
    by ! (ends_with 𝓛 (T E Z) (used E Z) c y w r (tt, (tt, tt)) (tt, (tt, tt)) (all_used 𝓛 2) (fact_i 𝓤 (Says r) (emp 𝓤) tt))))))))
