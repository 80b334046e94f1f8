-- `give_back` hands the block that the piece and its title are to the allocator. Assumes `Logic`.
use Rattle.bucket_arena.proofs.Steps.{◌≡◌, ◌*◌, List, [], ◌∷◌, ◌++◌, refl, sym, subst, ap, ◌∙◌, ftrue, flft, Incl-trans, ◌⊑◌, fact, tables, owns, Ptr, block_ptr, types_at, heard, Ended, Stays, stay_dropped, walk_of, Goes-dropped, inst_fn, Fn, w64, Val, vint, vptr, vunit, WpFn, alloc_all, pass_all, free_all, look_at, get, get_in, sets, env, ‵, raw, ◌⊛◌, some, later, given, prop, at_ret, ◌$◌, ◌∵◌, !, qed, by, move, keep, drop, use1, use2, pick, learn, split, join, regoal, fsplit, fsplit3, feq_i, await, whole, sub, enter, stop, fld, of_opd, bin, unit_lit, first, blocks, exec, returns, and_then, no_more, after, proved_at, all_used, ends_with}
use base.Logic.{id⊢, emp}
use lib.Dec.{T as Holds}
use lib.ListN.{length}
use mir.Syntax.{ty_unit}
use mir.Val.{has_ty, WT}
use types.ByLocal.{is, lands_last}
use types.Kit.{group}
use types.Run.{size_word, align_word}
use denote.Builtin.{RefOf, usize}
use denote.Exit.{yes, no}
use denote.Signature.{Slot, plain}
use denote.Triple.Call.{calls_at_last}
use denote.Triple.Table.{framed}
use Rattle.core.proofs.mem.Param.{El}
use Rattle.core.proofs.alloc.Calls.{Al, Gives, Gives-Gives, Goes-blank}
use Rattle.core.proofs.slots.Leases.{P, args, block_ty}
use Rattle.bucket_arena.proofs.Cells.{width}
use Rattle.bucket_arena.proofs.Pieces.{Row, piece_val, spelled}
use Rattle.bucket_arena.proofs.Blocks.{AreOctets, octets, Title, title_val, title_spelled, Surrendered, surrendered, returning, returned}
use Rattle.bucket_arena.specs.contracts.piece.give_back as deed
use Rattle.bucket_arena.specs.contracts.piece.give_back.Key.{name as callee}
use Rattle.bucket_arena.proofs.piece.give_back.Statement.{statement}
use Rattle.bucket_arena.proofs.piece.give_back.Code as code

abbrev word : Slot 3
word = plain (λ _. usize)

module _ (E : El) (Z : Al) where
  abbrev handle : Slot 3
  handle = RefOf (0 ∷ []) tt (plain (λ _. P E Z)) (λ _. tt)

  abbrev piece : Slot 3
  piece = plain (λ _. Row E)

  abbrev title : Slot 3
  title = plain (λ _. Title E Z)

  abbrev T : Ended
  T = deed.ended E.row Z.row Z.g Z.d Z.drops

  abbrev used : Stays T.signature.params T.kept
  used = (stay_dropped handle yes, (stay_dropped word yes, (stay_dropped piece no, (stay_dropped title no, tt))))

  abbrev fn : Fn
  fn = inst_fn (args E Z) code.function

pub give_back_spec : {M : Type 1} → statement M
give_back_spec 𝓤 𝓛 𝓜 𝓡 wired X Y LX LY g d drops met _ =
    let E : El = record { row = X; laws = LX } in let Z : Al = record { row = Y; laws = LY; g = g; d = d; drops = drops } in
    let c = deed.clauses X Y g d drops 𝓛 𝓜.mem 𝓡.returns in
    let 𝓣 = tables 𝓤 𝓛.H 𝓜 𝓡 𝓡.env in
    let Call = Gives Z 𝓛 𝓜.mem 𝓡.returns in
    proved_at 𝓛 (T E Z) (used E Z) c 𝓜 𝓡 (
      Goes-dropped 𝓛 3 (handle E Z) yes (λ κs x f. refl),
      (Goes-dropped 𝓛 3 word yes (λ κs x f. refl), (Goes-dropped 𝓛 3 (piece E Z) no (λ κs x f. refl), (Goes-blank 𝓛 3 (title E Z) no (λ κs x f. tt), tt))),
    ) (callee (args E Z)) (fn E Z) (code.unfolded 𝓤 𝓛.H 𝓜 𝓡 wired (X, (Y, tt)) d drops) (λ y are.
    let κs = y.0.0 in let qs = y.0.1 in let ps = y.0.3 in let vs = y.0.4 in let κ = κs.0 in let q = qs.0 in
    let at = ps.0.ref_ptr in let a = ps.0.now in let n = ps.1.0 in let p = ps.1.1.0 in let t = ps.1.1.1.0 in
    let End = (walk_of 𝓛 (T E Z) (used E Z) c).post y in
    let Asked : Type 0 = (t.at ≡ p.at) × (t.room ≡ n) × (length p.cells ≡ n) × (t.alloc ≡ a) in
    qed 𝓛 (((‵ (flft κ q) ⊛ ‵ (flft κs.1.0 qs.1.0) ⊛ ‵ (flft κs.1.1.0 qs.1.1.0) ⊛ ‵ ftrue) ⊛ ‵ (owns (types_at (T E Z).signature.params κs) ps vs))
    ∷ (raw (fact 𝓤 (κs.1.0 ⊑ X.lives)) ⊛ raw (fact 𝓤 (κs.1.1.0 ⊑ Y.lives)) ⊛ raw (fact 𝓤 Asked)) ∷ []) ∵
    move ! (1 ∷ []) $ split ! $ drop ! $ split ! $ heard ! (κs.1.1.0 ⊑ Y.lives) (λ lives. heard ! Asked (λ asked.
    split ! $ split ! $ move ! (2 ∷ []) $ fsplit3 ! $ move ! (2 ∷ []) $ fsplit3 ! $
    use2 𝓛 (some (Surrendered E Z 𝓛 p a n)) (surrendered E Z 𝓛 p t a n vs.1.1.0 vs.1.1.1.0 asked) $ pick ! (λ to. learn ! (λ block. split ! $
    let octet : AreOctets E n = octets E n block.1 in
    let piece_is : vs.1.1.0 ≡ piece_val (block_ptr to.0 to.1) ∷ [] = spelled E p vs.1.1.0 are.1.1.0 ∙ ap (λ (r : Ptr). piece_val r ∷ []) block.0 in
    let title_is : vs.1.1.1.0 ≡ title_val ∷ [] = title_spelled E Z t vs.1.1.1.0 are.1.1.1.0 in
    move ! (3 ∷ []) $ fsplit ! $ drop ! $ keep ! (1 ∷ 2 ∷ 0 ∷ 5 ∷ 6 ∷ []) $
    -- [the room; the right to free it; the handle; its token; the other tokens]
    regoal ! (λ (ws : List Val). prop (WpFn 𝓤 𝓛.H 𝓣.C 𝓣.Λ (fn E Z) ws End)) (λ k. are.0.0 k ++ (are.1.0.0 k ++ (piece_is k ++ (title_is k ++ [])))) refl $
    enter ! 𝓣.C 𝓣.Λ (fn E Z) (vptr at.0 at.1 ∷ vint w64 n ∷ piece_val (block_ptr to.0 to.1) ∷ title_val ∷ []) End $
    alloc_all ! (λ l. pass_all ! refl ((tt, tt), ((tt, record { fits = are.1.0.1 }), ((tt, (tt, tt)), ((tt, (tt, tt)), tt)))) $
    let here = env (fn E Z).locals l in
    sets ! (of_opd ! (get_in ! (fld ! refl (stop !)) (sub ! 0 refl (whole !)))) refl (tt, tt) $ first ! $ blocks ! $ sets ! (of_opd ! (get ! refl)) refl (tt, tt) $
    sets ! (is ! (bin ! (get ! refl) (size_word !) (record { fits = octet.counted })) (ap (vint w64) octet.same)) refl (tt, record { fits = octet.few }) $
    group ! 4 $ use1 𝓛 (raw (Call.pre (returning E Z 𝓛 𝓜.mem 𝓡.returns κ q at a n to.0 to.1))) (returned E Z 𝓛 𝓜.mem 𝓡.returns κ q at a n (Incl-trans y.0.2.0 lives) octet to.0 to.1) $
    calls_at_last ! (framed 𝓤 𝓛.H 𝓜 𝓣) Call (met.deallocate drops) (returning E Z 𝓛 𝓜.mem 𝓡.returns κ q at a n to.0 to.1)
    (and_then ! (get ! refl) (and_then ! (get ! refl) (and_then ! (get ! refl) (and_then ! (align_word !) (no_more !))))) (λ v.
    use1 𝓛 (later (given (v ≡ vunit) (‵ (flft κ q)))) (Gives-Gives Z 𝓛 𝓜.mem 𝓡.returns κ q at a to.0 to.1 (n * width E) (returning E Z 𝓛 𝓜.mem 𝓡.returns κ q at a n to.0 to.1).0.3.1.1.1.0 (block_ty E n) v) $
    await ! tt $ learn ! (λ is_unit. lands_last ! refl (subst (λ (u : Val). Holds (has_ty ty_unit u) × WT u) (sym is_unit) (tt, tt)) $
    exec ! 𝓣.C 𝓣.Λ here (after 2 (fn E Z).body) (at_ret here End) $ sets ! (of_opd ! (unit_lit !)) refl (tt, tt) $ returns ! (look_at ! 0 refl) $ free_all ! refl $
    join ! $ feq_i ! (List Val) (vunit ∷ []) (vunit ∷ []) refl $ move ! (1 ∷ []) $
    by ! (ends_with 𝓛 (T E Z) (used E Z) c y vunit tt (tt, (tt, (tt, (tt, tt)))) (tt, (tt, (tt, (tt, tt)))) (all_used 𝓛 4) (id⊢ 𝓤 (emp 𝓤)))))))))))
