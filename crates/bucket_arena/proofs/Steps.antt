-- The names that the walks of the four deeds cite, and how a walk ends that keeps nothing of its parameters. Assumes `Logic`.
pub use mathlib.Core.Path.{◌≡◌, refl, sym, subst, ap, ◌∙◌}
pub use Prim.Native.Nat.{◌+◌, ◌*◌, ◌<◌, ◌^◌}
pub use mathlib.Core.List.{List, [], ◌∷◌, ◌++◌}
pub use base.Logic.{sep}
pub use base.Fml.{ftrue, flft, Incl-trans}
pub use contract.BorrowLft.{◌⊑◌}
pub use contract.Monad.{fact, fact_i}
pub use contract.Running.{tables}
pub use denote.Memory.{hidden_shr, cell_at}
pub use denote.Opens.{hide}
pub use denote.Plain.{uint_vals, uint_Tells}
pub use denote.RattleType.{owns}
pub use denote.RawPtr.{Ptr, RawPtr, block_ptr}
pub use denote.Ref.{shr_vals, shr_Tells}
pub use denote.Signature.{types_at}
pub use denote.Steps.{heard, opens, closes, peeks}
pub use denote.Triple.Clauses.{Ended}
pub use denote.Triple.Walked.{Stays, stay_dropped, stay_ref, walk_of, Goes-dropped, Goes-ref}
pub use mir.MapTy.{inst_fn}
pub use mir.Syntax.{Fn, Body, w64, named}
pub use mir.Val.{Val, vint, vptr, vunit}
pub use prog.Wp.{WpFn}
pub use types.ByLocal.{alloc_all, pass_all, free_all, look_at, get, get_in, through, sets, sets_last, env}
pub use types.Kit.{‵, raw, ◌⊛◌, some, later, given, prop, at_ret, ◌$◌, ◌∵◌, !, qed, by, move, keep, drop, use0, use1, use2, pick, learn, split, join, rewrite, regoal, fsplit, fsplit3, fjoin, fjoin3, feq_i, await}
pub use types.Part.{whole, sub, look_in}
pub use types.Run.{enter, stop, fld, load, look, addr, size_lit, of_opd, bin, unit_lit, assigns_last, init, first, blocks, exec, returns, and_then, no_more}
pub use Rattle.core.proofs.slots.Bodies.{after}
pub use Rattle.std.proofs.raw_atomic.Walks.{proved, proved_at, leaves}
use Prim.Native.Nat.{ℕ, zero, suc}
use base.Logic.{ent, emp}
use denote.Steps.{nothing}
use types.Kit.{done}
use seplogic.Ra.Ura.{Ura}
use base.Fml.{Fml, fsep}
use types.Logic.{Logic, sem}
use denote.Signature.{type_at}
use denote.Triple.Clauses.{Clauses, Lasts, at_exit}
use denote.Triple.Entry.{Res, alive}
use denote.Triple.Walked.{Fit, has_of}

-- what is left of n parameters that were all used up
abbrev pub nothing_of : ℕ → Fml
nothing_of zero = ftrue
nothing_of (suc n) = fsep ftrue (nothing_of n)

module _ {M : Type 1} {𝓤 : Ura M} (𝓛 : Logic 𝓤) where
  pub all_used : (n : ℕ) → ent 𝓤 (emp 𝓤) (sem 𝓛 (nothing_of n))
  all_used zero = qed 𝓛 [] ∵ nothing ! $ done !
  all_used (suc n) = qed 𝓛 [] ∵ use0 𝓛 (‵ (nothing_of n)) (all_used n) $ nothing ! $ fjoin ! $ done !

module _ {M : Type 1} {𝓤 : Ura M} (𝓛 : Logic 𝓤) (T : Ended) (hs : Stays T.signature.params T.kept) (c : Clauses 𝓤 T) where
  -- the tokens and the result, where the `ensures` hold
  pub ends_with : (y : (walk_of 𝓛 T hs c).Ghost) (v : Val) (r : Res T.signature y.0.0) (ws : Lasts T y.0.0 y.0.3) → Fit T hs y.0.0 y.0.3 ws
      → ent 𝓤 (emp 𝓤) (sem 𝓛 (has_of y.0.0 T.signature.params T.kept hs y.0.3 ws y.0.4)) → ent 𝓤 (emp 𝓤) ((c y.0.0 y.0.3).ensures y.1 r (at_exit T y.0.0 y.0.3 ws))
      → ent 𝓤 (sep 𝓤 (alive 𝓛 T.signature y.0.0 y.0.1) (sem 𝓛 ((type_at T.signature.result y.0.0).own_val r (v ∷ [])))) ((walk_of 𝓛 T hs c).post y v)
  ends_with y v r ws fit used holds =
      qed 𝓛 (raw (alive 𝓛 T.signature y.0.0 y.0.1) ∷ ‵ ((type_at T.signature.result y.0.0).own_val r (v ∷ [])) ∷ []) ∵
      use0 𝓛 (‵ (has_of y.0.0 T.signature.params T.kept hs y.0.3 ws y.0.4)) used $ use0 𝓛 (raw ((c y.0.0 y.0.3).ensures y.1 r (at_exit T y.0.0 y.0.3 ws))) holds $
      move ! (2 ∷ 1 ∷ 3 ∷ 0 ∷ []) $ by ! (leaves 𝓛 T hs c y v r ws fit)
