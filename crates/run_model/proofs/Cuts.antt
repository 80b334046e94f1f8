-- A journal's prefixes, the changes of a group in them, and the cuts: where a prefix first has as many as a version says.
use Rattle.std.proofs.Common.{◌≡◌, ◌∙◌, ◌+◌, ◌-◌, ◌≤◌, ℕ, zero, suc, Bool, true, false, List, ◌++◌, length, take, drop, refl, sym, ap, subst, arith}
use Rattle.std.specs.Prelude.{◌==◌}
use Rattle.std.proofs.lemmas.Bool.{eqb-true, eqb-false}
use Rattle.std.proofs.lemmas.List.{length-append, take-append-drop, take-append-le}
use Rattle.std.proofs.Math.Seq.{take-append-add}
use mathlib.Core.List.{IsPrefix}
use Rattle.group_search.specs.Home.{Home}
use Rattle.group_history.specs.declared.change.Change.{Change}
use Rattle.group_history.specs.Journal.{change_count, concerning}
use Rattle.group_history.proofs.Versions.{concerning_later}
use Rattle.run_model.specs.Allowed.{IsNextCut}

pub grown-length : (before after : List Change) → IsPrefix before after → length before ≤ length after
grown-length before after grows = omega (arith, ap length grows.1, length-append before grows.0)

-- the first turns of a journal stay the same as it grows
pub grown-take : (before after : List Change) (turns : ℕ) → IsPrefix before after → turns ≤ length before → take turns after ≡ take turns before
grown-take before after turns grows within = ap (take turns) (sym grows.1) ∙ take-append-le turns before grows.0 within

pub take-grows : (changes : List Change) (turns : ℕ) → IsPrefix (take turns changes) changes
take-grows changes turns = (drop turns changes, take-append-drop turns changes)

-- where at least as many turns are taken, the journal of before is among them
pub grows-to-take : (before after : List Change) (turns : ℕ) → IsPrefix before after → length before ≤ turns → IsPrefix before (take turns after)
grows-to-take before after turns grows enough =
    let split : turns ≡ length before + (turns - length before) = omega arith in (
      take (turns - length before) grows.0,
      sym (ap (take turns) (sym grows.1) ∙ ap (λ (n : ℕ). take n (before ++ grows.0)) split ∙ take-append-add before grows.0 (turns - length before)),
    )

module _ (at : Home) where
  pub count-append : (changes more : List Change) → change_count at (changes ++ more) ≡ change_count at changes + change_count at more
  unfolding change_count
  count-append changes more = ap length (concerning_later at changes more) ∙ length-append (concerning at changes) (concerning at more)

  -- a journal that grows has no fewer changes of a group
  pub count-grows : (before after : List Change) → IsPrefix before after → change_count at before ≤ change_count at after
  count-grows before after grows = omega (arith, ap (change_count at) grows.1, count-append before grows.0)

  -- ---- the next cut

  module _ (changes : List Change) (version : ℕ) where
    cut-here : (before : ℕ) → change_count at (take before changes) ≡ version → IsNextCut changes at version before before
    cut-here before is = record { not_before = omega arith; counts = is; least = λ other low there. low }

    cut-later : (before cut : ℕ) → (change_count at (take before changes) == version) ≡ false → IsNextCut changes at version (before + 1) cut
        → IsNextCut changes at version before cut
    cut-later before cut other is = record {
      not_before = omega (arith, is.not_before);
      counts = is.counts;
      least = λ turns low there. by turns low there (turns == before) refl;
    }
      where
        by : (turns : ℕ) → before ≤ turns → change_count at (take turns changes) ≡ version → (same : Bool) → (turns == before) ≡ same → cut ≤ turns
        by turns low there true e =
            let same : turns ≡ before = eqb-true turns before e in
            absurd (eqb-false _ _ other (ap (λ (n : ℕ). change_count at (take n changes)) (sym same) ∙ there))
        by turns low there false e = let apart = eqb-false turns before e in is.least turns (omega arith) there

    -- a cut that is no later than another with as many changes of the group
    pub record HasCut (before top : ℕ) : Type 0 where
      pub cut : ℕ
      pub within : cut ≤ top
      pub next : IsNextCut changes at version before cut

    cut-from : (count before : ℕ) → change_count at (take (before + count) changes) ≡ version → HasCut before (before + count)
    cut-from zero before is =
        let same : before + 0 ≡ before = omega arith in
        record { cut = before; within = omega arith; next = cut-here before (sym (ap (λ (n : ℕ). change_count at (take n changes)) same) ∙ is) }
    cut-from (suc count) before is =
        let same : before + suc count ≡ before + 1 + count = omega arith in
        by (change_count at (take before changes) == version) refl (cut-from count (before + 1) (sym (ap (λ (n : ℕ). change_count at (take n changes)) same) ∙ is))
      where
        by : (here : Bool) → (change_count at (take before changes) == version) ≡ here → HasCut (before + 1) (before + 1 + count) → HasCut before (before + suc count)
        by true e later = record { cut = before; within = omega arith; next = cut-here before (eqb-true _ _ e) }
        by false e later = record { cut = later.cut; within = omega (arith, later.within); next = cut-later before later.cut e later.next }

    pub next-cut : (before top : ℕ) → before ≤ top → change_count at (take top changes) ≡ version → HasCut before top
    next-cut before top low is =
        let split : before + (top - before) ≡ top = omega arith in
        subst (HasCut before) split (cut-from (top - before) before (ap (λ (n : ℕ). change_count at (take n changes)) split ∙ is))
