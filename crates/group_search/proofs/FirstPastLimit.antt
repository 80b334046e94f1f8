-- The first block that is past a limit.
use Rattle.std.proofs.Common.{ℕ, zero, suc, ◌≡◌, ◌≢◌, ◌+◌, ◌<◌, ◌≤◌, Bool, true, false, cond, List, length, Option, Some, None, refl, sym, arith, subst, ⊎_elim}
use Rattle.std.specs.Prelude.{nat_lt}
use Rattle.std.proofs.lemmas.Bool.{cases_eq, ltb-true, ltb-false}
use Rattle.flow_types.specs.declared.record.Flow.{Flow}
use Rattle.flow_types.specs.Size.{Size}
use Rattle.block_layout.specs.Limits.{most_keys}
use Rattle.group_search.specs.Limits.{most_rows}
use Rattle.group_search.specs.Home.{flows_of}
use Rattle.group_search.specs.Build.{IsPastLimit, IsWithin, NamesTheFirst, PastLimit, TellsTheFirst, block_of, first_past_limit, needed, or_later, past_limit, past_limit_at}
use Rattle.group_search.specs.Build.PastLimit.{TooManyFlows, TooManyRows}

module _ (size : Size) (flows : List Flow) where
  -- what is past its limit at the block, if anything is
  Tells : (block : ℕ) → Option PastLimit → Type 0
  Tells block None = IsWithin size flows block
  Tells block (Some past) = (block_of past ≡ block) × IsPastLimit size flows past

  tells-case : (block : ℕ) (full rows : Bool) → nat_lt most_keys (length (flows_of size.blocks block flows)) ≡ full → nat_lt most_rows (needed size flows block) ≡ rows
      → Tells block (cond full (Some (TooManyFlows block)) (cond rows (Some (TooManyRows block (needed size flows block))) None))
  unfolding Tells
  tells-case block true rows f r = (refl, record { many = ltb-true _ _ f })
  tells-case block false true f r = (refl, record { few = ltb-false _ _ f; rows_are = refl; many = ltb-true _ _ r })
  tells-case block false false f r = record { few = ltb-false _ _ f; few_rows = ltb-false _ _ r }

  tells : (block : ℕ) → Tells block (past_limit_at size flows block)
  unfolding past_limit_at
  tells block = tells-case block _ _ refl refl

  -- of a number of blocks from `block` on, the first that is past a limit
  FromHere : (count block : ℕ) → Option PastLimit → Type 0
  FromHere count block None = (other : ℕ) → block ≤ other → other < block + count → IsWithin size flows other
  FromHere count block (Some past) =
      (block ≤ block_of past) × (block_of past < block + count) × IsPastLimit size flows past
      × ((other : ℕ) → block ≤ other → other < block_of past → IsWithin size flows other)

  one_more : (count block : ℕ) (here later : Option PastLimit) → Tells block here → FromHere count (block + 1) later → FromHere (suc count) block (or_later here later)
  unfolding Tells FromHere
  one_more count block (Some past) later h rest =
      let at : block_of past ≡ block = h.0 in
      (omega arith, omega arith, h.1, λ other low high. absurd (omega arith))
  one_more count block None (Some past) h rest =
      let from : block + 1 ≤ block_of past = rest.0 in
      let to : block_of past < block + 1 + count = rest.1 in (
        omega arith,
        omega arith,
        rest.2,
        λ other low high.
            ⊎_elim (λ (same : other ≡ block). subst (IsWithin size flows) (sym same) h) (λ (later : other ≢ block). rest.3 other (omega arith) high) (cases_eq other block),
      )
  one_more count block None None h rest = λ other low high.
      ⊎_elim (λ (same : other ≡ block). subst (IsWithin size flows) (sym same) h) (λ (later : other ≢ block). rest other (omega arith) (omega arith)) (cases_eq other block)

  from_here : (count block : ℕ) → FromHere count block (first_past_limit count block size flows)
  unfolding first_past_limit FromHere
  from_here zero block = λ other low high. absurd (omega arith)
  from_here (suc count) block = one_more count block (past_limit_at size flows block) (first_past_limit count (block + 1) size flows) (tells block) (from_here count (block + 1))

  whole : (found : Option PastLimit) → FromHere size.blocks 0 found → TellsTheFirst size flows found
  unfolding FromHere
  whole None h = λ block low. h block (omega arith) (omega arith)
  whole (Some past) h = record { in_range = omega (arith, h.1); here = h.2; before = λ block low. h.3 block (omega arith) low }

pub names_the_first : NamesTheFirst
unfolding past_limit
names_the_first size flows = whole size flows (first_past_limit size.blocks 0 size flows) (from_here size flows size.blocks 0)
