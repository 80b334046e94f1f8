-- The first block that is past a limit.
use Rattle.std.proofs.Common.{ℕ, zero, suc, ◌≡◌, ◌∙◌, ◌+◌, ◌<◌, ◌≤◌, List, length, Option, Some, None, ap, refl, arith}
use Rattle.std.proofs.lemmas.Bool.{le-ltb, lt-ltb}
use Rattle.flow_types.specs.declared.record.Flow.{Flow}
use Rattle.flow_types.specs.Size.{Size, value_bits}
use Rattle.block_layout.specs.Limits.{most_keys}
use Rattle.group_search.specs.Limits.{most_rows}
use Rattle.group_search.specs.Home.{flows_of}
use Rattle.group_search.specs.Build.{PastLimit, first_past_limit, needed, or_later, past_limit_at}
use Rattle.group_search.specs.Build.PastLimit.{TooManyFlows, TooManyRows}
use Rattle.setsep_build.specs.Block.{IsFull, IsPastIn, IsWithinIn, NeedsRows}
use Rattle.setsep_build.proofs.Lifted.{opened, same_length, same_needed}

module _ (size : Size) (flows : List Flow) (block : ℕ) where
  -- a block within its limits is past none
  pub past_none : IsWithinIn (value_bits size.nodes) (opened size.blocks block flows) → past_limit_at size flows block ≡ None
  unfolding past_limit_at
  past_none is =
      let flows_few : length (flows_of size.blocks block flows) ≤ most_keys = omega (arith, same_length size.blocks block flows, is.few) in
      let rows_few : needed size flows block ≤ most_rows = omega (arith, same_needed size block flows, is.few_rows) in
      rw (le-ltb most_keys (length (flows_of size.blocks block flows)) flows_few, le-ltb most_rows (needed size flows block) rows_few) refl

  full_past : (named : ℕ) → IsFull block (opened size.blocks block flows) named → past_limit_at size flows block ≡ Some (TooManyFlows named)
  unfolding past_limit_at
  full_past named is =
      let many : most_keys < length (flows_of size.blocks block flows) = omega (arith, same_length size.blocks block flows, is.many) in
      rw (lt-ltb most_keys (length (flows_of size.blocks block flows)) many, is.named_is) refl

  rows_past : (named rows : ℕ) → NeedsRows (value_bits size.nodes) block (opened size.blocks block flows) named rows
      → past_limit_at size flows block ≡ Some (TooManyRows named rows)
  unfolding past_limit_at
  rows_past named rows is =
      let flows_few : length (flows_of size.blocks block flows) ≤ most_keys = omega (arith, same_length size.blocks block flows, is.few) in
      let same : rows ≡ needed size flows block = is.needed_is ∙ same_needed size block flows in
      let many : most_rows < needed size flows block = omega (arith, same, is.many) in
      rw (le-ltb most_keys (length (flows_of size.blocks block flows)) flows_few, lt-ltb most_rows (needed size flows block) many, is.named_is, same) refl

  -- what is wrong with a block is what it is past
  pub past_some : (past : PastLimit) → IsPastIn (value_bits size.nodes) block (opened size.blocks block flows) past → past_limit_at size flows block ≡ Some past
  past_some (TooManyFlows named) is = full_past named is
  past_some (TooManyRows named rows) is = rows_past named rows is

-- ---- the first of several blocks

grouped : (a b c : Option PastLimit) → or_later a (or_later b c) ≡ or_later (or_later a b) c
grouped None b c = refl
grouped (Some past) b c = refl

module _ (size : Size) (flows : List Flow) where
  -- of some blocks and of those after them
  pub first_of_two : (count more from : ℕ) → first_past_limit (count + more) from size flows
      ≡ or_later (first_past_limit count from size flows) (first_past_limit more (from + count) size flows)
  unfolding first_past_limit
  first_of_two zero more from = let none : 0 + more ≡ more = omega arith in let here : from + 0 ≡ from = omega arith in rw (none, here) refl
  first_of_two (suc count) more from =
      let one_more : suc count + more ≡ suc (count + more) = omega arith in
      let later : from + suc count ≡ from + 1 + count = omega arith in
      rw (one_more, later)
      (ap (or_later (past_limit_at size flows from)) (first_of_two count more (from + 1))
      ∙ grouped (past_limit_at size flows from) (first_past_limit count (from + 1) size flows) (first_past_limit more (from + 1 + count) size flows))

  pub first_of_none : (count from : ℕ) → ((block : ℕ) → from ≤ block → block < from + count → past_limit_at size flows block ≡ None)
      → first_past_limit count from size flows ≡ None
  unfolding first_past_limit
  first_of_none zero from none = refl
  first_of_none (suc count) from none =
      let rest = first_of_none count (from + 1) (λ block high low. none block (omega arith) (omega arith)) in
      rw (none from (omega arith) (omega arith), rest) refl

  -- after blocks that are past none comes one that is past its limit
  pub first_is : (before rest from : ℕ) (past : PastLimit) → ((block : ℕ) → from ≤ block → block < from + before → past_limit_at size flows block ≡ None)
      → past_limit_at size flows (from + before) ≡ Some past → first_past_limit (before + suc rest) from size flows ≡ Some past
  unfolding first_past_limit
  first_is before rest from past none here = first_of_two before (suc rest) from ∙ rw (first_of_none before from none, here) refl

  -- what is found among some blocks is found first
  pub found_first : (count more from : ℕ) (past : PastLimit) → first_past_limit count from size flows ≡ Some past → first_past_limit (count + more) from size flows ≡ Some past
  found_first count more from past found = first_of_two count more from ∙ rw found refl

  -- where some blocks are past none, the later ones decide
  pub later_decide : (count more from : ℕ) → first_past_limit count from size flows ≡ None
      → first_past_limit (count + more) from size flows ≡ first_past_limit more (from + count) size flows
  later_decide count more from none = first_of_two count more from ∙ rw none refl
