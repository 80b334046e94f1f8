-- The judgement of an update, case by case, and by the maps that a block has now.
use Rattle.std.proofs.Common.{ℕ, ◌≡◌, ◌≢◌, ◌+◌, ◌-◌, ◌≤◌, ◌<◌, Bool, true, false, cond, List, length, Option, Some, None, is_some, refl, sym, ap, arith}
use Rattle.std.specs.Prelude.{◌==◌, IsPermutation, nat_lt}
use Rattle.std.proofs.lemmas.List.Sorted.{length_permutation}
use Rattle.std.proofs.lemmas.Bool.{le-ltb, eqb-false, eq-eqb, ne_eqb}
use Rattle.flow_types.specs.declared.key.FlowKey.{FlowKey}
use Rattle.flow_types.specs.declared.record.Flow.{Flow}
use Rattle.flow_types.specs.Map.{AreDistinct, flow_at}
use Rattle.group_search.specs.Build.{rows_needed, rows_left}
use Rattle.group_search.specs.Canon.{is_separable}
use Rattle.group_search.specs.Home.{Home}
use Rattle.group_search.specs.Records.{entries}
use Rattle.group_history.specs.Change.{step}
use Rattle.group_history.specs.declared.refused.UpdateRefused.{UpdateRefused}
use Rattle.group_history.specs.declared.refused.UpdateRefused.TheVariants.{Spent, Absent, BlockFull, RowsFull, OutOfMemory}
use Rattle.group_history.specs.declared.update.Update.{Update}
use Rattle.group_history.specs.declared.update.Update.TheVariants.{Set, Del}
use Rattle.group_history.specs.Acceptance.{Grounds, change_at, free_beside, grounds_in, updated_key, keys_in, refusal_of_place, refusal_of_rows}
use Rattle.rib_owner.specs.Judging.{IsFor, refusal_in_rows}
use Rattle.rib_owner.specs.Part.{IsKeptPart}
use Rattle.rib_owner.specs.Rib.{Part, map_in}
use Rattle.rib_owner.proofs.AnyOrder.{at_permuted, rows_alike_in, separable_alike, step_permuted}
use Rattle.group_search.proofs.NeededRows.{length-entries}
use Rattle.rib_owner.proofs.Rows.{left_is_free}
use Rattle.group_history.proofs.Steps.{step_known, step_most}
use Rattle.group_search.proofs.Sums.{beside_below, from_same}

-- ---- the same maps give the same grounds

grounds_of : (turns block : ℕ) → Bool → (keys : ℕ) → Bool → (needed free : ℕ) → Grounds
grounds_of turns block known keys served needed free =
    record { turns = turns; block = block; known = known; keys = keys; served = served; needed = needed; free = free }

keys_same : (maps others : ℕ → List Flow) → ((x : ℕ) → x < 64 → IsPermutation (maps x) (others x)) → keys_in maps ≡ keys_in others
unfolding keys_in
keys_same maps others same = from_same (λ (x : ℕ). length (maps x)) (λ (x : ℕ). length (others x)) 64 0 (λ x low high. sym (length_permutation (maps x) (others x) (same x (omega arith))))

free_same : (bits group : ℕ) (maps others : ℕ → List Flow) → ((x : ℕ) → x < 64 → IsPermutation (maps x) (others x)) → free_beside bits maps group ≡ free_beside bits others group
unfolding rows_left
free_same bits group maps others same =
    ap (λ (n : ℕ). 64 - n)
    (beside_below (λ (x : ℕ). rows_needed bits (entries (maps x))) (λ (x : ℕ). rows_needed bits (entries (others x))) group 64 0
    (λ x low high. rows_alike_in bits (maps x) (others x) (same x (omega arith))))

-- so do maps with the same flows, in some order
pub grounds_same : (bits turns : ℕ) (at : Home) (maps others : ℕ → List Flow) (update : Update) → at.group < 64 → ((x : ℕ) → x < 64 → IsPermutation (maps x) (others x))
    → AreDistinct (maps at.group) → grounds_in bits turns at maps update ≡ grounds_in bits turns at others update
unfolding grounds_in grounds_of
grounds_same bits turns at maps others update low same distinct =
    let before = maps at.group in
    let after = step (maps at.group) (change_at at update) in
    let here = same at.group low in
    let stepped = step_permuted (maps at.group) (others at.group) here distinct (change_at at update) in
    let known = ap is_some (at_permuted (maps at.group) (others at.group) here distinct (updated_key update)) in
    let served = separable_alike bits (step (maps at.group) (change_at at update)) (step (others at.group) (change_at at update)) stepped in
    let long = sym (length_permutation (step (maps at.group) (change_at at update)) (step (others at.group) (change_at at update)) stepped) in
    rw (known, keys_same maps others same, served, long, free_same bits at.group maps others same) refl

-- ---- the cause of a refusal, lifted from one case to all

pub lifted : (why whole : Option UpdateRefused) (refused : UpdateRefused) → IsFor why refused → (why ≡ Some refused → whole ≡ Some refused) → IsFor whole refused
lifted why whole (Spent limit) is lift = lift is
lifted why whole Absent is lift = lift is
lifted why whole (BlockFull block) is lift = lift is
lifted why whole (RowsFull block needed free) is lift = lift is
lifted why whole OutOfMemory is lift = tt

-- ---- the rows, by what the block keeps

rows-case : (block needed free : ℕ) (served : Bool)
    → cond (nat_lt free (cond served 0 needed)) (Some (RowsFull block needed free)) None ≡ cond served None (cond (nat_lt free needed) (Some (RowsFull block needed free)) None)
rows-case block needed free true = rw (le-ltb free 0 (omega arith)) refl
rows-case block needed free false = refl

module _ (bits turns : ℕ) (at : Home) (part : Part) (update : Update) (kept : IsKeptPart bits part) where
  pub rows_alike : refusal_in_rows bits part (change_at at update) ≡ refusal_of_rows (grounds_in bits turns at (map_in part) update)
  unfolding refusal_in_rows rows_needed grounds_in
  rows_alike =
      let after = step (map_in part at.group) (change_at at update) in
      rw (left_is_free bits part at.group kept, length-entries after)
      (rows-case at.block (length after) (free_beside bits (map_in part) at.group) (is_separable bits (entries after)))
  -- ---- how many keys there are after an update whose key has a place

module _ (bits turns : ℕ) (at : Home) (part : Part) (kept : IsKeptPart bits part) where
  few-full : (flow : Flow) (full : Bool) → (keys_in (map_in part) == 1536) ≡ full → cond full (Some (BlockFull at.block)) None ≡ None
      → keys_in (map_in part) + length (step (map_in part at.group) (change_at at (Set flow))) ≤ 1536 + length (map_in part at.group)
  few-full flow true e none = cc
  few-full flow false e none =
      let apart : keys_in (map_in part) ≢ 1536 = eqb-false _ _ e in
      omega (arith, kept.few, step_most (map_in part at.group) (change_at at (Set flow)))

  few-case : (update : Update) (known served : Bool) (needed free : ℕ) → is_some (flow_at (updated_key update) (map_in part at.group)) ≡ known
      → refusal_of_place update (grounds_of turns at.block known (keys_in (map_in part)) served needed free) ≡ None
      → keys_in (map_in part) + length (step (map_in part at.group) (change_at at update)) ≤ 1536 + length (map_in part at.group)
  unfolding grounds_of
  few-case update true served needed free there none =
      omega (arith, kept.few, step_known (map_in part at.group) (change_at at update) there (kept.distinct at.group))
  few-case (Set flow) false served needed free there none = few-full flow (keys_in (map_in part) == 1536) refl none
  few-case (Del key) false served needed free there none = cc

  -- the block's limit holds after an update whose key has a place
  pub few_after : (update : Update) → refusal_of_place update (grounds_in bits turns at (map_in part) update) ≡ None
      → keys_in (map_in part) + length (step (map_in part at.group) (change_at at update)) ≤ 1536 + length (map_in part at.group)
  unfolding grounds_in grounds_of
  few_after update none =
      few-case update (is_some (flow_at (updated_key update) (map_in part at.group))) (is_separable bits (entries (step (map_in part at.group) (change_at at update))))
      (length (step (map_in part at.group) (change_at at update))) (free_beside bits (map_in part) at.group) refl none

-- ---- the place of a key, by what was found at it

module _ (bits turns : ℕ) (at : Home) (maps : ℕ → List Flow) where
  known-case : (update : Update) (on : Grounds) → on.known ≡ true → refusal_of_place update on ≡ None
  known-case (Set flow) on known = rw known refl
  known-case (Del key) on known = rw known refl

  pub place_known : (update : Update) → is_some (flow_at (updated_key update) (maps at.group)) ≡ true → refusal_of_place update (grounds_in bits turns at maps update) ≡ None
  unfolding grounds_in
  place_known update known = known-case update (grounds_in bits turns at maps update) known

  pub place_absent : (key : FlowKey) → is_some (flow_at key (maps at.group)) ≡ false → refusal_of_place (Del key) (grounds_in bits turns at maps (Del key)) ≡ Some Absent
  unfolding grounds_in
  place_absent key unknown = rw unknown refl

  pub place_full : (flow : Flow) → is_some (flow_at flow.key (maps at.group)) ≡ false → keys_in maps ≡ 1536
      → refusal_of_place (Set flow) (grounds_in bits turns at maps (Set flow)) ≡ Some (BlockFull at.block)
  unfolding grounds_in
  place_full flow unknown full = rw (unknown, eq-eqb (keys_in maps) 1536 full) refl

  pub place_new : (flow : Flow) → keys_in maps ≢ 1536 → is_some (flow_at flow.key (maps at.group)) ≡ false → refusal_of_place (Set flow) (grounds_in bits turns at maps (Set flow)) ≡ None
  unfolding grounds_in
  place_new flow more unknown = rw (unknown, ne_eqb (keys_in maps) 1536 more) refl
