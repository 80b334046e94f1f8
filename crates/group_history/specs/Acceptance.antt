-- Which updates an owner accepts, and for what it refuses the others.
use Rattle.std.specs.Prelude.{◌≡◌, ◌≢◌, ◌↔◌, ◌==◌, ℕ, ◌<◌, nat_lt, if◌then◌else◌, Bool, true, false, is_some, List, length, map, sum, Option, Some, None}
use Rattle.std.specs.List.{range_with_len}
use Rattle.std.specs.Option.{option_or}
use Rattle.flow_types.specs.declared.key.FlowKey.{FlowKey}
use Rattle.flow_types.specs.declared.record.Flow.{Flow}
use Rattle.flow_types.specs.declared.record.Record.{Record}
use Rattle.flow_types.specs.Map.{flow_at}
use Rattle.flow_types.specs.Size.{Size, value_bits}
use Rattle.flow_types.specs.Limits.{most_turns}
use Rattle.group_search.specs.Build.{rows_left, rows_needed}
use Rattle.group_search.specs.Canon.{is_separable}
use Rattle.group_search.specs.Home.{Home, home}
use Rattle.group_search.specs.Records.{entries}
use Rattle.group_history.specs.declared.change.Change.{Change}
use Rattle.group_history.specs.Change.{step}
use Rattle.group_history.specs.declared.update.Update.{Update}
use Rattle.group_history.specs.declared.update.Update.TheVariants.{Set, Del}
use Rattle.group_history.specs.declared.refused.UpdateRefused.{UpdateRefused}
use Rattle.group_history.specs.declared.refused.UpdateRefused.TheVariants.{Spent, Absent, BlockFull, RowsFull, OutOfMemory}
use Rattle.group_history.specs.History.{map_now}

-- the key that an update is of
abbrev pub updated_key : Update → FlowKey
updated_key (Set flow) = flow.key
updated_key (Del key) = key

-- what the key shall have
abbrev pub wanted : Update → Option (ℕ × Record)
wanted (Set flow) = Some (flow.node, flow.info)
wanted (Del key) = None

-- the change that an update makes, at this home of its key
abbrev pub change_at : Home → Update → Change
change_at at update = record { block = at.block; group = at.group; key = updated_key update; to = wanted update }

-- the change that an update makes, where the cluster was opened with these flows
abbrev pub change_of : Size → List Flow → Update → Change
change_of size flows update = change_at (home size.blocks flows (updated_key update)) update

-- ---- what an update is judged by

-- the journal's changes so far, the key's block, whether its group knows the key, the keys of all groups of the block, whether
-- indexes serve the group's new map, how many keys that map has, and how many rows the block's other groups leave free
pub record Grounds : Type 0 where
  pub turns : ℕ
  pub block : ℕ
  pub known : Bool
  pub keys : ℕ
  pub served : Bool
  pub needed : ℕ
  pub free : ℕ

-- how many keys 64 groups have in all
unfoldable pub keys_in : (ℕ → List Flow) → ℕ
keys_in maps = sum (map (λ (group : ℕ). length (maps group)) (range_with_len 0 64))

-- how many of a block's rows are left, where each of its other groups that no indexes serve takes one for each key
abbrev pub free_beside : (bits : ℕ) → (ℕ → List Flow) → (group : ℕ) → ℕ
free_beside bits maps group = rows_left (λ (other : ℕ). rows_needed bits (entries (maps other))) group

-- the grounds on which an update is judged, where its home's block has these maps
unfoldable pub grounds_in : (bits turns : ℕ) → Home → (ℕ → List Flow) → Update → Grounds
grounds_in bits turns at maps update =
    let after = step (maps at.group) (change_at at update) in
    record {
      turns = turns;
      block = at.block;
      known = is_some (flow_at (updated_key update) (maps at.group));
      keys = keys_in maps;
      served = is_separable bits (entries after);
      needed = length after;
      free = free_beside bits maps at.group;
    }

-- the map of each group of a block after these changes
abbrev pub maps_now : Size → List Flow → List Change → (block group : ℕ) → List Flow
maps_now size flows changes block group = map_now size flows changes (record { block = block; group = group })

-- the grounds on which an update is judged after these changes
unfoldable pub grounds : Size → List Flow → List Change → Update → Grounds
grounds size flows changes update =
    let at = home size.blocks flows (updated_key update) in
    grounds_in (value_bits size.nodes) (length changes) at (maps_now size flows changes at.block) update

-- ---- the cases in their order

-- the journal has as many changes as there are turns
pub record IsSpent (on : Grounds) (limit : ℕ) : Type 0 where
  pub turns : on.turns ≡ most_turns
  pub limit_is : limit ≡ most_turns

-- a key that the group doesn't know is to be removed
pub record IsAbsent (on : Grounds) : Type 0 where
  pub not_spent : on.turns ≢ most_turns
  pub unknown : on.known ≡ false

-- a key that the group doesn't know is to be set, and the block has no room for it
pub record IsBlockFull (on : Grounds) (block : ℕ) : Type 0 where
  pub not_spent : on.turns ≢ most_turns
  pub unknown : on.known ≡ false
  pub full : on.keys ≡ 1536
  pub block_is : block ≡ on.block

-- the key can be set or removed, as far as it itself and the number of the block's keys go
abbrev pub HasPlace : Update → Grounds → Type 0
HasPlace (Set flow) on = on.known ≡ false → on.keys ≢ 1536
HasPlace (Del key) on = on.known ≡ true

-- no indexes serve the new map, and it has more keys than rows are free
pub record NeedsMoreRows (on : Grounds) : Type 0 where
  pub not_served : on.served ≡ false
  pub more : on.free < on.needed

-- the key has a place, but the new map needs more rows than are free
pub record IsRowsFull (update : Update) (on : Grounds) (block needed free : ℕ) : Type 0 where
  pub not_spent : on.turns ≢ most_turns
  pub place : HasPlace update on
  pub rows : NeedsMoreRows on
  pub block_is : block ≡ on.block
  pub needed_is : needed ≡ on.needed
  pub free_is : free ≡ on.free

-- there is a turn for the update, a place for its key, and room for the new map's rows
pub record IsAccepted (update : Update) (on : Grounds) : Type 0 where
  pub not_spent : on.turns ≢ most_turns
  pub place : HasPlace update on
  pub rows : ¬ NeedsMoreRows on

-- what an update comes to on these grounds: `None` where it is accepted, and else its refusal
abbrev pub ComesTo : Update → Grounds → Option UpdateRefused → Type 0
ComesTo update on None = IsAccepted update on
ComesTo update on (Some (Spent limit)) = IsSpent on limit
ComesTo (Set flow) on (Some Absent) = ⊥
ComesTo (Del key) on (Some Absent) = IsAbsent on
ComesTo (Set flow) on (Some (BlockFull block)) = IsBlockFull on block
ComesTo (Del key) on (Some (BlockFull block)) = ⊥
ComesTo update on (Some (RowsFull block needed free)) = IsRowsFull update on block needed free
ComesTo update on (Some OutOfMemory) = ⊥

-- ---- the first case that holds

abbrev pub refusal_of_turns : Grounds → Option UpdateRefused
refusal_of_turns on = if on.turns == most_turns then Some (Spent most_turns) else None

abbrev pub refusal_of_place : Update → Grounds → Option UpdateRefused
refusal_of_place (Set flow) on = if on.known then None else (if on.keys == 1536 then Some (BlockFull on.block) else None)
refusal_of_place (Del key) on = if on.known then None else Some Absent

abbrev pub refusal_of_rows : Grounds → Option UpdateRefused
refusal_of_rows on = if on.served then None else (if nat_lt on.free on.needed then Some (RowsFull on.block on.needed on.free) else None)

-- why an update is refused on these grounds: `None` where it is accepted
unfoldable pub refusal : Update → Grounds → Option UpdateRefused
refusal update on = option_or (refusal_of_turns on) (option_or (refusal_of_place update on) (refusal_of_rows on))

-- exactly one case holds, and it is this one
abbrev pub OneCaseHolds : Type 0
OneCaseHolds = (update : Update) (on : Grounds) (verdict : Option UpdateRefused) → ComesTo update on verdict ↔ (verdict ≡ refusal update on)
