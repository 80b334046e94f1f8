-- The rows that a shard has free for its owner's next turn.
use Rattle.std.proofs.Common.{ℕ, ◌≡◌, ◌∙◌, ◌-◌, ◌≤◌, Bool, true, false, cond, List, Option, Some, None, refl, ap, arith}
use Rattle.std.proofs.lemmas.Bool.{eq-eqb}
use Rattle.flow_types.specs.declared.record.Flow.{Flow}
use Rattle.flow_types.specs.Size.{Size, value_bits}
use Rattle.group_search.specs.declared.record.GroupRecord.{GroupRecord}
use Rattle.group_search.specs.Build.{rows_needed, rows_left}
use Rattle.group_search.specs.Canon.{rows_in}
use Rattle.group_search.specs.Home.{opening}
use Rattle.group_search.specs.Records.{content_of, entries}
use Rattle.group_search.proofs.NeededRows.{rows_of_canonical}
use Rattle.group_history.specs.declared.change.Change.{Change}
use Rattle.group_history.specs.Change.{changed_group, concerns, step}
use Rattle.group_history.specs.History.{now, content_after}
use Rattle.group_history.proofs.Versions.{now_own}
use Rattle.delta_codec.specs.declared.message.TableMessage.{TableMessage}
use Rattle.delta_codec.specs.Messages.{IsTableMessage}
use Rattle.replica_shard.specs.Shard.{free_rows, is_owned_group, rows_taken_by, shard_after}
use Rattle.replica_shard.proofs.Sums.{beside_most, sum_beside}

-- a canonical record takes the rows that its map needs
pub rows_of_content : (nodes : ℕ) (flows : List Flow) (content : GroupRecord) → content_of nodes flows ≡ Some content → rows_in content ≡ rows_needed (value_bits nodes) (entries flows)
unfolding content_of
rows_of_content nodes flows content is = rows_of_canonical (entries flows) (value_bits nodes) content is

-- and where there is none, no rows are taken
pub rows_at_most : (nodes : ℕ) (flows : List Flow) → rows_taken_by (content_of nodes flows) ≤ rows_needed (value_bits nodes) (entries flows)
rows_at_most nodes flows = by (content_of nodes flows) refl
  where
    by : (content : Option GroupRecord) → content_of nodes flows ≡ content → rows_taken_by (content_of nodes flows) ≤ rows_needed (value_bits nodes) (entries flows)
    by None is = omega (arith, ap rows_taken_by is)
    by (Some content) is = omega (arith, ap rows_taken_by is, rows_of_content nodes flows content is)

free_are : (records : ℕ → Option GroupRecord) (group : ℕ) → rows_left (λ (other : ℕ). rows_taken_by (records other)) group ≡ 64 - sum_beside (λ (other : ℕ). rows_taken_by (records other)) group 0 64
unfolding rows_left
free_are records group = refl

taken_if : (own : Bool) (content : Option GroupRecord) (most : ℕ) → rows_taken_by content ≤ most → rows_taken_by (cond own content None) ≤ most
taken_if true content most few = few
taken_if false content most few = omega arith

module _ (size : Size) (owner : ℕ) (flows : List Flow) (before : List Change) where
  -- how many rows a group's map needs after the changes
  abbrev pub needed_after : (block group : ℕ) → ℕ
  needed_after block group =
      rows_needed (value_bits size.nodes) (entries (now (opening size.blocks flows (record { block = block; group = group })) before (record { block = block; group = group })))

  -- a shard after changes has no fewer rows free beside a group than the maps of the block's other groups leave
  pub free_at_least : (block group : ℕ) → 64 - sum_beside (needed_after block) group 0 64 ≤ free_rows (shard_after size owner flows before) block group
  free_at_least block group =
      let records : ℕ → Option GroupRecord = λ (other : ℕ). (shard_after size owner flows before).records (record { block = block; group = other }) in
      let least = beside_most (λ (other : ℕ). rows_taken_by (records other)) (needed_after block) group 64 0
      (λ other low high.
      taken_if (is_owned_group size owner (record { block = block; group = other })) (content_after size flows before (record { block = block; group = other })) (needed_after block other)
      (rows_at_most size.nodes (now (opening size.blocks flows (record { block = block; group = other })) before (record { block = block; group = other })))) in
      omega (arith, least, free_are records group)

  -- so it doesn't refuse the message of a change whose map needs no more rows than these
  pub has_room : (change : Change) (message : TableMessage) → IsTableMessage size owner flows before change message
      → rows_needed (value_bits size.nodes) (entries (step (now (opening size.blocks flows (changed_group change)) before (changed_group change)) change))
      ≤ 64 - sum_beside (needed_after change.block) change.group 0 64
      → rows_in message.content ≤ free_rows (shard_after size owner flows before) message.block message.group
  has_room change message is room =
      let concerned : concerns (changed_group change) change ≡ true = rw (eq-eqb change.block change.block refl, eq-eqb change.group change.group refl) refl in
      let rows : rows_in message.content ≡ rows_needed (value_bits size.nodes) (entries (step (now (opening size.blocks flows (changed_group change)) before (changed_group change)) change)) =
      rows_of_content size.nodes _ message.content is.canonical
      ∙ ap (λ (map : List Flow). rows_needed (value_bits size.nodes) (entries map)) (now_own (changed_group change) (opening size.blocks flows (changed_group change)) before change concerned) in
      let free : free_rows (shard_after size owner flows before) message.block message.group ≡ free_rows (shard_after size owner flows before) change.block change.group =
      ap (λ (block : ℕ). free_rows (shard_after size owner flows before) block message.group) is.of_block
      ∙ ap (free_rows (shard_after size owner flows before) change.block) is.of_group in
      omega (arith, rows, free, free_at_least change.block change.group, room)
