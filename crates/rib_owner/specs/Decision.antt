-- An update that an owner has judged, and will accept.
use Rattle.std.specs.Prelude.{◌≡◌, ◌≢◌, ℕ, ◌/◌, ◌<◌, ◌≤◌, length, option_map, IfSome, Option, Some, None, Result, Ok, Err}
use Rattle.std.specs.List.{slice_get}
use Rattle.flow_types.specs.declared.key.FlowKey.{FlowKey}
use Rattle.flow_types.specs.Limits.{most_turns}
use Rattle.flow_types.specs.Map.{flow_at}
use Rattle.flow_types.specs.Size.{value_bits}
use Rattle.hash_family.specs.Hash.{place}
use Rattle.group_search.specs.Canon.{canonical, rows_in}
use Rattle.group_search.specs.Home.{group_of}
use Rattle.group_search.specs.Owned.{IsOwned}
use Rattle.group_search.specs.Records.{entries}
use Rattle.group_history.specs.declared.change.Change.{Change}
use Rattle.group_history.specs.declared.refused.UpdateRefused.{UpdateRefused}
use Rattle.group_history.specs.declared.update.Update.{Update}
use Rattle.group_history.specs.Acceptance.{change_at, grounds_in, refusal_of_place, updated_key}
use Rattle.group_history.specs.Change.{step}
use Rattle.rib_owner.specs.declared.block.Found.{Found}
use Rattle.rib_owner.specs.declared.decision.Decision.{Decision}
use Rattle.rib_owner.specs.declared.turn.Turn.{Turn}
use Rattle.rib_owner.specs.Part.{rows_free}
use Rattle.rib_owner.specs.Rib.{Part, Rib, group_in, map_in, part_of}
use Rattle.rib_owner.specs.Stock.{bucket_for, standing_in}

-- where an update's key is kept, and the change that it makes
pub record IsSeen (rib : Rib) (update : Update) (block group index : ℕ) (found : Part) (change : Change) : Type 0 where
  pub block_is : block ≡ (place rib.size.blocks (updated_key update)).block
  pub index_is : index ≡ block / rib.size.nodes
  pub inside : index < length rib.parts
  pub group_is : group ≡ group_in (part_of rib block) rib.size.blocks (updated_key update)
  pub low : group < 64
  pub found_is : found ≡ part_of rib block
  pub change_is : change ≡ change_at (record { block = block; group = group }) update

-- what a group of a block has at a key: no flow, or one with this place in its bucket
pub record IsFoundAt (part : Part) (group bucket : ℕ) (key : FlowKey) (found : Option Found) : Type 0 where
  pub flow : option_map (λ (it : Found). it.flow) found ≡ flow_at key (map_in part group)
  pub place : IfSome found (λ (it : Found). slice_get (standing_in part group bucket) it.place ≡ Some it.flow)

-- the owner as it stands accepts the update whose turn this is: there is a turn left, a place for the key, and room for the
-- rows of its group's new record
pub record IsDecided (rib : Rib) (decision : Decision) : Type 0 where
  pub update : Update
  pub part : Part
  pub owned : IsOwned rib.size rib.number (updated_key update)
  pub left : length rib.journal.changes ≢ most_turns
  pub some_node : 1 ≤ rib.size.nodes
  pub below : decision.spot.block < rib.size.blocks
  pub seen : IsSeen rib update decision.spot.block decision.spot.group decision.spot.index part decision.turn.change
  pub bucket : decision.spot.bucket ≡ bucket_for (updated_key update)
  pub in_group : decision.spot.group ≡ group_of part.choices decision.spot.bucket
  pub found : IsFoundAt part decision.spot.group decision.spot.bucket (updated_key update) decision.found
  pub there : (bits turns : ℕ) → refusal_of_place update
      (grounds_in bits turns (record { block = decision.spot.block; group = decision.spot.group }) (map_in part) update) ≡ None
  pub content : canonical (value_bits rib.size.nodes) (entries (step (map_in part decision.spot.group) decision.turn.change)) ≡ Some decision.turn.content
  pub room : rows_in decision.turn.content ≤ rows_free part decision.spot.group

-- a judgement tells the turn that the update will be, or why it is refused
abbrev pub turn_decided : Result Decision UpdateRefused → Result Turn UpdateRefused
turn_decided (Ok decision) = Ok decision.turn
turn_decided (Err refused) = Err refused
