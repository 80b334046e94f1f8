-- What a lane's thread does in a phase.
use Rattle.std.specs.Prelude.{◌≡◌, ◌≢◌, ◌⊎◌, ℕ, false, List}
use Rattle.group_search.specs.declared.published.Publication.{Publication}
use Rattle.delta_codec.specs.declared.message.FibMessage.{FibMessage}
use Rattle.packet_reader.specs.declared.event.Event.{Event}
use Rattle.storm_model.specs.Lists.{IsLater, WalksByLists}
use Rattle.storm_lane.specs.Lane.{LaneState, all_seats, lists_of, parts_of}

-- it stays the lane that it was, with the same readers
pub record IsSameLane (before after : LaneState) : Type 0 where
  pub size : after.size ≡ before.size
  pub number : after.number ≡ before.number
  pub lanes : after.lanes ≡ before.lanes
  pub seats : all_seats after.readers ≡ all_seats before.readers

-- the lane walked along the events of a phase, in which the first packet has this number, and what its readers had seen then
-- they have seen now: unless it met want of memory, it has its replies
pub record LaneDid (first : ℕ) (events : List Event) (before after : LaneState) : Type 0 where
  pub same : IsSameLane before after
  pub later : IsLater (lists_of before.readers) (lists_of after.readers)
  pub walks : after.failed ≡ false
      → WalksByLists before.size (parts_of (all_seats before.readers)) before.lanes before.number (lists_of before.readers) first events after.replies (lists_of after.readers)

-- the readers of one owner at one node have seen all of a table and of a FIB, and all others are as they were
pub record MeetsAt (node owner : ℕ) (taken : List Publication) (published : List FibMessage) (before after : LaneState) : Type 0 where
  pub same : IsSameLane before after
  pub later : IsLater (lists_of before.readers) (lists_of after.readers)
  pub replies : after.replies ≡ before.replies
  pub failed : after.failed ≡ before.failed
  pub records : (lists_of after.readers).tables node owner ≡ taken
  pub turns : (lists_of after.readers).fibs node owner ≡ published
  pub other_tables : (n o : ℕ) → (n ≢ node) ⊎ (o ≢ owner) → (lists_of after.readers).tables n o ≡ (lists_of before.readers).tables n o
  pub other_fibs : (n o : ℕ) → (n ≢ node) ⊎ (o ≢ owner) → (lists_of after.readers).fibs n o ≡ (lists_of before.readers).fibs n o
