-- What a lane has seen once its readers have met tables and FIBs.
use Rattle.std.specs.Prelude.{◌≡◌, ℕ, ◌+◌, List, [], ◌∷◌, Some}
use Rattle.storm_model.specs.Lists.{IsLater}
use Rattle.storm_lane.specs.Lane.{LaneState, all_seats, fib_book, lists_of, table_shard}
use Rattle.storm_lane.specs.Work.{IsSameLane, MeetsAt}
use Rattle.turn_relay.specs.PartState.{ApplierState, PartState}
use Rattle.cluster_storm.specs.Rest.{part_at}

-- ---- whose readers they are

-- the lane's readers of the owner at the node are of this table and of this FIB
pub record IsReaderOf (lane : LaneState) (node owner : ℕ) (part : PartState) : Type 0 where
  pub shard : table_shard (all_seats lane.readers) node owner ≡ Some part.table.shard
  pub book : fib_book (all_seats lane.readers) node owner ≡ Some part.fib.book

-- so it is with a node's parts, of the owners from this one on, and with those of the nodes from this one on
abbrev pub ReadsParts : LaneState → (node owner : ℕ) → List PartState → Type 0
ReadsParts lane node owner [] = Unit {0}
ReadsParts lane node owner (part ∷ parts) = IsReaderOf lane node owner part × ReadsParts lane node (owner + 1) parts

abbrev pub ReadsNodes : LaneState → (node : ℕ) → List ApplierState → Type 0
ReadsNodes lane node [] = Unit {0}
ReadsNodes lane node (applier ∷ appliers) = ReadsParts lane node 0 applier.parts × ReadsNodes lane (node + 1) appliers

-- ---- one after the other

-- the lane has now seen all that a node has of the owners from this one on, and then all that the nodes have from this one on
abbrev pub MeetsParts : (node owner : ℕ) → List PartState → (before after : LaneState) → Type 0
MeetsParts node owner [] before after = after ≡ before
MeetsParts node owner (part ∷ parts) before after =
    (between : LaneState) × MeetsAt node owner part.table.list part.fib.turns before between × MeetsParts node (owner + 1) parts between after

abbrev pub MeetsNodes : (node : ℕ) → List ApplierState → (before after : LaneState) → Type 0
MeetsNodes node [] before after = after ≡ before
MeetsNodes node (applier ∷ appliers) before after =
    (between : LaneState) × MeetsParts node 0 applier.parts before between × MeetsNodes (node + 1) appliers between after

-- ---- all in all

-- the lane has now seen all that there is
pub record HasMet (appliers : List ApplierState) (before after : LaneState) : Type 0 where
  pub same : IsSameLane before after
  pub later : IsLater (lists_of before.readers) (lists_of after.readers)
  pub replies : after.replies ≡ before.replies
  pub failed : after.failed ≡ before.failed
  pub tables : (node owner : ℕ) (part : PartState) → part_at appliers node owner ≡ Some part → (lists_of after.readers).tables node owner ≡ part.table.list
  pub fibs : (node owner : ℕ) (part : PartState) → part_at appliers node owner ≡ Some part → (lists_of after.readers).fibs node owner ≡ part.fib.turns
