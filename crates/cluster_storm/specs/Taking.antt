-- What a phase's workers give of their replies.
use Rattle.std.specs.Prelude.{◌≡◌, List, [], Option, Some, None}
use Rattle.run_model.specs.declared.reply.Reply.{Reply}
use Rattle.storm_lane.specs.Lane.{LaneState}
use Rattle.turn_relay.specs.OwnerState.{OwnerState}

-- the replies of the owner, and none where there is none
abbrev pub replies_of_owner : Option OwnerState → List Reply
replies_of_owner None = []
replies_of_owner (Some owner) = owner.replies

-- the replies of the lane, and none where there is none
abbrev pub replies_of_lane : Option LaneState → List Reply
replies_of_lane None = []
replies_of_lane (Some lane) = lane.replies

-- the owner has no replies left, and is else as it was
abbrev pub HasGiven : (before after : OwnerState) → Type 0
HasGiven before after = after ≡ record before { replies = [] }

-- the lane has no replies left, and is else as it was
abbrev pub HasGivenLane : (before after : LaneState) → Type 0
HasGivenLane before after = after ≡ record before { replies = [] }
