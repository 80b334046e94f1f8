-- The workers' replies, one queue behind the other.
use Rattle.std.proofs.Common.{◌≡◌, ℕ, zero, suc, List, [], ◌∷◌, map, refl}
use Rattle.std.specs.List.{slice_get}
use Rattle.storm_model.specs.Merging.{queues_of}
use Rattle.storm_lane.specs.Lane.{LaneState}
use Rattle.turn_relay.specs.OwnerState.{OwnerState}
use Rattle.cluster_storm.specs.Taking.{replies_of_lane, replies_of_owner}

-- the queues of the owners' replies, by number
pub queues_of_owners : (owners : List OwnerState) (number : ℕ) → queues_of (map (λ (owner : OwnerState). owner.replies) owners) number ≡ replies_of_owner (slice_get owners number)
queues_of_owners [] number = refl
queues_of_owners (owner ∷ owners) zero = refl
queues_of_owners (owner ∷ owners) (suc number) = queues_of_owners owners number

-- the queues of the lanes' replies, by number
pub queues_of_lanes : (lanes : List LaneState) (number : ℕ) → queues_of (map (λ (lane : LaneState). lane.replies) lanes) number ≡ replies_of_lane (slice_get lanes number)
queues_of_lanes [] number = refl
queues_of_lanes (lane ∷ lanes) zero = refl
queues_of_lanes (lane ∷ lanes) (suc number) = queues_of_lanes lanes number
