use Rattle.std.proofs.Common.{◌∙◌, ap}
use Rattle.hash_family.specs.declared.bucket.Place.{Place}
use Rattle.replica_shard.specs.Seats.{shard_at}
use Rattle.replica_shard.specs.Shard.{home_in_state}
use Rattle.replica_shard.specs.Store.{shard_state_of}
use Rattle.replica_shard.proofs.shard.Shard.home.Goals as goal

pub returns-clause-home : goal.returns-clause-home
returns-clause-home c list =
    c.home_at.ensures.home list ∙ ap (λ (at : Place). home_in_state (shard_state_of (shard_at c.args.self.now list)) at) c.place.ensures.value
