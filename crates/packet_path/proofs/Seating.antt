-- A table's seat, by its shard and its writer.
use Rattle.std.proofs.Common.{◌≡◌, ◌∙◌}
use Rattle.replica_shard.specs.declared.shard.Shard.{Shard}
use Rattle.replica_shard.specs.declared.shard.ShardWriter.{ShardWriter}
use Rattle.replica_shard.specs.Seats.{taken_list}
use Rattle.packet_path.specs.Seated.{Seated}

abbrev pub seated : Shard → ShardWriter → Seated
seated shard writer = record { shard = shard; list = taken_list shard writer }

-- what is reached through a pointer is what it points to
pub seated-there : (table : Seated) (there shard : Shard) (writer : ShardWriter) → there ≡ shard → seated shard writer ≡ table → seated there writer ≡ table
seated-there table there shard writer same is = (λ i. seated (same i) writer) ∙ is
