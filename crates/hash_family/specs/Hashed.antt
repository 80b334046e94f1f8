-- A key with all that the table hashes of it.
use Rattle.std.specs.Prelude.{ℕ, ◌≡◌}
use Rattle.flow_types.specs.declared.key.FlowKey.{FlowKey}
use Rattle.flow_types.specs.Key.{number}
use Rattle.hash_family.specs.declared.pairing.HashPair.{HashPair}
use Rattle.hash_family.specs.Hash.{base, pair}

-- this is the key's first base, from which its place comes, and this is its hash pair
pub record IsHashed (first : ℕ) (hashes : HashPair) (key : FlowKey) : Type 0 where
  pub placing : first ≡ base 1 (number key)
  pub pairing : hashes ≡ pair key
