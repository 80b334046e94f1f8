-- The hash functions of the table, over numbers. All sums and products are taken modulo 2^64 unless another modulus
-- is named.
use Rattle.std.specs.Prelude.{ℕ, ◌+◌, ◌*◌, ◌/◌, ◌%◌, ◌^◌, bit_or, bit_xor}
use Rattle.flow_types.specs.declared.key.FlowKey.{FlowKey}
use Rattle.flow_types.specs.Key.{number}
use Rattle.block_layout.specs.Limits.{bucket_count}
use Rattle.hash_family.specs.declared.bucket.Place.{Place}
use Rattle.hash_family.specs.declared.pairing.HashPair.{HashPair}

-- 2^64 divided by the golden ratio, to the nearest odd number
abbrev pub seed_step : ℕ
seed_step = 0x9E3779B97F4A7C15

-- the factors of SplitMix64's finalizer
abbrev pub first_factor : ℕ
first_factor = 0xBF58476D1CE4E5B9

abbrev pub second_factor : ℕ
second_factor = 0x94D049BB133111EB

-- one step of mixing: the upper bits are folded down, and a product spreads them
unfoldable pub stir : ℕ → ℕ → ℕ → ℕ
stir bits factor z = bit_xor z (z / 2 ^ bits) * factor % 2 ^ 64

-- the finalizer of SplitMix64: two such steps, and one more fold
unfoldable pub mix : ℕ → ℕ
mix z = let stirred = stir 27 second_factor (stir 30 first_factor z) in bit_xor stirred (stirred / 2 ^ 31)

-- where the j-th base starts
abbrev pub seed : ℕ → ℕ
seed j = j * seed_step % 2 ^ 64

-- the j-th base of the key of this number: its lower 64 bits under the seed, then its upper 40
unfoldable pub base : ℕ → ℕ → ℕ
base j key = mix ((mix (bit_xor (key % 2 ^ 64) (seed j)) + key / 2 ^ 64) % 2 ^ 64)

-- the block and bucket of a key, in a table of `blocks` blocks
unfoldable pub place : ℕ → FlowKey → Place
place blocks key = record { block = base 1 (number key) / 2 ^ 32 % blocks; bucket = base 1 (number key) % bucket_count }

-- the hash at index 0, and what each further index adds, an odd number
unfoldable pub pair : FlowKey → HashPair
pair key = record { g1 = base 2 (number key) / 2 ^ 32; g2 = bit_or (base 3 (number key) / 2 ^ 32) 1 }

-- where a key with this pair stands under the member of this index: the three upper bits of its hash
unfoldable pub position : HashPair → ℕ → ℕ
position pair index = (pair.g1 + index * pair.g2) % 2 ^ 32 / 2 ^ 29
