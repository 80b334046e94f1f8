-- The choices of a block's buckets, and the octets that hold four choices each.
use Rattle.std.specs.Prelude.{◌≡◌, ◌≢◌, ℕ, ◌+◌, ◌*◌, ◌/◌, ◌%◌, ◌^◌, ◌<◌, List, length, map, slice_index, replicate}
use Rattle.std.specs.List.{All, range_with_len}
use Rattle.block_layout.specs.Limits.{bucket_count}

-- the choice of bucket b stands in octet b / 4, in the two bits from 2 * (b % 4) up
abbrev pub choice_at : List ℕ → ℕ → ℕ
choice_at octets bucket = slice_index octets (bucket / 4) / 2 ^ (2 * (bucket % 4)) % 4

-- the choices that these octets hold
unfoldable pub choices_in : List ℕ → List ℕ
choices_in octets = map (choice_at octets) (range_with_len 0 bucket_count)

-- the octet of four choices
abbrev pub octet_at : List ℕ → ℕ → ℕ
octet_at choices k =
    slice_index choices (4 * k) + 4 * slice_index choices (4 * k + 1) + 16 * slice_index choices (4 * k + 2) + 64 * slice_index choices (4 * k + 3)

-- the octets that hold these choices
unfoldable pub choice_octets : List ℕ → List ℕ
choice_octets choices = map (octet_at choices) (range_with_len 0 (bucket_count / 4))

-- choice 0 for each bucket
unfoldable pub none_chosen : List ℕ
none_chosen = replicate bucket_count 0

-- as many octets as hold the choices of a block
pub record AreOctets (bytes : List ℕ) : Type 0 where
  pub all : length bytes ≡ bucket_count / 4
  pub fit : All (λ octet. octet < 256) bytes

-- an octet after and before the choice at one of its four places is replaced
pub record Replaces (before after place choice : ℕ) : Type 0 where
  pub fits : after < 256
  pub chosen : after / 2 ^ (2 * place) % 4 ≡ choice
  pub others : (other : ℕ) → other < 4 → other ≢ place → after / 2 ^ (2 * other) % 4 ≡ before / 2 ^ (2 * other) % 4
