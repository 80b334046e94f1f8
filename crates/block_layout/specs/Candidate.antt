-- The groups that a bucket may go to.
use Rattle.std.specs.Prelude.{ℕ, ◌+◌, ◌*◌, ◌/◌, ◌%◌, List, [], ◌∷◌, slice_index}
use Rattle.block_layout.specs.Limits.{group_count}

-- how far the candidates of a bucket stand apart, for each quarter of the buckets
abbrev pub strides : List ℕ
strides = 1 ∷ 5 ∷ 11 ∷ 17 ∷ []

-- candidate c of bucket b: c strides on from b, around the groups
unfoldable pub candidate : ℕ → ℕ → ℕ
candidate bucket choice = (bucket % group_count + choice * slice_index strides (bucket / group_count)) % group_count
