-- How large a block is.
use Rattle.std.specs.Prelude.{ℕ}

-- how many buckets the keys of a block stand in
abbrev pub bucket_count : ℕ
bucket_count = 256

-- how many groups these buckets go to
abbrev pub group_count : ℕ
group_count = 64

-- how many of the groups a bucket may go to
abbrev pub candidate_count : ℕ
candidate_count = 4

-- how many keys a block has at most
abbrev pub most_keys : ℕ
most_keys = 1536
