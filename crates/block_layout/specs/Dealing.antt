-- How the buckets of a block are dealt out to their candidate groups.
use Rattle.std.specs.Prelude.{◌≡◌, ◌⊎◌, ◌<◌, ◌≤◌, length, ℕ, zero, suc, ◌+◌, ◌-◌, ◌*◌, nat_lt, if◌then◌else◌, List, [], ◌∷◌, slice_index, slice_set, fold, replicate}
use Rattle.std.specs.List.{All, range_with_len}
use Rattle.std.specs.List.Sorted.{IsPermutation}
use Rattle.block_layout.specs.Candidate.{candidate}
use Rattle.block_layout.specs.Choices.{none_chosen}
use Rattle.block_layout.specs.declared.dealing.Dealt.{Dealt}
use Rattle.block_layout.specs.Limits.{bucket_count, group_count, candidate_count, most_keys}

-- the buckets of a block, by rising number
unfoldable pub buckets : List ℕ
buckets = range_with_len 0 bucket_count

-- the groups of a block, by rising number
abbrev pub groups : List ℕ
groups = range_with_len 0 group_count

-- a bucket with more keys has the lower rank, and of two with as many keys the lower bucket
unfoldable pub rank : List ℕ → ℕ → ℕ
rank sizes bucket = (most_keys - slice_index sizes bucket) * bucket_count + bucket

-- the buckets with one more, which comes before those of higher ranks
abbrev pub placed_by : (ℕ → ℕ) → ℕ → List ℕ → List ℕ
placed_by rank bucket [] = bucket ∷ []
placed_by rank bucket (first ∷ others) =
    if nat_lt (rank bucket) (rank first) then bucket ∷ first ∷ others else first ∷ placed_by rank bucket others

-- the buckets by rising rank
abbrev pub ordered_by : (ℕ → ℕ) → List ℕ → List ℕ
ordered_by rank [] = []
ordered_by rank (bucket ∷ others) = placed_by rank bucket (ordered_by rank others)

-- the order in which the buckets are dealt out, by falling number of keys
unfoldable pub order_of : List ℕ → List ℕ
order_of sizes = ordered_by (rank sizes) buckets

-- the first of 0 to n where the load is least
abbrev pub first_least : (ℕ → ℕ) → ℕ → ℕ
first_least load zero = 0
first_least load (suc n) = if nat_lt (load (suc n)) (load (first_least load n)) then suc n else first_least load n

-- the bucket's candidate whose group has the fewest keys
unfoldable pub least_loaded : List ℕ → ℕ → ℕ
least_loaded loads bucket = first_least (λ choice. slice_index loads (candidate bucket choice)) (candidate_count - 1)

-- the loads with these keys more in this group
abbrev pub with_load : List ℕ → ℕ → ℕ → List ℕ
with_load loads group keys = slice_set loads group (slice_index loads group + keys)

-- one more bucket is dealt out: its keys go to the candidate whose group has the fewest
unfoldable pub deal : List ℕ → Dealt → ℕ → Dealt
deal sizes dealt bucket =
    let choice = least_loaded dealt.loads bucket in
    record {
      loads = with_load dealt.loads (candidate bucket choice) (slice_index sizes bucket);
      choices = slice_set dealt.choices bucket choice;
    }

unfoldable pub none_dealt : Dealt
none_dealt = record { loads = replicate group_count 0; choices = none_chosen }

-- the choices once all buckets are dealt out
unfoldable pub choices_of : List ℕ → List ℕ
choices_of sizes = (fold (deal sizes) none_dealt (order_of sizes)).choices

-- a bucket is dealt out before another, or is the same
abbrev pub ComesFirst : List ℕ → ℕ → ℕ → Type 0
ComesFirst sizes bucket other =
    (slice_index sizes other < slice_index sizes bucket) ⊎ ((slice_index sizes other ≡ slice_index sizes bucket) × (bucket ≤ other))

-- all buckets stand in the order, those with more keys first, and of two with as many the lower first
pub record IsOrder (sizes order : List ℕ) : Type 0 where
  pub all : IsPermutation buckets order
  pub falling : (i j : ℕ) → i ≤ j → j < bucket_count → ComesFirst sizes (slice_index order i) (slice_index order j)

-- c is the first of 0 to n where the load is least
pub record IsFirstLeast (load : ℕ → ℕ) (n c : ℕ) : Type 0 where
  pub within : c ≤ n
  pub least : (d : ℕ) → d ≤ n → load c ≤ load d
  pub first : (d : ℕ) → d < c → load c < load d

-- a choice for each bucket
pub record AreChoices (choices : List ℕ) : Type 0 where
  pub all : length choices ≡ bucket_count
  pub below : All (λ choice. choice < candidate_count) choices
