-- The buckets of the ranks.
use Rattle.std.proofs.Common.{◌≡◌, ℕ, zero, suc, ◌+◌, ◌%◌, ◌<◌, ◌≤◌, List, [], ◌∷◌, map, refl, arith, get_or, length, drop, fold, replicate, add-one, drop-cons}
use Rattle.std.proofs.lemmas.List.{get_or-replicate, drop_all}
use Rattle.std.specs.List.{All, AllByRecursion, range_with_len}
use Rattle.block_layout.specs.Dealing.{rank, buckets, order_of, deal, none_dealt}
use Rattle.block_layout.specs.declared.dealing.Dealt.{Dealt}
use Rattle.block_layout.proofs.Sorting.{ordered_all}

bucket_of_rank : (sizes : List ℕ) (b : ℕ) → b < 256 → rank sizes b % 256 ≡ b
unfolding rank
bucket_of_rank sizes b h = omega arith

buckets_of : (sizes bs : List ℕ) → AllByRecursion (λ b. b < 256) bs → map (λ r. r % 256) (map (rank sizes) bs) ≡ bs
buckets_of sizes [] all = refl
buckets_of sizes (b ∷ bs) all = let first = bucket_of_rank sizes b all.0 in let others = buckets_of sizes bs all.1 in cc

range_below : (a n m : ℕ) → a + n ≤ m → AllByRecursion (λ b. b < m) (range_with_len a n)
range_below a zero m h = tt
range_below a (suc n) m h = (omega arith, range_below (a + 1) n m (omega arith))

pub order_below : (sizes : List ℕ) → AllByRecursion (λ b. b < 256) (order_of sizes)
unfolding order_of buckets
order_below sizes = ordered_all (rank sizes) (λ b. b < 256) (range_with_len 0 256) (range_below 0 256 256 (omega arith))

pub buckets_of_ranks : (sizes : List ℕ) → map (λ r. r % 256) (map (rank sizes) (order_of sizes)) ≡ order_of sizes
buckets_of_ranks sizes = buckets_of sizes (order_of sizes) (order_below sizes)

loads_of_zero : (n k d : ℕ) → k < n → get_or (replicate n 0) k d ≤ 0
loads_of_zero n k d h = rw (get_or-replicate n k 0 d h) (omega arith)

pub none_loaded : All (λ load. load ≤ 0) none_dealt.loads
unfolding none_dealt
none_loaded = loads_of_zero 64

-- one more bucket is dealt out, and fewer are left
pub left_more : (sizes ranks : List ℕ) (i : ℕ) (dealt : Dealt) → i < length ranks → fold (deal sizes) (deal sizes dealt (get_or ranks i 0 % 256)) (map (λ r. r % 256) (drop (i + 1) ranks)) ≡ fold (deal sizes) dealt (map (λ r. r % 256) (drop i ranks))
left_more sizes ranks i dealt h = rw (add-one, drop-cons ranks i 0 h) refl

pub none_left : (sizes ranks : List ℕ) (i : ℕ) (dealt : Dealt) → length ranks ≤ i → fold (deal sizes) dealt (map (λ r. r % 256) (drop i ranks)) ≡ dealt
none_left sizes ranks i dealt h = rw (drop_all i ranks h) refl
