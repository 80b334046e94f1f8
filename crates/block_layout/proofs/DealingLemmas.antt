-- What the order, the least load and the choices are.
use Rattle.std.proofs.Common.{◌≡◌, ◌⊎◌, ℕ, zero, suc, ◌<◌, ◌≤◌, nat_lt, Bool, true, false, if◌then◌else◌, List, [], ◌∷◌, length, get_or, fold, replicate, refl, ap, ◌∙◌, arith, inl, inr, sum}
use Rattle.std.specs.List.{AllByRecursion}
use Rattle.std.specs.List.Sorted.{IsPermutation}
use Rattle.std.proofs.lemmas.Bool.{cases_order, ltb-true, ltb-false}
use Rattle.std.proofs.lemmas.List.{length-set, get_or-replicate}
use Rattle.std.proofs.lemmas.List.Elements.{All-set}
use Rattle.std.proofs.lemmas.List.FromFn.{length-range_with_len}
use Rattle.std.proofs.lemmas.List.Sorted.{IsPermutation-refl, IsPermutation-cons, IsPermutation-trans, IsPermutation-middle, length_permutation}
use Rattle.std.proofs.lemmas.List.Sums.{get_or-le-sum_by}
use Rattle.block_layout.specs.Candidate.{candidate}
use Rattle.block_layout.specs.Choices.{none_chosen}
use Rattle.block_layout.specs.Dealing.{rank, buckets, placed_by, ordered_by, order_of, first_least, least_loaded, deal, none_dealt, choices_of, ComesFirst, IsOrder, IsFirstLeast, AreChoices}
use Rattle.block_layout.specs.declared.dealing.Dealt.{Dealt}
use Rattle.block_layout.proofs.Sorting.{RisingBy, rising_ordered}
use Rattle.block_layout.proofs.Ranks.{order_below}

one_more : (load : ℕ → ℕ) (n c : ℕ) (t : Bool) → nat_lt (load (suc n)) (load c) ≡ t → IsFirstLeast load n c → IsFirstLeast load (suc n) (if t then suc n else c)
one_more load n c true e is =
    let lower : load (suc n) < load c = ltb-true _ _ e in
    record {
      within = omega arith;
      least = λ d h. least_here d (cases_order d (suc n)) h lower;
      first = λ d h. omega (arith, lower, is.least d (omega arith));
    } where
      least_here : (d : ℕ) → (d ≡ suc n) ⊎ ((d < suc n) ⊎ (suc n < d)) → d ≤ suc n → load (suc n) < load c → load (suc n) ≤ load d
      least_here d (inl e') h lower = omega (arith, ap load e')
      least_here d (inr (inl f)) h lower = omega (arith, is.least d (omega arith))
      least_here d (inr (inr f)) h lower = absurd (omega arith)
one_more load n c false e is =
    let no_lower : load c ≤ load (suc n) = ltb-false _ _ e in
    record {
      within = omega (arith, is.within);
      least = λ d h. least_there d (cases_order d (suc n)) h no_lower;
      first = is.first;
    } where
      least_there : (d : ℕ) → (d ≡ suc n) ⊎ ((d < suc n) ⊎ (suc n < d)) → d ≤ suc n → load c ≤ load (suc n) → load c ≤ load d
      least_there d (inl e') h low = omega (arith, ap load e')
      least_there d (inr (inl f)) h low = is.least d (omega arith)
      least_there d (inr (inr f)) h low = absurd (omega arith)

only : (load : ℕ → ℕ) (d : ℕ) → d ≤ 0 → load 0 ≤ load d
only load zero h = omega arith
only load (suc d) h = absurd (omega arith)

pub is_first_least : (load : ℕ → ℕ) (n : ℕ) → IsFirstLeast load n (first_least load n)
is_first_least load zero = record { within = omega arith; least = only load; first = λ d h. absurd (omega arith) }
is_first_least load (suc n) = one_more load n (first_least load n) (nat_lt (load (suc n)) (load (first_least load n))) refl (is_first_least load n)

least_loaded_below : (loads : List ℕ) (bucket : ℕ) → least_loaded loads bucket < 4
unfolding least_loaded
least_loaded_below loads bucket = let is = is_first_least (λ choice. get_or loads (candidate bucket choice) 0) 3 in omega (arith, is.within)

one_dealt : (sizes : List ℕ) (dealt : Dealt) (bucket : ℕ) → AreChoices dealt.choices → AreChoices (deal sizes dealt bucket).choices
unfolding deal
one_dealt sizes dealt bucket are = record {
  all = length-set dealt.choices bucket (least_loaded dealt.loads bucket) ∙ are.all;
  below = All-set (λ choice. choice < 4) dealt.choices bucket _ (least_loaded_below dealt.loads bucket) are.below;
}

all_dealt : (sizes order : List ℕ) (dealt : Dealt) → AreChoices dealt.choices → AreChoices (fold (deal sizes) dealt order).choices
all_dealt sizes [] dealt are = are
all_dealt sizes (bucket ∷ others) dealt are = all_dealt sizes others (deal sizes dealt bucket) (one_dealt sizes dealt bucket are)

zeros_below : (n k d : ℕ) → k < n → get_or (replicate n 0) k d < 4
zeros_below n k d h = rw (get_or-replicate n k 0 d h) (omega arith)

pub are_choices : (sizes : List ℕ) → AreChoices (choices_of sizes)
unfolding choices_of none_dealt none_chosen
are_choices sizes = all_dealt sizes (order_of sizes) none_dealt (record { all = refl; below = zeros_below 256 })

placed_moved : (rank : ℕ → ℕ) (b c : ℕ) (cs : List ℕ) (t : Bool) → IsPermutation (b ∷ cs) (placed_by rank b cs) → IsPermutation (b ∷ c ∷ cs) (if t then b ∷ c ∷ cs else c ∷ placed_by rank b cs)
placed_moved rank b c cs true moved = IsPermutation-refl (b ∷ c ∷ cs)
placed_moved rank b c cs false moved =
    IsPermutation-trans (b ∷ c ∷ cs) (c ∷ b ∷ cs) (c ∷ placed_by rank b cs) (IsPermutation-middle (b ∷ []) c cs)
    (IsPermutation-cons c (b ∷ cs) (placed_by rank b cs) moved)

placed_permutes : (rank : ℕ → ℕ) (b : ℕ) (bs : List ℕ) → IsPermutation (b ∷ bs) (placed_by rank b bs)
placed_permutes rank b [] = IsPermutation-refl (b ∷ [])
placed_permutes rank b (c ∷ cs) = placed_moved rank b c cs (nat_lt (rank b) (rank c)) (placed_permutes rank b cs)

ordered_permutes : (rank : ℕ → ℕ) (bs : List ℕ) → IsPermutation bs (ordered_by rank bs)
ordered_permutes rank [] = IsPermutation-refl []
ordered_permutes rank (b ∷ bs) =
    IsPermutation-trans (b ∷ bs) (b ∷ ordered_by rank bs) (placed_by rank b (ordered_by rank bs))
    (IsPermutation-cons b bs (ordered_by rank bs) (ordered_permutes rank bs)) (placed_permutes rank b (ordered_by rank bs))

at_index : (P : ℕ → Type 0) (xs : List ℕ) (k : ℕ) → AllByRecursion P xs → k < length xs → P (get_or xs k 0)
at_index P [] k all h = absurd (omega arith)
at_index P (x ∷ xs) zero all h = all.0
at_index P (x ∷ xs) (suc k) all h = at_index P xs k all.1 (omega arith)

rises : (rank : ℕ → ℕ) (bs : List ℕ) (i j : ℕ) → RisingBy rank bs → i ≤ j → j < length bs → rank (get_or bs i 0) ≤ rank (get_or bs j 0)
rises rank [] i j up le h = absurd (omega arith)
rises rank (b ∷ bs) zero zero up le h = omega arith
rises rank (b ∷ bs) zero (suc j) up le h = at_index (λ c. rank b ≤ rank c) bs j up.0 (omega arith)
rises rank (b ∷ bs) (suc i) zero up le h = absurd (omega arith)
rises rank (b ∷ bs) (suc i) (suc j) up le h = rises rank bs i j up.1 (omega arith) (omega arith)

by_rank : (sizes : List ℕ) (b c : ℕ) → b < 256 → c < 256 → get_or sizes b 0 ≤ 1536 → get_or sizes c 0 ≤ 1536 → rank sizes b ≤ rank sizes c → (get_or sizes c 0 ≡ get_or sizes b 0) ⊎ ((get_or sizes c 0 < get_or sizes b 0) ⊎ (get_or sizes b 0 < get_or sizes c 0)) → ComesFirst sizes b c
unfolding rank
by_rank sizes b c hb hc sb sc le (inl e) = inr (e, omega arith)
by_rank sizes b c hb hc sb sc le (inr (inl f)) = inl f
by_rank sizes b c hb hc sb sc le (inr (inr f)) = absurd (omega arith)

length_of_buckets : length buckets ≡ 256
unfolding buckets
length_of_buckets = length-range_with_len 0 256

pub is_order : (sizes : List ℕ) → length sizes ≡ 256 → sum sizes ≤ 1536 → IsOrder sizes (order_of sizes)
unfolding order_of
is_order sizes len few =
    let moved = ordered_permutes (rank sizes) buckets in
    let size_fits : (b : ℕ) → b < 256 → get_or sizes b 0 ≤ 1536 = λ b h. omega (arith, get_or-le-sum_by (λ n. n) sizes b 0 (omega arith)) in
    let all_there : length (ordered_by (rank sizes) buckets) ≡ 256 = length_permutation _ _ moved ∙ length_of_buckets in
    let below : (k : ℕ) → k < 256 → get_or (ordered_by (rank sizes) buckets) k 0 < 256 =
    λ k h. at_index (λ b. b < 256) (ordered_by (rank sizes) buckets) k (order_below sizes) (omega arith) in
    record {
      all = moved;
      falling = λ i j le h.
          by_rank sizes _ _ (below i (omega arith)) (below j h) (size_fits _ (below i (omega arith))) (size_fits _ (below j h))
          (rises (rank sizes) (ordered_by (rank sizes) buckets) i j (rising_ordered (rank sizes) buckets) le (omega arith))
          (cases_order _ _);
    }
