-- The first index at which no position has both a one and a zero.
use Rattle.std.proofs.Common.{ℕ, zero, suc, ◌≡◌, ◌∙◌, ◌+◌, ◌-◌, ◌*◌, ◌^◌, ◌<◌, ◌≤◌, ◌≢◌, ◌==◌, Bool, true, false, not, cond, List, [], ◌∷◌, map, length, get_or, take, drop, ◌++◌, Option, is_some, Some, None, ap, sym, refl, arith, subst, eq-eqb, ⊎_elim}
use Rattle.std.specs.Prelude.{bit_and, bit_or, filter}
use Rattle.std.specs.Int.Bits.{or_zero_l, or_zero_r}
use Rattle.std.specs.List.{range_with_len, prefix_len}
use Rattle.std.specs.Simd.Lanes.{mask_l}
use Rattle.std.proofs.Math.Seq.{take-append_seam, drop-append_seam}
use Rattle.std.proofs.lemmas.Bool.{false≢true, eqb-true, cases_eq}
use Rattle.std.proofs.lemmas.List.FromFn.{length-range_with_len, get_or-range_with_len, get_or-map-range_with_len, length-map-range_with_len}
use Rattle.std.proofs.lemmas.List.Sums.{prefix_len-le-length, prefix_len_passes}
use Rattle.std.proofs.lemmas.Simd.{leading_from_mask_l, trailing_mask_l}
use lib.Count.{count_trailing_zeros}
use Rattle.hash_family.specs.Hash.{position}
use Rattle.hash_family.specs.declared.pairing.HashPair.{HashPair}
use Rattle.group_search.specs.declared.entry.Entry.{Entry}
use Rattle.group_search.specs.declared.entry.Pair.{Pair}
use Rattle.group_search.specs.Lanes.{lanes, are_apart, array_between, first_between, has_bit, mask_of, entry_hashes, pairs_with}
use Rattle.group_search.specs.Serving.{at_index, array_serving, first_serving, least_of}
use Rattle.group_search.proofs.Bits.{mask_assoc, apart_from_bits, apart, kept_by_or, other_bit}
use Rattle.group_search.proofs.Scan.{joined, scan, scan_is_array_serving}
use Rattle.group_search.proofs.LaneLemmas.{at_lane, no_mask}

plain : (i : ℕ) → 0 + i ≡ i
plain i = omega arith

is_not : (b : Bool) → not b ≡ true → b ≡ false
is_not true h = cc
is_not false h = refl

-- ---- the first indexes, and then more

module _ (ones zeros : List HashPair) where
  pub found_early : (some all index : ℕ) (pair : Pair) → some ≤ all → first_between some index ones zeros ≡ Some pair → first_between all index ones zeros ≡ Some pair
  unfolding first_between
  found_early zero all index pair le h = cc
  found_early (suc some) zero index pair le h = absurd (omega arith)
  found_early (suc some) (suc all) index pair le h = go (array_between (mask_of index ones) (mask_of index zeros)) (found_early some all (index + 1) pair (omega arith)) h where
    go : (here : Option ℕ) → (first_between some (index + 1) ones zeros ≡ Some pair → first_between all (index + 1) ones zeros ≡ Some pair)
        → at_index index here (first_between some (index + 1) ones zeros) ≡ Some pair → at_index index here (first_between all (index + 1) ones zeros) ≡ Some pair
    go (Some array) later e = e
    go None later e = later e

  pub found_late : (some all index : ℕ) → some ≤ all → first_between some index ones zeros ≡ None → first_between all index ones zeros ≡ first_between (all - some) (index + some) ones zeros
  unfolding first_between
  found_late zero all index le h =
      let same : index + 0 ≡ index = omega arith in
      let whole : all - 0 ≡ all = omega arith in
      rw (same, whole) refl
  found_late (suc some) zero index le h = absurd (omega arith)
  found_late (suc some) (suc all) index le h = go (array_between (mask_of index ones) (mask_of index zeros)) (found_late some all (index + 1) (omega arith)) h where
    go : (here : Option ℕ) → (first_between some (index + 1) ones zeros ≡ None → first_between all (index + 1) ones zeros ≡ first_between (all - some) (index + 1 + some) ones zeros)
        → at_index index here (first_between some (index + 1) ones zeros) ≡ None
        → at_index index here (first_between all (index + 1) ones zeros) ≡ first_between (suc all - suc some) (index + suc some) ones zeros
    go (Some array) later e = cc
    go None later e =
        let same : index + 1 + some ≡ index + suc some = omega arith in
        let rest : all - some ≡ suc all - suc some = omega arith in
        later e ∙ ap (λ (i : ℕ). first_between (all - some) i ones zeros) same ∙ ap (λ (n : ℕ). first_between n (index + suc some) ones zeros) rest

  -- ---- the first lane that is free

  abbrev pub is_free : (first : ℕ) → ℕ → Bool
  is_free first lane = are_apart (mask_of (first + lane) ones) (mask_of (first + lane) zeros)

  abbrev pub passed : (first from count : ℕ) → ℕ
  passed first from count = prefix_len (λ (lane : ℕ). not (is_free first lane)) (range_with_len from count)

  -- the pair of the lane
  abbrev pub pair_at : (first lane : ℕ) → Pair
  pair_at first lane = record { index = first + lane; array = mask_of (first + lane) ones }

  pub none_in_turn : (count from first : ℕ) → passed first from count ≡ count → first_between count (first + from) ones zeros ≡ None
  unfolding first_between
  none_in_turn zero from first h = refl
  none_in_turn (suc count) from first h = go (is_free first from) refl (none_in_turn count (from + 1) first) h where
    go : (b : Bool) → is_free first from ≡ b → (passed first (from + 1) count ≡ count → first_between count (first + (from + 1)) ones zeros ≡ None)
        → cond (not b) (1 + passed first (from + 1) count) 0 ≡ suc count
        → at_index (first + from) (cond b (Some (mask_of (first + from) ones)) None) (first_between count (first + from + 1) ones zeros) ≡ None
    go true e later h = absurd (omega arith)
    go false e later h =
        let same : first + (from + 1) ≡ first + from + 1 = omega arith in
        ap (λ (i : ℕ). first_between count i ones zeros) (sym same) ∙ later (omega arith)

  pub some_in_turn : (count from first : ℕ) → passed first from count < count
      → first_between count (first + from) ones zeros ≡ Some (pair_at first (from + passed first from count))
  unfolding first_between
  some_in_turn zero from first h = absurd (omega arith)
  some_in_turn (suc count) from first h = go (is_free first from) refl (some_in_turn count (from + 1) first) h where
    go : (b : Bool) → is_free first from ≡ b
        → (passed first (from + 1) count < count → first_between count (first + (from + 1)) ones zeros ≡ Some (pair_at first (from + 1 + passed first (from + 1) count)))
        → cond (not b) (1 + passed first (from + 1) count) 0 < suc count
        → at_index (first + from) (cond b (Some (mask_of (first + from) ones)) None) (first_between count (first + from + 1) ones zeros)
        ≡ Some (pair_at first (from + cond (not b) (1 + passed first (from + 1) count) 0))
    go true e later h = let same : from + 0 ≡ from = omega arith in rw same refl
    go false e later h =
        let same : first + (from + 1) ≡ first + from + 1 = omega arith in
        let lane : from + 1 + passed first (from + 1) count ≡ from + (1 + passed first (from + 1) count) = omega arith in
        ap (λ (i : ℕ). first_between count i ones zeros) (sym same) ∙ later (omega arith) ∙ ap (λ (l : ℕ). Some (pair_at first l)) lane

  -- ---- what the bits of the free lanes tell

  module _ (first free : ℕ) (free_is : free ≡ mask_l (lanes (is_free first))) where
    pub none_free_here : free ≡ 0 → None ≡ first_between 16 first ones zeros
    unfolding lanes
    none_free_here e =
        let here : first + 0 ≡ first = omega arith in
        let all : passed first 0 16 ≡ 16 = leading_from_mask_l (is_free first) (range_with_len 0 16) (sym free_is ∙ e) in
        sym (ap (λ (i : ℕ). first_between 16 i ones zeros) (sym here) ∙ none_in_turn 16 0 first all)

    -- the lowest bit is that of the first free lane
    lowest : 0 < free → count_trailing_zeros 64 free ≡ passed first 0 16
    unfolding lanes
    lowest some =
        let positive : 0 < mask_l (map (is_free first) (range_with_len 0 16)) = subst (λ (n : ℕ). 0 < n) free_is some in
        ap (count_trailing_zeros 64) free_is ∙ trailing_mask_l (is_free first) 64 (range_with_len 0 16) (omega arith) positive

    within : 0 < free → passed first 0 16 < 16
    unfolding lanes
    within some =
        ⊎_elim
        (λ (all : passed first 0 16 ≡ 16). let none = no_lane all in absurd (omega arith))
        (λ (other : passed first 0 16 ≢ 16). omega (arith, prefix_len-le-length (λ (lane : ℕ). not (is_free first lane)) (range_with_len 0 16), length-range_with_len 0 16))
        (cases_eq (passed first 0 16) 16)
      where
        no_lane : passed first 0 16 ≡ 16 → free ≡ 0
        no_lane all =
            free_is ∙ no_mask (map (is_free first) (range_with_len 0 16)) (λ i low.
            let inside : i < 16 = omega (arith, length-map-range_with_len (is_free first) 0 16) in
            let before : i < passed first 0 16 = omega arith in
            let at : get_or (range_with_len 0 16) i 0 ≡ i = get_or-range_with_len 0 16 i 0 inside ∙ plain i in
            let stays : not (is_free first (get_or (range_with_len 0 16) i 0)) ≡ true = prefix_len_passes (λ (lane : ℕ). not (is_free first lane)) (range_with_len 0 16) i 0 before in
            get_or-map-range_with_len (is_free first) 0 16 i i false inside (omega arith) ∙ is_not (is_free first i) (subst (λ (l : ℕ). not (is_free first l) ≡ true) at stays))

    pub lane_below : 0 < free → count_trailing_zeros 64 free < 16
    lane_below some = omega (arith, lowest some, within some)

    pub some_free_here : (arrays : List ℕ) → arrays ≡ lanes (λ (lane : ℕ). mask_of (first + lane) ones) → 0 < free
        → Some (record { index = first + count_trailing_zeros 64 free; array = get_or arrays (count_trailing_zeros 64 free) 0 }) ≡ first_between 16 first ones zeros
    some_free_here arrays e some =
        let here : first + 0 ≡ first = omega arith in
        let lane : ℕ = count_trailing_zeros 64 free in
        let mask : get_or arrays lane 0 ≡ mask_of (first + lane) ones = ap (λ (xs : List ℕ). get_or xs lane 0) e ∙ at_lane (λ (l : ℕ). mask_of (first + l) ones) lane 0 (lane_below some) in
        let is : lane ≡ 0 + passed first 0 16 = omega (arith, lowest some) in
        let found : first_between 16 first ones zeros ≡ Some (pair_at first (0 + passed first 0 16)) = ap (λ (i : ℕ). first_between 16 i ones zeros) (sym here) ∙ some_in_turn 16 0 first (within some) in
        ap (λ (array : ℕ). Some (record { index = first + lane; array = array })) mask ∙ ap (λ (l : ℕ). Some (pair_at first l)) is ∙ sym found

-- ---- the masks of the entries' pairs, and the arrays that serve

module _ (value index bit : ℕ) where
  abbrev mask_with : List Entry → ℕ
  mask_with entries = mask_of index (pairs_with value bit entries)

  mask_with_more : (mask : ℕ) (e : Entry) (entries : List Entry) → bit_or mask (mask_with (e ∷ entries)) ≡ bit_or (joined value index bit mask e) (mask_with entries)
  unfolding mask_of pairs_with
  mask_with_more mask e entries = go (has_bit value bit e) where
    go : (b : Bool) → bit_or mask (mask_of index (map entry_hashes (cond b (e ∷ filter (has_bit value bit) entries) (filter (has_bit value bit) entries))))
        ≡ bit_or (cond b (bit_or mask (2 ^ position e.pair index)) mask) (mask_of index (map entry_hashes (filter (has_bit value bit) entries)))
    go true = sym (mask_assoc mask (2 ^ position e.pair index) (mask_of index (map entry_hashes (filter (has_bit value bit) entries))))
    go false = refl

  mask_with_none : (mask : ℕ) → bit_or mask (mask_with []) ≡ mask
  unfolding mask_of pairs_with
  mask_with_none mask = or_zero_r mask

-- masks with no position in common, with fewer positions, have none
both_fewer : (ones zeros o z : ℕ) → bit_and (bit_or ones o) (bit_or zeros z) ≡ 0 → bit_and ones zeros ≡ 0
both_fewer ones zeros o z h =
    apart_from_bits ones zeros (λ i one. other_bit zeros i (λ there. let no = apart (bit_or ones o) (bit_or zeros z) i h (kept_by_or ones o i one) in let yes = kept_by_or zeros z i there in omega arith))

module _ (index bit : ℕ) where
  scan_is_between : (ones zeros : ℕ) (entries : List Entry) → bit_and ones zeros ≡ 0
      → scan index bit ones zeros entries ≡ array_between (bit_or ones (mask_with 1 index bit entries)) (bit_or zeros (mask_with 0 index bit entries))
  scan_is_between ones zeros [] none = rw (mask_with_none 1 index bit ones, mask_with_none 0 index bit zeros, eq-eqb _ _ none)
  scan_is_between ones zeros (e ∷ entries) none =
      let ones' : ℕ = joined 1 index bit ones e in
      let zeros' : ℕ = joined 0 index bit zeros e in
      let o : ℕ = mask_with 1 index bit entries in
      let z : ℕ = mask_with 0 index bit entries in
      rw (mask_with_more 1 index bit ones e entries, mask_with_more 0 index bit zeros e entries)
      (go (bit_and ones' zeros' == 0) refl (scan_is_between ones' zeros' entries) (both_fewer ones' zeros' o z))
    where
      go : (b : Bool) → (bit_and (joined 1 index bit ones e) (joined 0 index bit zeros e) == 0) ≡ b
          → (bit_and (joined 1 index bit ones e) (joined 0 index bit zeros e) ≡ 0 → scan index bit (joined 1 index bit ones e) (joined 0 index bit zeros e) entries
          ≡ array_between (bit_or (joined 1 index bit ones e) (mask_with 1 index bit entries)) (bit_or (joined 0 index bit zeros e) (mask_with 0 index bit entries)))
          → (bit_and (bit_or (joined 1 index bit ones e) (mask_with 1 index bit entries)) (bit_or (joined 0 index bit zeros e) (mask_with 0 index bit entries)) ≡ 0
          → bit_and (joined 1 index bit ones e) (joined 0 index bit zeros e) ≡ 0)
          → cond b (scan index bit (joined 1 index bit ones e) (joined 0 index bit zeros e) entries) None
          ≡ array_between (bit_or (joined 1 index bit ones e) (mask_with 1 index bit entries)) (bit_or (joined 0 index bit zeros e) (mask_with 0 index bit entries))
      go true is rest fewer = rest (eqb-true _ _ is)
      go false is rest fewer =
          last (are_apart (bit_or (joined 1 index bit ones e) (mask_with 1 index bit entries)) (bit_or (joined 0 index bit zeros e) (mask_with 0 index bit entries))) refl where
            last : (t : Bool) → are_apart (bit_or (joined 1 index bit ones e) (mask_with 1 index bit entries)) (bit_or (joined 0 index bit zeros e) (mask_with 0 index bit entries)) ≡ t
                → None ≡ cond t (Some (bit_or (joined 1 index bit ones e) (mask_with 1 index bit entries))) None
            last false f = refl
            last true f = absurd (false≢true (sym is ∙ eq-eqb _ _ (fewer (eqb-true _ _ f))))

  pub serving_is_between : (entries : List Entry) → array_serving index bit entries ≡ array_between (mask_of index (pairs_with 1 bit entries)) (mask_of index (pairs_with 0 bit entries))
  serving_is_between entries =
      sym (scan_is_array_serving index bit entries) ∙ scan_is_between 0 0 entries refl
      ∙ rw (or_zero_l (mask_with 1 index bit entries), or_zero_l (mask_with 0 index bit entries)) refl

pub first_is_between : (bit : ℕ) (entries : List Entry) (count index : ℕ)
    → first_serving count index bit entries ≡ first_between count index (pairs_with 1 bit entries) (pairs_with 0 bit entries)
unfolding first_serving first_between
first_is_between bit entries zero index = refl
first_is_between bit entries (suc count) index =
    ap (λ (here : Option ℕ). at_index index here (first_serving count (index + 1) bit entries)) (serving_is_between index bit entries)
    ∙ ap (at_index index (array_between (mask_of index (pairs_with 1 bit entries)) (mask_of index (pairs_with 0 bit entries)))) (first_is_between bit entries count (index + 1))

-- the first of all indexes, from the two parts of the lines
pub least_is_between : (bit count : ℕ) (entries : List Entry) (items ones zeros : List HashPair) → items ≡ pairs_with 1 bit entries ++ pairs_with 0 bit entries
    → count ≡ length (pairs_with 1 bit entries) → ones ≡ take count items → zeros ≡ drop count items → first_between 65536 0 ones zeros ≡ least_of bit entries
unfolding least_of
least_is_between bit count entries items ones zeros e n f g =
    let front : ones ≡ pairs_with 1 bit entries = f ∙ rw (e, n) (take-append_seam (pairs_with 1 bit entries) (pairs_with 0 bit entries)) in
    let back : zeros ≡ pairs_with 0 bit entries = g ∙ rw (e, n) (drop-append_seam (pairs_with 1 bit entries) (pairs_with 0 bit entries)) in
    rw (front, back) (sym (first_is_between bit entries 65536 0))

-- ---- a turn of all

module _ (ones zeros : List HashPair) (turn : ℕ) (found : Option Pair) (low : turn < 4096) (so_far : first_between (65536 - turn * 16) (turn * 16) ones zeros ≡ first_between 65536 0 ones zeros)
    (here : found ≡ first_between 16 (turn * 16) ones zeros) where
  pub found_in_turn : is_some found ≡ true → found ≡ first_between 65536 0 ones zeros
  found_in_turn some = go found refl some where
    go : (o : Option Pair) → found ≡ o → is_some o ≡ true → found ≡ first_between 65536 0 ones zeros
    go (Some pair) e h = e ∙ sym (found_early ones zeros 16 (65536 - turn * 16) (turn * 16) pair (omega arith) (sym here ∙ e)) ∙ so_far
    go None e h = cc

  pub next_turn : is_some found ≡ false → first_between (65536 - (turn + 1) * 16) ((turn + 1) * 16) ones zeros ≡ first_between 65536 0 ones zeros
  next_turn none = go found refl none where
    go : (o : Option Pair) → found ≡ o → is_some o ≡ false → first_between (65536 - (turn + 1) * 16) ((turn + 1) * 16) ones zeros ≡ first_between 65536 0 ones zeros
    go (Some pair) e h = cc
    go None e h =
        let left : 65536 - (turn + 1) * 16 ≡ 65536 - turn * 16 - 16 = omega arith in
        let from : (turn + 1) * 16 ≡ turn * 16 + 16 = omega arith in
        ap (λ (n : ℕ). first_between n ((turn + 1) * 16) ones zeros) left ∙ ap (λ (i : ℕ). first_between (65536 - turn * 16 - 16) i ones zeros) from
        ∙ sym (found_late ones zeros 16 (65536 - turn * 16) (turn * 16) (omega arith) (sym here ∙ e)) ∙ so_far

pub no_more_turns : (ones zeros : List HashPair) (turn : ℕ) → 4096 ≤ turn → first_between (65536 - turn * 16) (turn * 16) ones zeros ≡ first_between 65536 0 ones zeros → None ≡ first_between 65536 0 ones zeros
unfolding first_between
no_more_turns ones zeros turn past so_far =
    let none : 65536 - turn * 16 ≡ 0 = omega arith in
    nothing (65536 - turn * 16) none ∙ so_far where
      nothing : (n : ℕ) → n ≡ 0 → None ≡ first_between n (turn * 16) ones zeros
      nothing zero e = refl
      nothing (suc n) e = absurd (omega arith)
