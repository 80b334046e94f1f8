-- The masks of lists of pairs, lane by lane.
use Rattle.std.proofs.Common.{ℕ, ◌≡◌, ◌∙◌, ◌+◌, ◌^◌, ◌<◌, ◌≤◌, Bool, true, false, List, ◌∷◌, length, get_or, drop, replicate, ap, sym, refl, arith, eq-eqb, add-one, drop-cons}
use Rattle.std.specs.Prelude.{bit_and, bit_or}
use Rattle.std.specs.Int.Bits.{or_zero_l, or_zero_r}
use Rattle.std.specs.Simd.Lanes.{zip2, mask_l}
use Rattle.std.proofs.lemmas.Bool.{false≢true, eqb-true}
use Rattle.std.proofs.lemmas.List.{drop_all}
use Rattle.std.proofs.lemmas.Simd.{length-zip2, get_or-zip2, get_or-replicate, length-replicate}
use Rattle.hash_family.specs.Hash.{position}
use Rattle.hash_family.specs.declared.pairing.HashPair.{HashPair}
use Rattle.group_search.specs.Lanes.{lanes, are_apart, mask_of}
use Rattle.std.specs.Int.{bit_at}
use Rattle.group_search.proofs.Bits.{mask_assoc, other_bit, kept_by_or, apart, apart_from_bits}
use Rattle.group_search.proofs.LaneLemmas.{at_lane, count_lanes, as_lanes, none_free, no_mask}

-- the masks so far, with those of the pairs that are left, are those of all pairs
pub record AreSoFar (masks : List ℕ) (first : ℕ) (left pairs : List HashPair) : Type 0 where
  pub count : length masks ≡ 16
  pub each : (lane : ℕ) → lane < 16 → bit_or (get_or masks lane 0) (mask_of (first + lane) left) ≡ mask_of (first + lane) pairs

pub none_so_far : (first : ℕ) (pairs : List HashPair) → AreSoFar (replicate 16 0) first pairs pairs
none_so_far first pairs = record {
  count = length-replicate {A = ℕ} 16 0;
  each = λ lane low. ap (λ (m : ℕ). bit_or m (mask_of (first + lane) pairs)) (get_or-replicate {A = ℕ} 16 lane 0 0 low) ∙ or_zero_l (mask_of (first + lane) pairs);
}

pub one_more : (masks places : List ℕ) (first at : ℕ) (pair d : HashPair) (pairs : List HashPair) → at < length pairs → pair ≡ get_or pairs at d → places ≡ lanes (λ (lane : ℕ). 2 ^ position pair (first + lane))
    → AreSoFar masks first (drop at pairs) pairs → AreSoFar (zip2 bit_or masks places) first (drop (at + 1) pairs) pairs
unfolding mask_of
one_more masks places first at pair d pairs inside same e so_far =
    let long : length places ≡ 16 = ap length e ∙ count_lanes (λ (lane : ℕ). 2 ^ position pair (first + lane)) in
    let next : drop at pairs ≡ pair ∷ drop (at + 1) pairs = rw (add-one, same) (drop-cons pairs at d inside) in
    record {
      count = length-zip2 bit_or masks places (so_far.count ∙ sym long) ∙ so_far.count;
      each = λ lane low.
          let place : get_or places lane 0 ≡ 2 ^ position pair (first + lane) = ap (λ (xs : List ℕ). get_or xs lane 0) e ∙ at_lane (λ (i : ℕ). 2 ^ position pair (first + i)) lane 0 low in
          let rest : ℕ = mask_of (first + lane) (drop (at + 1) pairs) in
          ap (λ (m : ℕ). bit_or m rest) (get_or-zip2 bit_or masks places lane 0 0 0 (omega (arith, so_far.count)) (omega arith) ∙ ap (bit_or (get_or masks lane 0)) place)
          ∙ mask_assoc (get_or masks lane 0) (2 ^ position pair (first + lane)) rest
          ∙ ap (λ (left : List HashPair). bit_or (get_or masks lane 0) (mask_of (first + lane) left)) (sym next)
          ∙ so_far.each lane low;
    }

-- with no pairs left
at_end : (masks : List ℕ) (first at : ℕ) (pairs : List HashPair) → length pairs ≤ at → AreSoFar masks first (drop at pairs) pairs
    → (lane : ℕ) → lane < 16 → get_or masks lane 0 ≡ mask_of (first + lane) pairs
unfolding mask_of
at_end masks first at pairs past so_far lane low =
    sym (or_zero_r (get_or masks lane 0)) ∙ ap (λ (left : List HashPair). bit_or (get_or masks lane 0) (mask_of (first + lane) left)) (sym (drop_all at pairs past)) ∙ so_far.each lane low

pub all_masks : (masks : List ℕ) (first at : ℕ) (pairs : List HashPair) → length pairs ≤ at → AreSoFar masks first (drop at pairs) pairs → masks ≡ lanes (λ (lane : ℕ). mask_of (first + lane) pairs)
all_masks masks first at pairs past so_far = as_lanes (λ (lane : ℕ). mask_of (first + lane) pairs) 0 masks so_far.count (at_end masks first at pairs past so_far)

-- ---- which lanes are free

-- a mask that has no position in common with more has none with fewer
fewer_apart : (ones some more : ℕ) → bit_and ones (bit_or some more) ≡ 0 → bit_and ones some ≡ 0
fewer_apart ones some more h = apart_from_bits ones some (λ i one. zero_below i one) where
  zero_below : (i : ℕ) → bit_at ones i ≡ 1 → bit_at some i ≡ 0
  zero_below i one = other_bit some i (λ there. let both = apart ones (bit_or some more) i h one in let kept = kept_by_or some more i there in omega arith)

not_apart : (ones some more all : ℕ) → bit_or some more ≡ all → are_apart ones some ≡ false → are_apart ones all ≡ false
not_apart ones some more all e h = go (are_apart ones all) refl where
  go : (b : Bool) → are_apart ones all ≡ b → b ≡ false
  go false f = refl
  go true f =
      let none : bit_and ones (bit_or some more) ≡ 0 = rw e (eqb-true _ _ f) in
      absurd (false≢true (sym h ∙ eq-eqb _ _ (fewer_apart ones some more none)))

module _ (arrays masks : List ℕ) (first : ℕ) (left pairs : List HashPair) (long : length arrays ≡ 16) (so_far : AreSoFar masks first left pairs) where
  abbrev free : ℕ → Bool
  free lane = are_apart (get_or arrays lane 0) (mask_of (first + lane) pairs)

  -- where each lane has a common position already, none is free
  pub none_is_free : mask_l (zip2 are_apart arrays masks) ≡ 0 → 0 ≡ mask_l (lanes free)
  none_is_free h =
      sym (no_mask (lanes free) (λ i low.
      let within : i < 16 = omega (arith, count_lanes free) in
      let now : are_apart (get_or arrays i 0) (get_or masks i 0) ≡ false =
      sym (get_or-zip2 are_apart arrays masks i 0 0 false (omega arith) (omega (arith, so_far.count))) ∙ none_free (zip2 are_apart arrays masks) h i in
      at_lane free i false within ∙ not_apart (get_or arrays i 0) (get_or masks i 0) (mask_of (first + i) left) (mask_of (first + i) pairs) (so_far.each i within) now))

pub free_at_end : (arrays masks : List ℕ) (first at : ℕ) (pairs : List HashPair) → length arrays ≡ 16 → length pairs ≤ at → AreSoFar masks first (drop at pairs) pairs
    → mask_l (zip2 are_apart arrays masks) ≡ mask_l (lanes (λ (lane : ℕ). are_apart (get_or arrays lane 0) (mask_of (first + lane) pairs)))
free_at_end arrays masks first at pairs long past so_far =
    ap mask_l
    (as_lanes (λ (lane : ℕ). are_apart (get_or arrays lane 0) (mask_of (first + lane) pairs)) false (zip2 are_apart arrays masks)
    (length-zip2 are_apart arrays masks (long ∙ sym so_far.count) ∙ long)
    (λ lane low. get_or-zip2 are_apart arrays masks lane 0 0 false (omega arith) (omega (arith, so_far.count)) ∙ ap (are_apart (get_or arrays lane 0)) (at_end masks first at pairs past so_far lane low)))

-- the free lanes among masks that are those of ones
pub free_of_both : (arrays : List ℕ) (first free : ℕ) (ones zeros : List HashPair) → arrays ≡ lanes (λ (lane : ℕ). mask_of (first + lane) ones)
    → free ≡ mask_l (lanes (λ (lane : ℕ). are_apart (get_or arrays lane 0) (mask_of (first + lane) zeros)))
    → free ≡ mask_l (lanes (λ (lane : ℕ). are_apart (mask_of (first + lane) ones) (mask_of (first + lane) zeros)))
free_of_both arrays first free ones zeros e f =
    f ∙ ap mask_l
    (as_lanes (λ (lane : ℕ). are_apart (mask_of (first + lane) ones) (mask_of (first + lane) zeros)) false
    (lanes (λ (lane : ℕ). are_apart (get_or arrays lane 0) (mask_of (first + lane) zeros)))
    (count_lanes (λ (lane : ℕ). are_apart (get_or arrays lane 0) (mask_of (first + lane) zeros)))
    (λ lane low.
    at_lane (λ (l : ℕ). are_apart (get_or arrays l 0) (mask_of (first + l) zeros)) lane false low
    ∙ ap (λ (m : ℕ). are_apart m (mask_of (first + lane) zeros)) (ap (λ (xs : List ℕ). get_or xs lane 0) e ∙ at_lane (λ (l : ℕ). mask_of (first + l) ones) lane 0 low)))
