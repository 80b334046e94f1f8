-- Sixteen lanes, one by one.
use Rattle.std.proofs.Common.{ℕ, zero, suc, ◌≡◌, ◌∙◌, ◌+◌, ◌-◌, ◌*◌, ◌/◌, ◌%◌, ◌^◌, ◌<◌, Bool, true, false, cond, List, [], ◌∷◌, map, length, get_or, replicate, w8, w32, Fits, eqb, ap, sym, refl, arith, subst}
use Rattle.std.specs.Prelude.{bit_and}
use Rattle.std.specs.Simd.Lanes.{Each1, zip2, mask_l, pick_l, number_l, digits_l, top}
use Rattle.std.proofs.lemmas.List.{ext_get_or, get_or-map, length-map}
use Rattle.std.proofs.lemmas.List.FromFn.{get_or-map-range_with_len, length-map-range_with_len}
use Rattle.std.proofs.lemmas.Simd.{swz_l, SwzOk, SwzOk-from_below, length-swz_l, get_or-swz_l_below, Each1-weaker, Each1-get_or, Each1-from_get_or, length-zip2, get_or-zip2, get_or-replicate, length-replicate, get_or_narrower, bitmask_splat, below_from_Fits}
use Rattle.hash_family.specs.Hash.{position}
use Rattle.hash_family.specs.declared.pairing.HashPair.{HashPair}
use Rattle.group_search.specs.Lanes.{lanes, are_apart}

-- ---- lanes made by a function

pub at_lane : {X : Type 0} (f : ℕ → X) (lane : ℕ) (d : X) → lane < 16 → get_or (lanes f) lane d ≡ f lane
unfolding lanes
at_lane f lane d low = get_or-map-range_with_len f 0 16 lane lane d low (omega arith)

pub count_lanes : {X : Type 0} (f : ℕ → X) → length (lanes f) ≡ 16
unfolding lanes
count_lanes f = length-map-range_with_len f 0 16

-- sixteen lanes that are what the function gives
pub as_lanes : {X : Type 0} (f : ℕ → X) (d : X) (xs : List X) → length xs ≡ 16 → ((lane : ℕ) → lane < 16 → get_or xs lane d ≡ f lane) → xs ≡ lanes f
as_lanes f d xs long each =
    ext_get_or d xs (lanes f) (long ∙ sym (count_lanes f)) (λ i low. let within : i < 16 = omega (arith, low, long) in each i within ∙ sym (at_lane f i d within))

pub map_lanes : {X Y : Type 0} (g : X → Y) (f : ℕ → X) (d : X) (e : Y) → map g (lanes f) ≡ lanes (λ (lane : ℕ). g (f lane))
map_lanes g f d e =
    as_lanes (λ (lane : ℕ). g (f lane)) e (map g (lanes f)) (length-map (lanes f) g ∙ count_lanes f)
    (λ lane low. get_or-map g (lanes f) lane d e (omega (arith, count_lanes f)) ∙ ap g (at_lane f lane d low))

pub each_lane : {X : Type 0} (P : X → Type 0) (f : ℕ → X) (d : X) → ((lane : ℕ) → P (f lane)) → Each1 P (lanes f)
each_lane P f d h = Each1-from_get_or P (lanes f) d (λ i low. rw (at_lane f i d (omega (arith, count_lanes f))) (h i))

pub zip2_lanes : {X Y Z : Type 0} (t : X → Y → Z) (c : X) (d : Y) (e : Z) (xs : List X) (ys : List Y) → length xs ≡ 16 → length ys ≡ 16
    → zip2 t xs ys ≡ lanes (λ (lane : ℕ). t (get_or xs lane c) (get_or ys lane d))
zip2_lanes t c d e xs ys p q =
    as_lanes (λ (lane : ℕ). t (get_or xs lane c) (get_or ys lane d)) e (zip2 t xs ys) (length-zip2 t xs ys (p ∙ sym q) ∙ p)
    (λ lane low. get_or-zip2 t xs ys lane c d e (omega arith) (omega arith))

-- ---- hashes, positions and masks

-- the hash at the first index, and what each lane adds
sum_of_steps : (g1 g2 first lane : ℕ) → ((g1 + g2 * first % 2 ^ 32) % 2 ^ 32 + lane * g2 % 2 ^ 32) % 2 ^ 32 ≡ (g1 + (first + lane) * g2) % 2 ^ 32
sum_of_steps g1 g2 first lane = omega arith

pub hashes_of_steps : (g1 g2 first : ℕ) (steps : List ℕ) → steps ≡ lanes (λ (lane : ℕ). lane * g2 % 2 ^ 32)
    → zip2 (λ a b. (a + b) % 2 ^ 32) (replicate 16 ((g1 + g2 * first % 2 ^ 32) % 2 ^ 32)) steps ≡ lanes (λ (lane : ℕ). (g1 + (first + lane) * g2) % 2 ^ 32)
hashes_of_steps g1 g2 first steps e =
    let here : ℕ = (g1 + g2 * first % 2 ^ 32) % 2 ^ 32 in
    let add : ℕ → ℕ → ℕ = λ a b. (a + b) % 2 ^ 32 in
    let long : length steps ≡ 16 = ap length e ∙ count_lanes (λ (lane : ℕ). lane * g2 % 2 ^ 32) in
    let same : length (replicate 16 here) ≡ 16 = length-replicate 16 here in
    as_lanes (λ (lane : ℕ). (g1 + (first + lane) * g2) % 2 ^ 32) 0 (zip2 add (replicate 16 here) steps) (length-zip2 add (replicate 16 here) steps (same ∙ sym long) ∙ same)
    (λ lane low.
    let step : get_or steps lane 0 ≡ lane * g2 % 2 ^ 32 = ap (λ xs. get_or xs lane 0) e ∙ at_lane (λ (i : ℕ). i * g2 % 2 ^ 32) lane 0 low in
    get_or-zip2 add (replicate 16 here) steps lane 0 0 0 (omega arith) (omega arith)
    ∙ ap (λ a. add a (get_or steps lane 0)) (get_or-replicate 16 lane here 0 low)
    ∙ ap (add here) step ∙ sum_of_steps g1 g2 first lane)

abbrev pub down : ℕ → ℕ → ℕ
down a b = a / 2 ^ b

-- the first octet of each word of four
abbrev pub fourths : List ℕ
fourths = 0 ∷ 4 ∷ 8 ∷ 12 ∷ 16 ∷ 20 ∷ 24 ∷ 28 ∷ 32 ∷ 36 ∷ 40 ∷ 44 ∷ 48 ∷ 52 ∷ 56 ∷ 60 ∷ []

fourths_are : fourths ≡ lanes (λ (lane : ℕ). 4 * lane)
unfolding lanes
fourths_are = refl

top_of : (hash : ℕ) → hash < 2 ^ 32 → hash / 2 ^ 29 / 256 ^ 0 % 256 ≡ hash / 2 ^ 29
top_of hash h = omega arith

module _ (hashes : List ℕ) (long : length hashes ≡ 16) (fits : Each1 (Fits w32) hashes) where
  abbrev shifted : List ℕ
  shifted = zip2 down hashes (replicate 16 29)

  abbrev octets : List ℕ
  octets = digits_l 256 64 (number_l (2 ^ 32) shifted)

  below : (lane : ℕ) → lane < 16 → get_or hashes lane 0 < 2 ^ 32
  below lane low = Each1-get_or (λ (x : ℕ). x < 2 ^ 32) hashes lane 0 (omega arith) (below_from_Fits w32 hashes fits)

  shifted_at : (lane : ℕ) → lane < 16 → get_or shifted lane 0 ≡ get_or hashes lane 0 / 2 ^ 29
  shifted_at lane low =
      get_or-zip2 down hashes (replicate 16 29) lane 0 0 0 (omega arith) (omega (arith, length-replicate {A = ℕ} 16 29)) ∙ ap (down (get_or hashes lane 0)) (get_or-replicate 16 lane 29 0 low)

  shifted_long : length shifted ≡ 16
  shifted_long = length-zip2 down hashes (replicate 16 29) (long ∙ sym (length-replicate {A = ℕ} 16 29)) ∙ long

  shifted_small : Each1 (λ (x : ℕ). x < 2 ^ 32) shifted
  shifted_small = Each1-from_get_or (λ (x : ℕ). x < 2 ^ 32) shifted 0 (λ i low. omega (arith, shifted_long, shifted_at i (omega (arith, shifted_long)), below i (omega (arith, shifted_long))))

  octet_at : (lane : ℕ) → lane < 16 → get_or octets (4 * lane) 0 ≡ get_or hashes lane 0 / 2 ^ 29
  octet_at lane low =
      let start : 4 * lane + 0 ≡ 4 * lane = omega arith in
      ap (λ (i : ℕ). get_or octets i 0) (sym start) ∙ get_or_narrower (2 ^ 32) 4 256 64 shifted lane 0 refl shifted_small (omega arith) (omega arith)
      ∙ ap (λ (x : ℕ). x / 256 ^ 0 % 256) (shifted_at lane low) ∙ top_of (get_or hashes lane 0) (below lane low)

  pub tops : pick_l 0 octets fourths ≡ map (λ (hash : ℕ). hash / 2 ^ 29) hashes
  tops =
      ext_get_or 0 (pick_l 0 octets fourths) (map (λ (hash : ℕ). hash / 2 ^ 29) hashes)
      (length-map fourths (λ (k : ℕ). get_or octets k 0) ∙ sym (length-map hashes (λ (hash : ℕ). hash / 2 ^ 29) ∙ long))
      (λ i low.
      let within : i < 16 = omega (arith, length-map fourths (λ (k : ℕ). get_or octets k 0)) in
      let place : get_or fourths i 0 ≡ 4 * i = ap (λ (xs : List ℕ). get_or xs i 0) fourths_are ∙ at_lane (λ (lane : ℕ). 4 * lane) i 0 within in
      get_or-map (λ (k : ℕ). get_or octets k 0) fourths i 0 0 within ∙ ap (λ (k : ℕ). get_or octets k 0) place ∙ octet_at i within
      ∙ sym (get_or-map (λ (hash : ℕ). hash / 2 ^ 29) hashes i 0 0 (omega arith)))

abbrev pub powers : List ℕ
powers = 1 ∷ 2 ∷ 4 ∷ 8 ∷ 16 ∷ 32 ∷ 64 ∷ 128 ∷ 0 ∷ 0 ∷ 0 ∷ 0 ∷ 0 ∷ 0 ∷ 0 ∷ 0 ∷ []

power_at : (place : ℕ) → place < 8 → get_or powers place 0 ≡ 2 ^ place
power_at zero low = refl
power_at (suc zero) low = refl
power_at (suc (suc zero)) low = refl
power_at (suc (suc (suc zero))) low = refl
power_at (suc (suc (suc (suc zero)))) low = refl
power_at (suc (suc (suc (suc (suc zero))))) low = refl
power_at (suc (suc (suc (suc (suc (suc zero)))))) low = refl
power_at (suc (suc (suc (suc (suc (suc (suc zero))))))) low = refl
power_at (suc (suc (suc (suc (suc (suc (suc (suc place)))))))) low = absurd (omega arith)

module _ (places : List ℕ) (long : length places ≡ 16) (small : Each1 (λ (place : ℕ). place < 8) places) where
  pub may_look_up : SwzOk w8 16 16 0 places
  may_look_up = SwzOk-from_below w8 16 1 16 0 places refl (omega arith) (Each1-weaker (λ (place : ℕ). place < 8) (λ (place : ℕ). place < 16) (λ place h. omega arith) places small)

  pub looked_up : swz_l w8 16 powers 0 places ≡ map (λ (place : ℕ). 2 ^ place) places
  looked_up =
      ext_get_or 0 (swz_l w8 16 powers 0 places) (map (λ (place : ℕ). 2 ^ place) places)
      (length-swz_l w8 16 powers 0 places ∙ sym (length-map places (λ (place : ℕ). 2 ^ place)))
      (λ i low.
      let within : i < length places = omega (arith, length-swz_l w8 16 powers 0 places) in
      let place : get_or places i 0 < 8 = Each1-get_or (λ (p : ℕ). p < 8) places i 0 within small in
      let row : 16 * ((0 + i) / 16) + get_or places i 0 ≡ get_or places i 0 = omega arith in
      get_or-swz_l_below w8 16 powers 0 places i within (omega arith) ∙ ap (λ (k : ℕ). get_or powers k 0) row ∙ power_at (get_or places i 0) place
      ∙ sym (get_or-map (λ (p : ℕ). 2 ^ p) places i 0 0 within))

-- ---- lanes with no common position

map_zip2 : {X Y Z W : Type 0} (g : Z → W) (f : X → Y → Z) (xs : List X) (ys : List Y) → map g (zip2 f xs ys) ≡ zip2 (λ x y. g (f x y)) xs ys
map_zip2 g f [] ys = refl
map_zip2 g f (x ∷ xs) [] = refl
map_zip2 {X} {Y} {Z} {W} g f (x ∷ xs) (y ∷ ys) = ap (λ (ws : List W). g (f x y) ∷ ws) (map_zip2 g f xs ys)

pub none_free : (bits : List Bool) → mask_l bits ≡ 0 → (i : ℕ) → get_or bits i false ≡ false
none_free [] h i = refl
none_free (true ∷ bits) h i = absurd (omega arith)
none_free (false ∷ bits) h zero = refl
none_free (false ∷ bits) h (suc i) = none_free bits (omega arith) i

pub no_mask : (bits : List Bool) → ((i : ℕ) → i < length bits → get_or bits i false ≡ false) → mask_l bits ≡ 0
no_mask [] h = refl
no_mask (true ∷ bits) h = let first = h 0 (omega arith) in cc
no_mask (false ∷ bits) h = omega (arith, no_mask bits (λ i low. h (suc i) (omega arith)))

pub free_mask : (arrays places : List ℕ) → length arrays ≡ 16 → length places ≡ 16
    → mask_l (map (top 7) (zip2 (λ a b. cond (eqb a b) (2 ^ 8 - 1) 0) (zip2 bit_and arrays places) (replicate 16 0))) % 2 ^ 64 ≡ mask_l (zip2 are_apart arrays places)
free_mask arrays places p q =
    let long : length (zip2 bit_and arrays places) ≡ 16 = length-zip2 bit_and arrays places (p ∙ sym q) ∙ p in
    bitmask_splat w8 eqb (zip2 bit_and arrays places) 16 0 long (omega arith) ∙ ap mask_l (map_zip2 (λ (x : ℕ). eqb x 0) bit_and arrays places)

-- ---- from hashes to masks

module _ (pair : HashPair) (first : ℕ) where
  abbrev hash_at : ℕ → ℕ
  hash_at lane = (pair.g1 + (first + lane) * pair.g2) % 2 ^ 32

  positions_at : (hashes positions : List ℕ) → hashes ≡ lanes hash_at → positions ≡ map (λ (hash : ℕ). hash / 2 ^ 29) hashes → positions ≡ lanes (λ (lane : ℕ). position pair (first + lane))
  unfolding position
  positions_at hashes positions e f = f ∙ ap (map (λ (hash : ℕ). hash / 2 ^ 29)) e ∙ map_lanes (λ (hash : ℕ). hash / 2 ^ 29) hash_at 0 0

  small : (lane : ℕ) → position pair (first + lane) < 8
  unfolding position
  small lane = omega arith

  pub small_positions : (hashes positions : List ℕ) → hashes ≡ lanes hash_at → positions ≡ map (λ (hash : ℕ). hash / 2 ^ 29) hashes → Each1 (λ (place : ℕ). place < 8) positions
  small_positions hashes positions e f =
      subst (Each1 (λ (place : ℕ). place < 8)) (sym (positions_at hashes positions e f)) (each_lane (λ (place : ℕ). place < 8) (λ (lane : ℕ). position pair (first + lane)) 0 small)

  pub masks_at : (hashes positions masks : List ℕ) → hashes ≡ lanes hash_at → positions ≡ map (λ (hash : ℕ). hash / 2 ^ 29) hashes → masks ≡ map (λ (place : ℕ). 2 ^ place) positions
      → masks ≡ lanes (λ (lane : ℕ). 2 ^ position pair (first + lane))
  masks_at hashes positions masks e f g =
      g ∙ ap (map (λ (place : ℕ). 2 ^ place)) (positions_at hashes positions e f) ∙ map_lanes (λ (place : ℕ). 2 ^ place) (λ (lane : ℕ). position pair (first + lane)) 0 0

pub hashes_here : (pair here : HashPair) (first : ℕ) (steps : List ℕ) → here ≡ pair → steps ≡ lanes (λ (lane : ℕ). lane * here.g2 % 2 ^ 32)
    → zip2 (λ a b. (a + b) % 2 ^ 32) (replicate 16 ((here.g1 + here.g2 * first % 2 ^ 32) % 2 ^ 32)) steps ≡ lanes (λ (lane : ℕ). (pair.g1 + (first + lane) * pair.g2) % 2 ^ 32)
hashes_here pair here first steps same e =
    hashes_of_steps here.g1 here.g2 first steps e ∙ ap (λ (p : HashPair). lanes (λ (lane : ℕ). (p.g1 + (first + lane) * p.g2) % 2 ^ 32)) same
