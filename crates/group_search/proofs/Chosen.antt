-- The least pairs, bit after bit, and the record that they make.
use Rattle.std.proofs.Common.{◌≡◌, ◌↔◌, ℕ, zero, suc, ◌+◌, ◌-◌, ◌^◌, ◌<◌, ◌≤◌, Bool, true, false, List, [], ◌∷◌, ◌++◌, length, take, drop, set, replicate, get_or, length-set, Option, Some, None, option_map, is_some, IsTrue, sym, ◌∙◌, ap, refl, arith, add-zero, zero-add, append_assoc, append-nil, subst, ⊎_elim}
use Rattle.std.specs.Int.{bit_at}
use Rattle.std.proofs.lemmas.Bool.{cases_lt, false≢true, eq-eqb, le-leb, lt-leb}
use Rattle.std.proofs.lemmas.List.{take_more_set, drop-set-lt, drop-drop, drop-replicate}
use Rattle.std.proofs.lemmas.Nat.Bits.{bit_at-pow_same, bit_at-zero, bit_at-lt}
use Rattle.hash_family.specs.Hash.{position}
use Rattle.group_search.specs.declared.entry.Entry.{Entry}
use Rattle.group_search.specs.declared.entry.Pair.{Pair}
use Rattle.group_search.specs.declared.record.GroupRecord.TheVariants.{Served, Fallback}
use Rattle.flow_types.specs.Size.{most_value_bits}
use Rattle.group_search.specs.Limits.{most_rows, fewest_rows}
use Rattle.group_search.specs.Served.{zero_pair}
use Rattle.group_search.specs.Serving.{IsLeast, IsSeparable, NoneServes, least_of}
use Rattle.group_search.specs.Rows.{rows_of}
use Rattle.group_search.specs.Canon.{AreLeast, canonical, fallback, is_separable, least_pairs, prepend}
use Rattle.group_search.proofs.FirstServing.{least_is_least, none_serves}

module _ (entries : List Entry) where
  pub least_pairs_next : (count bit : ℕ) → 0 < count → least_pairs count bit entries ≡ prepend (least_of bit entries) (least_pairs (count - 1) (bit + 1) entries)
  unfolding least_pairs
  least_pairs_next zero bit h = absurd (omega arith)
  least_pairs_next (suc count) bit h = let same : suc count - 1 ≡ count = omega arith in rw same

-- the pairs of the bits below `bit` are chosen, and those of the others are zero
pub record AreChosen (entries : List Entry) (bits bit : ℕ) (pairs : List Pair) : Type 0 where
  pub chosen : option_map (λ rest. take bit pairs ++ rest) (least_pairs (bits - bit) bit entries) ≡ least_pairs bits 0 entries
  pub width : length pairs ≡ most_value_bits
  pub rest : drop bit pairs ≡ replicate (most_value_bits - bit) zero_pair

map_prepend : (front : List Pair) (pair : Pair) (later : Option (List Pair))
    → option_map (λ rest. (front ++ pair ∷ []) ++ rest) later ≡ option_map (λ rest. front ++ rest) (prepend (Some pair) later)
map_prepend front pair None = refl
map_prepend front pair (Some rest) = ap Some (append_assoc front (pair ∷ []) rest)

module _ (entries : List Entry) (bits bit : ℕ) (pairs : List Pair) (so_far : AreChosen entries bits bit pairs) where
  pub chosen_more : (pair : Pair) → bit < bits → bits ≤ most_value_bits → least_of bit entries ≡ Some pair → AreChosen entries bits (bit + 1) (set pairs bit pair)
  chosen_more pair low few found =
      let next = least_pairs_next entries (bits - bit) bit (omega arith) in
      let left : bits - bit - 1 ≡ bits - (bit + 1) = omega arith in
      let inside : bit < length pairs = omega (arith, so_far.width) in
      let shorter : most_value_bits - bit - 1 ≡ most_value_bits - (bit + 1) = omega arith in
      record {
        chosen = rw (take_more_set pairs bit pair inside, map_prepend (take bit pairs) pair _)
            (rw (next, found, left) at so_far.chosen);
        width = length-set pairs bit pair ∙ so_far.width;
        rest = drop-set-lt (bit + 1) pairs bit pair (omega arith) ∙ sym (drop-drop 1 bit pairs) ∙ ap (drop 1) so_far.rest
            ∙ drop-replicate 1 (most_value_bits - bit) zero_pair ∙ ap (λ n. replicate n zero_pair) shorter;
      }

  pub chosen_none : bit < bits → least_of bit entries ≡ None → least_pairs bits 0 entries ≡ None
  chosen_none low none =
      let next = least_pairs_next entries (bits - bit) bit (omega arith) in
      sym (rw (next, none) at so_far.chosen)

  pub chosen_whole : bits ≤ bit → bit ≤ bits → least_pairs bits 0 entries ≡ Some (take bits pairs)
  unfolding least_pairs
  chosen_whole high low =
      let none : bits - bit ≡ 0 = omega arith in
      let same : bit ≡ bits = omega arith in
      sym (rw none at so_far.chosen) ∙ ap Some (append-nil (take bit pairs)) ∙ ap (λ n. Some (take n pairs)) same

-- ---- what the least pairs are

module _ (entries : List Entry) where
  -- the pairs of a number of bits from `bit` on are the least ones
  pub record AreLeastFrom (count bit : ℕ) (pairs : List Pair) : Type 0 where
    pub one_each : length pairs ≡ count
    pub least : (b : ℕ) → b < count → IsLeast (bit + b) entries (get_or pairs b zero_pair)

  least_first : (count bit : ℕ) (pair : Pair) (rest : List Pair) → IsLeast bit entries pair → AreLeastFrom count (bit + 1) rest → AreLeastFrom (suc count) bit (pair ∷ rest)
  least_first count bit pair rest first later = record { one_each = omega (arith, later.one_each); least = at } where
    at : (b : ℕ) → b < suc count → IsLeast (bit + b) entries (get_or (pair ∷ rest) b zero_pair)
    at zero low = rw add-zero first
    at (suc b) low =
        let same : bit + suc b ≡ bit + 1 + b = omega arith in
        rw same (later.least b (omega arith))

  pub are_least_from : (count bit : ℕ) (pairs : List Pair) → least_pairs count bit entries ≡ Some pairs → AreLeastFrom count bit pairs
  unfolding least_pairs
  are_least_from zero bit pairs h =
      let none : [] ≡ pairs = cc in
      subst (AreLeastFrom 0 bit) none (record { one_each = refl; least = λ b low. absurd (omega arith) })
  are_least_from (suc count) bit pairs h = start (least_of bit entries) (least_pairs count (bit + 1) entries) refl refl (are_least_from count (bit + 1)) h where
    start : (found : Option Pair) (later : Option (List Pair)) → least_of bit entries ≡ found → least_pairs count (bit + 1) entries ≡ later
        → ((rest : List Pair) → least_pairs count (bit + 1) entries ≡ Some rest → AreLeastFrom count (bit + 1) rest)
        → prepend found later ≡ Some pairs → AreLeastFrom (suc count) bit pairs
    start None later here there more e = cc
    start (Some pair) None here there more e = cc
    start (Some pair) (Some rest) here there more e =
        let same : pair ∷ rest ≡ pairs = cc in
        subst (AreLeastFrom (suc count) bit) same (least_first count bit pair rest (least_is_least bit entries pair here) (more rest there))

  -- some bit has no index that serves
  abbrev pub HasUnserved : (count bit : ℕ) → Type 0
  HasUnserved count bit = (b : ℕ) × (bit ≤ b) × (b < bit + count) × NoneServes b entries

  pub unserved_from : (count bit : ℕ) → least_pairs count bit entries ≡ None → HasUnserved count bit
  unfolding least_pairs
  unserved_from zero bit h = cc
  unserved_from (suc count) bit h = start (least_of bit entries) (least_pairs count (bit + 1) entries) refl refl (unserved_from count (bit + 1)) h where
    start : (found : Option Pair) (later : Option (List Pair)) → least_of bit entries ≡ found → least_pairs count (bit + 1) entries ≡ later
        → (least_pairs count (bit + 1) entries ≡ None → HasUnserved count (bit + 1)) → prepend found later ≡ None → HasUnserved (suc count) bit
    start None later here there more e = (bit, omega arith, omega arith, none_serves bit entries here)
    start (Some pair) None here there more e = let rest = more there in (rest.0, omega (arith, rest.1), omega (arith, rest.2), rest.3)
    start (Some pair) (Some rest) here there more e = cc

  pub are_least : (bits : ℕ) (pairs : List Pair) → least_pairs bits 0 entries ≡ Some pairs → AreLeast bits entries pairs
  are_least bits pairs h =
      let all = are_least_from bits 0 pairs h in
      record { one_each = all.one_each; least = λ b low. rw zero-add at (all.least b low) }

  pub separable_of : (bits : ℕ) (pairs : List Pair) → least_pairs bits 0 entries ≡ Some pairs → IsSeparable bits entries
  separable_of bits pairs h b low =
      let least = (are_least bits pairs h).least b low in
      (_, _, least.in_range, least.serves_here)

  pub not_separable : (bits : ℕ) → least_pairs bits 0 entries ≡ None → ¬ IsSeparable bits entries
  not_separable bits h separable =
      let bad = unserved_from bits 0 h in
      let good = separable bad.0 (omega (arith, bad.2)) in
      bad.3 good.0 good.1 good.2 good.3

  pub separable_exactly : (bits : ℕ) → IsTrue (is_separable bits entries) ↔ IsSeparable bits entries
  unfolding is_separable
  separable_exactly bits = start (least_pairs bits 0 entries) refl where
    start : (found : Option (List Pair)) → least_pairs bits 0 entries ≡ found → IsTrue (is_some found) ↔ IsSeparable bits entries
    start None e = (λ h. absurd (false≢true h), λ h. absurd (not_separable bits e h))
    start (Some pairs) e = (λ h. separable_of bits pairs e, λ h. refl)

-- whether the bits from `bit` on are served, after one of them
module _ (entries : List Entry) (bits bit : ℕ) (low : bit < bits) where
  pub served_none : (found : Option Pair) → found ≡ least_of bit entries → is_some found ≡ false → is_some (least_pairs (bits - bit) bit entries) ≡ false
  served_none None e h = rw (least_pairs_next entries (bits - bit) bit (omega arith), ← e)
  served_none (Some pair) e h = cc

  pub served_some : (found : Option Pair) → found ≡ least_of bit entries → is_some found ≡ true
      → is_some (least_pairs (bits - (bit + 1)) (bit + 1) entries) ≡ is_some (least_pairs (bits - bit) bit entries)
  served_some None e h = cc
  served_some (Some pair) e h =
      let left : bits - bit - 1 ≡ bits - (bit + 1) = omega arith in
      rw (least_pairs_next entries (bits - bit) bit (omega arith), ← e, left) (some_of (least_pairs (bits - (bit + 1)) (bit + 1) entries)) where
        some_of : (later : Option (List Pair)) → is_some later ≡ is_some (prepend (Some pair) later)
        some_of None = refl
        some_of (Some rest) = refl

-- an array with this bit at the place
array_with : (place value : ℕ) → value < 2 → (array : ℕ) × (bit_at array place ≡ value)
array_with place zero low = (0, bit_at-zero place)
array_with place (suc zero) low = (2 ^ place, bit_at-pow_same place)
array_with place (suc (suc value)) low = absurd (omega arith)

-- fewer than two entries are served at each bit
few_served : (bit : ℕ) (entries : List Entry) → length entries < fewest_rows → ¬ NoneServes bit entries
few_served bit [] few none = none 0 0 (omega arith) refl
few_served bit (e ∷ []) few none =
    let array = array_with (position e.pair 0) (bit_at e.node bit) (bit_at-lt e.node bit) in
    none 0 array.0 (omega arith) (rw (eq-eqb _ _ array.1))
few_served bit (e ∷ next ∷ entries) few none = omega arith

pub two_unserved : (bits : ℕ) (entries : List Entry) → least_pairs bits 0 entries ≡ None → fewest_rows ≤ length entries
two_unserved bits entries h =
    let bad = unserved_from entries bits 0 h in
    ⊎_elim (λ few. absurd (few_served bad.0 entries few bad.3)) (λ enough. enough) (cases_lt (length entries) fewest_rows)

pub separable_is : (bits : ℕ) (entries : List Entry) (answer : Bool) → answer ≡ is_separable bits entries → IsTrue answer ↔ IsSeparable bits entries
separable_is bits entries answer e = subst (λ b. IsTrue b ↔ IsSeparable bits entries) (sym e) (separable_exactly entries bits)

-- ---- the record

module _ (bits : ℕ) (entries : List Entry) where
  pub canonical_served : (pairs : List Pair) → least_pairs bits 0 entries ≡ Some pairs → canonical bits entries ≡ Some (Served pairs)
  unfolding canonical
  canonical_served pairs h = rw h

  pub canonical_rows : least_pairs bits 0 entries ≡ None → length entries ≤ most_rows → canonical bits entries ≡ Some (Fallback (rows_of entries))
  unfolding canonical fallback
  canonical_rows h few = rw (h, le-leb _ _ few)

  pub canonical_none : least_pairs bits 0 entries ≡ None → most_rows < length entries → canonical bits entries ≡ None
  unfolding canonical fallback
  canonical_none h many = rw (h, lt-leb _ _ many)
