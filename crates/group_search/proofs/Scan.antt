-- The search at one index, entry after entry.
use Rattle.std.proofs.Common.{◌≡◌, ◌≢◌, ◌==◌, ◌⊎◌, ℕ, ◌^◌, Bool, true, false, cond, List, [], ◌∷◌, Option, Some, None, sym, ◌∙◌, ap, refl, arith, eq-eqb, subst, ⊎_elim, inl, inr, if◌then◌else◌}
use Rattle.std.specs.Int.Bits.{or_zero_l, or_zero_r, and_zero_l}
use Rattle.std.specs.Prelude.{bit_or, bit_and}
use Rattle.std.specs.Int.{bit_at}
use Rattle.std.proofs.lemmas.Bool.{cases_eq, cases_Bool, false≢true, eqb-true, and_parts}
use Rattle.std.proofs.lemmas.Bool.Decides.{nat_tests}
use Rattle.std.proofs.lemmas.Nat.Bits.{bit_at-zero, bit_at-pow_same}
use Rattle.hash_family.specs.Hash.{position}
use Rattle.group_search.specs.declared.entry.Entry.{Entry}
use Rattle.group_search.specs.Serving.{reads, serves, array_of, array_serving}
use Rattle.group_search.proofs.Bits.{mask_assoc, other_bit, kept_by_or, added_by_or, from_or, apart, apart_from_bits, place_from_bit}

-- the mask after an entry with this value of its bit
abbrev pub joined : (value index bit mask : ℕ) → Entry → ℕ
joined value index bit mask e = cond (bit_at e.node bit == value) (bit_or mask (2 ^ position e.pair index)) mask

-- the array after the entries, from these masks of positions, or None where a position stands in both
abbrev pub scan : (index bit ones naughts : ℕ) → List Entry → Option ℕ
scan index bit ones naughts [] = Some ones
scan index bit ones naughts (e ∷ entries) =
    let ones' = joined 1 index bit ones e in
    let naughts' = joined 0 index bit naughts e in
    cond (bit_and ones' naughts' == 0) (scan index bit ones' naughts' entries) None

-- the array has 1 where the one mask has, and 0 where the other has
pub record Agrees (ones naughts array : ℕ) : Type 0 where
  pub has : (i : ℕ) → bit_at ones i ≡ 1 → bit_at array i ≡ 1
  pub lacks : (i : ℕ) → bit_at naughts i ≡ 1 → bit_at array i ≡ 0

pub no_masks : (array : ℕ) → Agrees 0 0 array
no_masks array = record {
  has = λ i h. absurd (omega (arith, bit_at-zero i));
  lacks = λ i h. absurd (omega (arith, bit_at-zero i));
}

pub Agrees-apart : (ones naughts array : ℕ) → Agrees ones naughts array → bit_and ones naughts ≡ 0
Agrees-apart ones naughts array a = apart_from_bits ones naughts (λ i h. other_bit naughts i (λ z. omega (arith, a.has i h, a.lacks i z)))

-- each mask agrees with itself as the array, where it has no position in common with the other
pub apart-Agrees : (ones naughts : ℕ) → bit_and ones naughts ≡ 0 → Agrees ones naughts ones
apart-Agrees ones naughts none = record {
  has = λ i h. h;
  lacks = λ i h. other_bit ones i (λ one. omega (arith, apart ones naughts i none one));
}

joined_same : (value index bit mask : ℕ) (e : Entry) → bit_at e.node bit ≡ value → joined value index bit mask e ≡ bit_or mask (2 ^ position e.pair index)
joined_same value index bit mask e h = rw (eq-eqb _ _ h)

joined_other : (value index bit mask : ℕ) (e : Entry) → bit_at e.node bit ≢ value → joined value index bit mask e ≡ mask
joined_other value index bit mask e h = grind (arith, nat_tests)

module _ (index bit ones naughts array : ℕ) (e : Entry) where
  reads_one : bit_at e.node bit ≡ 1 → Agrees ones naughts array → bit_at array (position e.pair index) ≡ bit_at e.node bit
      → Agrees (bit_or ones (2 ^ position e.pair index)) naughts array
  reads_one one a read = record {
    has = λ i h. ⊎_elim (a.has i) (λ q. ap (bit_at array) (place_from_bit _ i q) ∙ read ∙ one) (from_or ones (2 ^ position e.pair index) i h);
    lacks = a.lacks;
  }

  reads_naught : bit_at e.node bit ≡ 0 → Agrees ones naughts array → bit_at array (position e.pair index) ≡ bit_at e.node bit
      → Agrees ones (bit_or naughts (2 ^ position e.pair index)) array
  reads_naught naught a read = record {
    has = a.has;
    lacks = λ i h. ⊎_elim (a.lacks i) (λ q. ap (bit_at array) (place_from_bit _ i q) ∙ read ∙ naught) (from_or naughts (2 ^ position e.pair index) i h);
  }

  bit_cases : (bit_at e.node bit ≡ 1) ⊎ (bit_at e.node bit ≡ 0)
  bit_cases = ⊎_elim inl (λ h. inr (other_bit e.node bit h)) (cases_eq (bit_at e.node bit) 1)

  -- what an entry that the array reads right leaves of the masks
  pub Agrees-joined : Agrees ones naughts array → bit_at array (position e.pair index) ≡ bit_at e.node bit
      → Agrees (joined 1 index bit ones e) (joined 0 index bit naughts e) array
  Agrees-joined a read =
      ⊎_elim
      (λ one. rw (joined_same 1 index bit ones e one, joined_other 0 index bit naughts e (λ z. omega (arith, one, z))) (reads_one one a read))
      (λ naught. rw (joined_other 1 index bit ones e (λ z. omega (arith, naught, z)), joined_same 0 index bit naughts e naught) (reads_naught naught a read))
      bit_cases

  -- an array that agrees with the masks after the entry agrees with those before it, and reads the entry right
  pub Agrees-before : Agrees (joined 1 index bit ones e) (joined 0 index bit naughts e) array
      → Agrees ones naughts array × (bit_at array (position e.pair index) ≡ bit_at e.node bit)
  Agrees-before a = ⊎_elim before_one before_naught bit_cases where
    before_one : bit_at e.node bit ≡ 1 → Agrees ones naughts array × (bit_at array (position e.pair index) ≡ bit_at e.node bit)
    before_one one =
        let b = rw (joined_same 1 index bit ones e one, joined_other 0 index bit naughts e (λ z. omega (arith, one, z))) at a in (
          record { has = λ i h. b.has i (kept_by_or ones _ i h); lacks = b.lacks },
          b.has _ (added_by_or ones _ _ (bit_at-pow_same (position e.pair index))) ∙ sym one,
        )

    before_naught : bit_at e.node bit ≡ 0 → Agrees ones naughts array × (bit_at array (position e.pair index) ≡ bit_at e.node bit)
    before_naught naught =
        let b = rw (joined_other 1 index bit ones e (λ z. omega (arith, naught, z)), joined_same 0 index bit naughts e naught) at a in (
          record { has = b.has; lacks = λ i h. b.lacks i (kept_by_or naughts _ i h) },
          b.lacks _ (added_by_or naughts _ _ (bit_at-pow_same (position e.pair index))) ∙ sym naught,
        )

-- the array of more entries, from the mask that has the first
joined_array : (index bit ones array : ℕ) (e : Entry)
    → bit_or (joined 1 index bit ones e) array ≡ bit_or ones (if bit_at e.node bit == 1 then bit_or (2 ^ position e.pair index) array else array)
joined_array index bit ones array e = by_test (bit_at e.node bit == 1) where
  by_test : (b : Bool) → bit_or (cond b (bit_or ones (2 ^ position e.pair index)) ones) array ≡ bit_or ones (cond b (bit_or (2 ^ position e.pair index) array) array)
  by_test true = mask_assoc ones (2 ^ position e.pair index) array
  by_test false = refl

if_some : (b : Bool) (found : Option ℕ) (array : ℕ) → cond b found None ≡ Some array → (b ≡ true) × (found ≡ Some array)
if_some true found array h = (refl, h)
if_some false found array h = cc

pub same_of_reads : (index array bit : ℕ) (e : Entry) → reads index array bit e ≡ true → bit_at array (position e.pair index) ≡ bit_at e.node bit
same_of_reads index array bit e h = grind (arith, nat_tests)

-- where the array serves the entries and agrees with the masks, the scan comes to its end
pub scan_of_serving : (index bit ones naughts array : ℕ) (entries : List Entry) → Agrees ones naughts array → serves index array bit entries ≡ true
    → scan index bit ones naughts entries ≡ Some (bit_or ones (array_of index bit entries))
unfolding array_of
scan_of_serving index bit ones naughts array [] a s = ap Some (sym (or_zero_r ones))
scan_of_serving index bit ones naughts array (e ∷ entries) a s =
    let parts = and_parts (reads index array bit e) (serves index array bit entries) s in
    let after = Agrees-joined index bit ones naughts array e a (same_of_reads index array bit e parts.0) in
    let rest = scan_of_serving index bit (joined 1 index bit ones e) (joined 0 index bit naughts e) array entries after parts.1 in
    rw (eq-eqb _ _ (Agrees-apart _ _ array after)) (rest ∙ ap Some (joined_array index bit ones (array_of index bit entries) e))

-- where the scan comes to its end, the array serves and agrees with the masks
pub serving_of_scan : (index bit ones naughts array : ℕ) (entries : List Entry) → bit_and ones naughts ≡ 0 → scan index bit ones naughts entries ≡ Some array
    → (serves index array bit entries ≡ true) × Agrees ones naughts array
serving_of_scan index bit ones naughts array [] none s =
    let same : ones ≡ array = cc in
    (refl, subst (Agrees ones naughts) same (apart-Agrees ones naughts none))
serving_of_scan index bit ones naughts array (e ∷ entries) none s =
    let ended = if_some (bit_and (joined 1 index bit ones e) (joined 0 index bit naughts e) == 0) _ array s in
    let rest = serving_of_scan index bit (joined 1 index bit ones e) (joined 0 index bit naughts e) array entries (eqb-true _ _ ended.0) ended.1 in
    let before = Agrees-before index bit ones naughts array e rest.1 in
    (rw (eq-eqb _ _ before.1) rest.0, before.0)

-- the scan from empty masks gives the array, where it serves
pub scan_is_array_serving : (index bit : ℕ) (entries : List Entry) → scan index bit 0 0 entries ≡ array_serving index bit entries
unfolding array_serving
scan_is_array_serving index bit entries = ⊎_elim serving not_serving (cases_Bool (serves index (array_of index bit entries) bit entries)) where
  serving : serves index (array_of index bit entries) bit entries ≡ true → scan index bit 0 0 entries ≡ array_serving index bit entries
  serving h = rw h (scan_of_serving index bit 0 0 (array_of index bit entries) entries (no_masks _) h ∙ ap Some (or_zero_l _))

  ended : (found : Option ℕ) → scan index bit 0 0 entries ≡ found → serves index (array_of index bit entries) bit entries ≡ false → found ≡ None
  ended None e h = refl
  ended (Some array) e h =
      let s = serving_of_scan index bit 0 0 array entries (and_zero_l 0) e in
      let again = scan_of_serving index bit 0 0 array entries (no_masks array) s.0 in
      let same : array ≡ array_of index bit entries = cc (e, again, or_zero_l (array_of index bit entries)) in
      absurd (false≢true (sym h ∙ subst (λ a. serves index a bit entries ≡ true) same s.0))

  not_serving : serves index (array_of index bit entries) bit entries ≡ false → scan index bit 0 0 entries ≡ array_serving index bit entries
  not_serving h = rw h (ended _ refl h)

-- an index that serves with any array serves with the one of its positions
pub array_serving_of : (index array bit : ℕ) (entries : List Entry) → serves index array bit entries ≡ true → array_serving index bit entries ≡ Some (array_of index bit entries)
array_serving_of index array bit entries h =
    sym (scan_is_array_serving index bit entries) ∙ scan_of_serving index bit 0 0 array entries (no_masks array) h ∙ ap Some (or_zero_l _)

-- what `array_serving` gives serves, and is the array of the positions
pub of_array_serving : (index array bit : ℕ) (entries : List Entry) → array_serving index bit entries ≡ Some array
    → (serves index array bit entries ≡ true) × (array ≡ array_of index bit entries)
of_array_serving index array bit entries h =
    let s = serving_of_scan index bit 0 0 array entries (and_zero_l 0) (scan_is_array_serving index bit entries ∙ h) in
    (s.0, cc (h, array_serving_of index array bit entries s.0))
