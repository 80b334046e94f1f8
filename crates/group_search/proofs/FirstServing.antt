-- The first index that serves is the least one.
use Rattle.std.proofs.Common.{◌≡◌, ◌≢◌, ◌==◌, ◌&&◌, ◌||◌, ◌↔◌, ℕ, zero, suc, ◌+◌, ◌-◌, ◌^◌, ◌<◌, ◌≤◌, Bool, true, false, cond, List, [], ◌∷◌, Option, Some, None, IsNone, sym, refl, arith, eq-eqb, subst, ⊎_elim}
use Rattle.std.specs.Prelude.{bit_or}
use Rattle.std.specs.Int.{bit_at}
use Rattle.std.specs.List.{list_any}
use Rattle.std.proofs.lemmas.Bool.{cases_eq, false≢true, eqb-true, and_parts, or_cases, or_right}
use Rattle.std.proofs.lemmas.Nat.{or_lt, pow_below}
use Rattle.std.proofs.lemmas.Nat.Bits.{bit_at-zero, bit_at-pow_same}
use Rattle.hash_family.specs.Hash.{position}
use Rattle.group_search.specs.declared.entry.Entry.{Entry}
use Rattle.group_search.specs.declared.entry.Pair.{Pair}
use Rattle.group_search.specs.declared.limits.TheConstants.{INDEXES, POSITIONS}
use Rattle.group_search.specs.Serving.{sets, array_of, array_serving, first_serving, least_of, at_index, IsLeast, NoneServes}
use Rattle.group_search.proofs.Bits.{kept_by_or, added_by_or, from_or, place_from_bit}
use Rattle.group_search.proofs.Scan.{array_serving_of, of_array_serving}

-- ---- the array of the positions

pub position_below : (e : Entry) (index : ℕ) → position e.pair index < POSITIONS
unfolding position
position_below e index = omega arith

octet_of : (b : Bool) (place array : ℕ) → place < POSITIONS → array < 2 ^ POSITIONS → cond b (bit_or (2 ^ place) array) array < 2 ^ POSITIONS
octet_of true place array p a = or_lt POSITIONS _ _ (pow_below place POSITIONS p) a
octet_of false place array p a = a

pub array_of_below : (index bit : ℕ) (entries : List Entry) → array_of index bit entries < 2 ^ POSITIONS
unfolding array_of
array_of_below index bit [] = omega arith
array_of_below index bit (e ∷ entries) = octet_of (bit_at e.node bit == 1) _ _ (position_below e index) (array_of_below index bit entries)

-- the bit of one more entry in an array, and the test of that entry
hit_first : (b : Bool) (at place array : ℕ) (rest : Bool) → (bit_at array place ≡ 1 → rest ≡ true)
    → bit_at (cond b (bit_or (2 ^ at) array) array) place ≡ 1 → (((at == place) && b) || rest) ≡ true
hit_first true at place array rest more h =
    ⊎_elim
    (λ here. rw (eq-eqb at place (sym (place_from_bit at place here))))
    (λ later. or_right ((at == place) && true) rest (more later))
    (from_or (2 ^ at) array place h)
hit_first false at place array rest more h = or_right ((at == place) && false) rest (more h)

first_hit : (b : Bool) (at place array : ℕ) (rest : Bool) → (rest ≡ true → bit_at array place ≡ 1)
    → (((at == place) && b) || rest) ≡ true → bit_at (cond b (bit_or (2 ^ at) array) array) place ≡ 1
first_hit true at place array rest more h =
    ⊎_elim
    (λ here. kept_by_or (2 ^ at) array place (subst (λ p. bit_at (2 ^ at) p ≡ 1) (eqb-true at place (and_parts (at == place) true here).0) (bit_at-pow_same at)))
    (λ later. added_by_or (2 ^ at) array place (more later))
    (or_cases ((at == place) && true) rest h)
first_hit false at place array rest more h =
    ⊎_elim (λ here. absurd (false≢true (and_parts (at == place) false here).1)) more (or_cases ((at == place) && false) rest h)

module _ (index bit place : ℕ) where
  pub hit_of : (entries : List Entry) → bit_at (array_of index bit entries) place ≡ 1 → list_any (sets index place bit) entries ≡ true
  unfolding array_of
  hit_of [] h = absurd (omega (arith, bit_at-zero place))
  hit_of (e ∷ entries) h = hit_first (bit_at e.node bit == 1) (position e.pair index) place (array_of index bit entries) _ (hit_of entries) h

  pub of_hit : (entries : List Entry) → list_any (sets index place bit) entries ≡ true → bit_at (array_of index bit entries) place ≡ 1
  unfolding array_of
  of_hit [] h = absurd (false≢true h)
  of_hit (e ∷ entries) h = first_hit (bit_at e.node bit == 1) (position e.pair index) place (array_of index bit entries) _ (of_hit entries) h

-- ---- the first index that serves

module _ (bit : ℕ) (entries : List Entry) where
  pub first_here : (count index array : ℕ) → 0 < count → array_serving index bit entries ≡ Some array
      → first_serving count index bit entries ≡ Some (record { index = index; array = array })
  unfolding first_serving
  first_here zero index array h s = absurd (omega arith)
  first_here (suc count) index array h s = rw s

  pub first_later : (count index : ℕ) → 0 < count → array_serving index bit entries ≡ None
      → first_serving count index bit entries ≡ first_serving (count - 1) (index + 1) bit entries
  unfolding first_serving
  first_later zero index h s = absurd (omega arith)
  first_later (suc count) index h s =
      let same : suc count - 1 ≡ count = omega arith in
      rw (s, same)

  -- the pair is that of the first index from `index` on, among the next `count`, that serves
  pub record IsFirst (count index : ℕ) (pair : Pair) : Type 0 where
    pub from : index ≤ pair.index
    pub within : pair.index < index + count
    pub found : array_serving pair.index bit entries ≡ Some pair.array
    pub before : (i : ℕ) → index ≤ i → i < pair.index → array_serving i bit entries ≡ None

  first_found : (count index : ℕ) (pair : Pair) → first_serving count index bit entries ≡ Some pair → IsFirst count index pair
  unfolding first_serving
  first_found zero index pair h = cc
  first_found (suc count) index pair h = start (array_serving index bit entries) refl (first_found count (index + 1) pair) h where
    start : (here : Option ℕ) → array_serving index bit entries ≡ here → (first_serving count (index + 1) bit entries ≡ Some pair → IsFirst count (index + 1) pair)
        → at_index index here (first_serving count (index + 1) bit entries) ≡ Some pair → IsFirst (suc count) index pair
    start (Some array) here later e =
        let same : record { index = index; array = array } ≡ pair = cc in
        subst (IsFirst (suc count) index) same (record {
          from = omega arith;
          within = omega arith;
          found = here;
          before = λ i low high. absurd (omega arith);
        })
    start None here later e =
        let rest = later e in
        record {
          from = omega (arith, rest.from);
          within = omega (arith, rest.within);
          found = rest.found;
          before = λ i low high. ⊎_elim (λ (same : i ≡ index). rw same here) (λ (other : i ≢ index). rest.before i (omega arith) high) (cases_eq i index);
        }

  first_none : (count index : ℕ) → first_serving count index bit entries ≡ None → (i : ℕ) → index ≤ i → i < index + count → array_serving i bit entries ≡ None
  unfolding first_serving
  first_none zero index h i low high = absurd (omega arith)
  first_none (suc count) index h i low high = start (array_serving index bit entries) refl (first_none count (index + 1)) h where
    start : (here : Option ℕ) → array_serving index bit entries ≡ here
        → (first_serving count (index + 1) bit entries ≡ None → (j : ℕ) → index + 1 ≤ j → j < index + 1 + count → array_serving j bit entries ≡ None)
        → at_index index here (first_serving count (index + 1) bit entries) ≡ None → array_serving i bit entries ≡ None
    start (Some array) here later e = cc
    start None here later e = ⊎_elim (λ (same : i ≡ index). rw same here) (λ (other : i ≢ index). later e i (omega arith) (omega arith)) (cases_eq i index)

  -- `least_of` gives the least pair
  pub least_is_least : (pair : Pair) → least_of bit entries ≡ Some pair → IsLeast bit entries pair
  unfolding least_of
  least_is_least pair h =
      let first = first_found INDEXES 0 pair h in
      let here = of_array_serving pair.index pair.array bit entries first.found in
      record {
        in_range = omega (arith, first.within);
        serves_here = here.0;
        none_below = λ i a low s. let none = first.before i (omega arith) low in let some = array_serving_of i a bit entries s in cc;
        octet = rw here.1 (array_of_below pair.index bit entries);
        hits = λ place low. rw here.1 (hit_of pair.index bit place entries, of_hit pair.index bit place entries);
      }

  pub none_serves : least_of bit entries ≡ None → NoneServes bit entries
  unfolding least_of
  none_serves h i a low s =
      let none = first_none INDEXES 0 h i (omega arith) (omega arith) in
      let some = array_serving_of i a bit entries s in
      cc

  -- it gives none exactly where no index serves
  pub none_exactly : (found : Option Pair) → found ≡ least_of bit entries → IsNone found ↔ NoneServes bit entries
  none_exactly None e = (λ _. none_serves (sym e), λ _. refl)
  none_exactly (Some pair) e =
      let least = least_is_least pair (sym e) in
      (λ h. absurd (false≢true (sym h)), λ none. absurd (none pair.index pair.array least.in_range least.serves_here))
