-- Entries in another order have the same canonical record.
use Rattle.std.proofs.Common.{◌≡◌, ◌≢◌, ℕ, zero, suc, ◌+◌, Bool, true, false, List, sym, ◌∙◌, refl, arith, ⊎_elim}
use Rattle.std.specs.Prelude.{IsPermutation}
use Rattle.std.specs.Int.{bit_at}
use Rattle.std.specs.List.{list_all}
use Rattle.std.proofs.lemmas.Bool.{cases_eq}
use Rattle.std.proofs.lemmas.List.Sums.{AllPass-from_list_all, list_all-from_AllPass}
use Rattle.std.proofs.lemmas.List.Sorted.{All-permutation, IsPermutation-sym, IsPermutation-map, IsPermutation-trans, length_permutation, list_any-IsPermutation}
use Rattle.std.proofs.lemmas.Nat.Bits.{same_from_bits, bit_at-lt}
use Rattle.flow_types.specs.Key.{number}
use Rattle.flow_types.specs.Map.{HaveDistinctKeys}
use Rattle.group_search.specs.declared.entry.Entry.{Entry}
use Rattle.group_search.specs.declared.limits.TheConstants.{INDEXES}
use Rattle.group_search.specs.Serving.{reads, sets, array_of, array_serving, first_serving, least_of}
use Rattle.group_search.specs.Rows.{row_of, rows_of, entry_key}
use Rattle.group_search.specs.Canon.{canonical, fallback, least_pairs}
use Rattle.group_search.specs.Laws.{IgnoresOrder}
use Rattle.group_search.proofs.FirstServing.{hit_of, of_hit}
use Rattle.group_search.proofs.Distinct.{AllPairs-permutation}
use Rattle.group_search.proofs.Rising.{rows_are, rows_permuted, rows_rising}

same_answers : (a b : Bool) → (a ≡ true → b ≡ true) → (b ≡ true → a ≡ true) → a ≡ b
same_answers true b f g = sym (f refl)
same_answers false true f g = g refl
same_answers false false f g = refl

list_all_permuted : (p : Entry → Bool) (xs ys : List Entry) → IsPermutation xs ys → list_all p xs ≡ list_all p ys
list_all_permuted p xs ys same =
    same_answers _ _
    (λ h. list_all-from_AllPass p ys (All-permutation (λ e. p e ≡ true) xs ys same (AllPass-from_list_all p xs h)))
    (λ h. list_all-from_AllPass p xs (All-permutation (λ e. p e ≡ true) ys xs (IsPermutation-sym xs ys same) (AllPass-from_list_all p ys h)))

same_bits : (a b : ℕ) → ((i : ℕ) → bit_at a i ≡ 1 → bit_at b i ≡ 1) → ((i : ℕ) → bit_at b i ≡ 1 → bit_at a i ≡ 1) → a ≡ b
same_bits a b f g = same_from_bits a b (λ i.
    ⊎_elim
    (λ one. one ∙ sym (f i one))
    (λ (not_one : bit_at a i ≢ 1).
    let not_other : bit_at b i ≢ 1 = λ one. not_one (g i one) in
    omega (arith, bit_at-lt a i, bit_at-lt b i))
    (cases_eq (bit_at a i) 1))

module _ (xs ys : List Entry) (same : IsPermutation xs ys) where
  array_permuted : (index bit : ℕ) → array_of index bit xs ≡ array_of index bit ys
  array_permuted index bit =
      same_bits _ _
      (λ i h. of_hit index bit i ys (sym (list_any-IsPermutation (sets index i bit) xs ys same) ∙ hit_of index bit i xs h))
      (λ i h. of_hit index bit i xs (list_any-IsPermutation (sets index i bit) xs ys same ∙ hit_of index bit i ys h))

  serving_permuted : (index bit : ℕ) → array_serving index bit xs ≡ array_serving index bit ys
  unfolding array_serving
  serving_permuted index bit =
      rw (array_permuted index bit, list_all_permuted (reads index (array_of index bit ys) bit) xs ys same)

  first_permuted : (count index bit : ℕ) → first_serving count index bit xs ≡ first_serving count index bit ys
  unfolding first_serving
  first_permuted zero index bit = refl
  first_permuted (suc count) index bit = rw (serving_permuted index bit, first_permuted count (index + 1) bit)

  least_permuted : (bit : ℕ) → least_of bit xs ≡ least_of bit ys
  unfolding least_of
  least_permuted bit = first_permuted INDEXES 0 bit

  pairs_permuted : (count bit : ℕ) → least_pairs count bit xs ≡ least_pairs count bit ys
  unfolding least_pairs
  pairs_permuted zero bit = refl
  pairs_permuted (suc count) bit = rw (least_permuted bit, pairs_permuted count (bit + 1))

  rows_permuted_alike : HaveDistinctKeys entry_key xs → rows_of xs ≡ rows_of ys
  rows_permuted_alike h =
      let distinct : HaveDistinctKeys entry_key ys = AllPairs-permutation (λ (a : Entry) (b : Entry). number a.key ≢ number b.key) (λ a b ne e. ne (sym e)) xs ys same h in
      rows_are ys (rows_of xs) distinct
      (IsPermutation-trans _ _ _ (IsPermutation-map row_of _ _ (IsPermutation-sym xs ys same)) (rows_permuted xs))
      (rows_rising xs h)

  pub canonical_permuted : (bits : ℕ) → HaveDistinctKeys entry_key xs → canonical bits xs ≡ canonical bits ys
  unfolding canonical fallback
  canonical_permuted bits h = rw (pairs_permuted bits 0, rows_permuted_alike h, sym (length_permutation xs ys same))

pub ignores_order : IgnoresOrder
ignores_order bits xs ys h same = canonical_permuted xs ys same bits h
