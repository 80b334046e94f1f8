-- What two words keep of pairs.
use Rattle.std.proofs.Common.{◌≡◌, ◌↔◌, ℕ, zero, suc, ◌+◌, ◌-◌, ◌*◌, ◌/◌, ◌^◌, ◌<◌, ◌≤◌, List, [], ◌∷◌, ◌++◌, length, take, drop, replicate, get_or, Option, Some, None, option_map, IsNone, sym, ◌∙◌, ap, refl, arith, subst, length-drop}
use Rattle.std.specs.Prelude.{All}
use Rattle.std.proofs.lemmas.Bool.{false≢true}
use Rattle.std.proofs.lemmas.List.Elements.{All-from_recursion, All-head, All-tail, All-take, All-replicate}
use Rattle.std.proofs.lemmas.List.{drop-append-le, take-append-le, take_all}
use Rattle.std.proofs.Math.ListN.{drop_of_length-le}
use Rattle.group_search.specs.declared.entry.Pair.{Pair}
use Rattle.group_search.specs.declared.words.Packed.{Packed}
use Rattle.group_search.specs.declared.words.Packed.TheVariants.{Served, Fallback}
use Rattle.flow_types.specs.Size.{most_value_bits}
use Rattle.group_search.specs.Served.{IsServed, zero_pair, padded, length_taken}
use Rattle.group_search.specs.Words.{IsPair, AreServedWords, AreFallbackWords, PacksTo, pair_at, pair_in, pair_word, pairs_in, served_words}

same_pair : (p q : Pair) → p.index ≡ q.index → p.array ≡ q.array → p ≡ q
same_pair p q e f =
    let P : ℕ → ℕ → Pair = λ i a. record { index = i; array = a } in
    ap (λ i. P i p.array) e ∙ ap (P q.index) f

-- each pair of a word comes back
first_back : (p q : Pair) → IsPair p → IsPair q → pair_in (pair_word p q) ≡ p
first_back p q hp hq = same_pair _ _ (omega (arith, hp.index, hp.array)) (omega (arith, hp.index, hp.array))

second_back : (p q : Pair) → IsPair p → IsPair q → pair_in (pair_word p q / 2 ^ 24) ≡ q
second_back p q hp hq =
    let above : pair_word p q / 2 ^ 24 ≡ q.index + q.array * 2 ^ 16 = omega (arith, hp.index, hp.array) in
    rw above (same_pair _ _ (omega (arith, hq.index, hq.array)) (omega (arith, hq.index, hq.array)))

pub word_below : (p q : Pair) → IsPair p → IsPair q → pair_word p q < 2 ^ 48
word_below p q hp hq = omega (arith, hp.index, hp.array, hq.index, hq.array)

zero_is_pair : IsPair zero_pair
zero_is_pair = record { index = omega arith; array = omega arith }

pub pair_at_sized : (pairs : List Pair) (i : ℕ) → All IsPair pairs → IsPair (pair_at pairs i)
pair_at_sized [] i h = zero_is_pair
pair_at_sized (p ∷ pairs) zero h = All-head IsPair p pairs h
pair_at_sized (p ∷ pairs) (suc i) h = pair_at_sized pairs i (All-tail IsPair p pairs h)

pair_in_sized : (n : ℕ) → IsPair (pair_in n)
pair_in_sized n = record { index = omega arith; array = omega arith }

pub pairs_in_sized : (first second : ℕ) → All IsPair (pairs_in first second)
pairs_in_sized first second =
    All-from_recursion IsPair (pairs_in first second) (pair_in_sized first, (pair_in_sized (first / 2 ^ 24), (pair_in_sized second, (pair_in_sized (second / 2 ^ 24), tt))))

-- ---- zero pairs after the others

pair_at_zeros : (n i : ℕ) → pair_at (replicate n zero_pair) i ≡ zero_pair
pair_at_zeros zero i = refl
pair_at_zeros (suc n) zero = refl
pair_at_zeros (suc n) (suc i) = pair_at_zeros n i

pair_at_padded : (pairs : List Pair) (n i : ℕ) → pair_at (pairs ++ replicate n zero_pair) i ≡ pair_at pairs i
pair_at_padded [] n i = pair_at_zeros n i
pair_at_padded (p ∷ pairs) n zero = refl
pair_at_padded (p ∷ pairs) n (suc i) = pair_at_padded pairs n i

served_words_padded : (pairs : List Pair) (n : ℕ) → served_words (pairs ++ replicate n zero_pair) ≡ served_words pairs
served_words_padded pairs n = rw (pair_at_padded pairs n 0, pair_at_padded pairs n 1, pair_at_padded pairs n 2, pair_at_padded pairs n 3)

zeros : (pairs : List Pair) → All (λ p. p ≡ zero_pair) pairs → pairs ≡ replicate (length pairs) zero_pair
zeros [] h = refl
zeros (p ∷ pairs) h =
    let P : Pair → List Pair → List Pair = λ x xs. x ∷ xs in
    ap (λ x. P x pairs) (All-head (λ q. q ≡ zero_pair) p pairs h) ∙ ap (P zero_pair) (zeros pairs (All-tail (λ q. q ≡ zero_pair) p pairs h))

-- one to four pairs, written out to four
listed : (pairs : List Pair) → 1 ≤ length pairs → length pairs ≤ most_value_bits
    → pair_at pairs 0 ∷ pair_at pairs 1 ∷ pair_at pairs 2 ∷ pair_at pairs 3 ∷ [] ≡ pairs ++ replicate (most_value_bits - length pairs) zero_pair
listed [] enough few = absurd (omega arith)
listed (a ∷ []) enough few = refl
listed (a ∷ b ∷ []) enough few = refl
listed (a ∷ b ∷ c ∷ []) enough few = refl
listed (a ∷ b ∷ c ∷ d ∷ []) enough few = refl
listed (a ∷ b ∷ c ∷ d ∷ e ∷ pairs) enough few = absurd (omega arith)

-- ---- the words of served records

-- the pairs in these words
abbrev pub pairs_there : List ℕ → List Pair
pairs_there words = pairs_in (get_or words 0 0) (get_or words 1 0)

module _ (bits : ℕ) (pairs : List Pair) (words : List ℕ) (h : AreServedWords bits pairs words) where
  pub pairs_back : pairs_there words ≡ pairs ++ replicate (most_value_bits - bits) zero_pair
  pairs_back =
      let at : (i : ℕ) → IsPair (pair_at pairs i) = λ i. pair_at_sized pairs i h.sized in
      let four = listed pairs (omega (arith, h.one_each, h.enough)) (omega (arith, h.one_each, h.few)) in
      rw (h.spelled, first_back _ _ (at 0) (at 1), second_back _ _ (at 0) (at 1), first_back _ _ (at 2) (at 3), second_back _ _ (at 2) (at 3))
      (four ∙ ap (λ n. pairs ++ replicate (most_value_bits - n) zero_pair) h.one_each)

  pub first_below : get_or words 0 0 < 2 ^ 48
  first_below = rw h.spelled (word_below _ _ (pair_at_sized pairs 0 h.sized) (pair_at_sized pairs 1 h.sized))

  pub rest_is_zero : All (λ p. p ≡ zero_pair) (drop bits (pairs_there words))
  rest_is_zero =
      let rest : drop bits (pairs ++ replicate (most_value_bits - bits) zero_pair) ≡ replicate (most_value_bits - bits) zero_pair =
      drop-append-le bits pairs _ (omega (arith, h.one_each)) ∙ ap (λ xs. xs ++ replicate (most_value_bits - bits) zero_pair) (drop_of_length-le pairs (omega (arith, h.one_each))) in
      rw (pairs_back, rest) (All-replicate (λ p. p ≡ zero_pair) (most_value_bits - bits) zero_pair refl)

  pub spelled_again : served_words (pairs_there words) ≡ words
  spelled_again = ap served_words pairs_back ∙ served_words_padded pairs (most_value_bits - bits) ∙ sym h.spelled

  pub taken_are : take bits (pairs_there words) ≡ pairs
  taken_are =
      ap (take bits) pairs_back ∙ take-append-le bits pairs _ (omega (arith, h.one_each)) ∙ take_all bits pairs (omega (arith, h.one_each))

-- the slice of the pairs past the bits
pub rest_of : (from bits : ℕ) (pairs : List Pair) (words : List ℕ) → from ≡ bits → pairs ≡ pairs_there words
    → take (most_value_bits - from) (drop from pairs) ≡ drop bits (pairs_there words)
rest_of from bits pairs words e f =
    let long : length (pairs_there words) ≡ most_value_bits = refl in
    rw (e, f) (take_all (most_value_bits - bits) (drop bits (pairs_there words)) (omega (arith, length-drop bits (pairs_there words), long)))

-- four pairs with zero pairs past the bits make the words of those below them
pub packed_pairs : (bits : ℕ) (pairs : List Pair) (words : List ℕ) → IsServed bits pairs → All IsPair pairs → words ≡ served_words pairs → AreServedWords bits (take bits pairs) words
packed_pairs bits pairs words h sized spelled =
    record {
      one_each = length_taken bits pairs h;
      enough = h.enough;
      few = h.few;
      sized = All-take IsPair bits pairs sized;
      spelled = spelled ∙ ap served_words (sym (padded bits pairs h)) ∙ served_words_padded (take bits pairs) (most_value_bits - bits);
    }

-- pairs whose words these are, with zero pairs past the bits
module _ (bits : ℕ) (words : List ℕ) (enough : 1 ≤ bits) (few : bits ≤ most_value_bits) (rest : All (λ p. p ≡ zero_pair) (drop bits (pairs_there words))) where
  pub served_there : IsServed bits (pairs_there words)
  served_there =
      let long : length (drop bits (pairs_there words)) ≡ most_value_bits - bits = length-drop bits (pairs_there words) in
      record { enough = enough; few = few; width = refl; rest = zeros _ rest ∙ ap (λ n. replicate n zero_pair) long }

  pub words_there : served_words (pairs_there words) ≡ words → AreServedWords bits (take bits (pairs_there words)) words
  words_there spelled = packed_pairs bits (pairs_there words) words served_there (pairs_in_sized _ _) (sym spelled)

-- ---- both kinds of words

-- no words are those of pairs and those of rows
pub one_kind : (bits rows : ℕ) (pairs : List Pair) (words : List ℕ) → AreServedWords bits pairs words → AreFallbackWords rows words → ⊥
one_kind bits rows pairs words served fallback =
    let low = first_below bits pairs words served in
    let first : get_or words 0 0 ≡ 2 ^ 48 + rows = ap (λ w. get_or w 0 0) fallback.spelled in
    omega arith

module _ (bits : ℕ) (words : List ℕ) where
  pub rows_exactly : (rows : ℕ) → AreFallbackWords rows words → (packed : Packed) → (Some (Fallback rows) ≡ Some packed) ↔ PacksTo bits packed words
  rows_exactly rows h (Fallback n) = (
    λ e. let same : rows ≡ n = cc in subst (λ r. AreFallbackWords r words) same h,
    λ k. let same : 2 ^ 48 + rows ≡ 2 ^ 48 + n = ap (λ w. get_or w 0 0) (sym h.spelled ∙ k.spelled) in
        let rows_same : rows ≡ n = omega arith in
        ap (λ r. Some (Fallback r)) rows_same,
  )
  rows_exactly rows h (Served pairs) = (λ e. cc, λ k. absurd (one_kind bits rows pairs words k h))

  pub pairs_exactly : ((rows : ℕ) → ¬ AreFallbackWords rows words) → (served : Option (List Pair)) → ((pairs : List Pair) → (served ≡ Some pairs) ↔ AreServedWords bits pairs words)
      → (packed : Packed) → (option_map Served served ≡ Some packed) ↔ PacksTo bits packed words
  pairs_exactly none served exact (Fallback n) = (λ e. absurd (no_rows served n e), λ h. absurd (none n h)) where
    no_rows : (found : Option (List Pair)) (r : ℕ) → option_map Served found ≡ Some (Fallback r) → ⊥
    no_rows None r e = cc
    no_rows (Some pairs) r e = cc
  pairs_exactly none served exact (Served pairs) = (λ e. (exact pairs).0 (inside served pairs e), λ h. ap (option_map Served) ((exact pairs).1 h)) where
    inside : (found : Option (List Pair)) (ps : List Pair) → option_map Served found ≡ Some (Served ps) → found ≡ Some ps
    inside None ps e = cc
    inside (Some others) ps e = cc

  pub found_exactly : (rows : Option ℕ) (served : Option (List Pair)) (found : Option Packed) → rows ≡ None → ((r : ℕ) → (rows ≡ Some r) ↔ AreFallbackWords r words)
      → ((pairs : List Pair) → (served ≡ Some pairs) ↔ AreServedWords bits pairs words) → found ≡ option_map Served served
      → (packed : Packed) → (found ≡ Some packed) ↔ PacksTo bits packed words
  found_exactly rows served found none f g e packed =
      rw e (pairs_exactly (λ r h. let some = (f r).1 h in cc) served g packed)

  pub none_exactly : (found : Option Packed) → ((packed : Packed) → (found ≡ Some packed) ↔ PacksTo bits packed words) → IsNone found ↔ ((packed : Packed) → ¬ PacksTo bits packed words)
  none_exactly None exact = (λ _ packed h. let same = (exact packed).1 h in cc, λ _. refl)
  none_exactly (Some packed) exact = (λ h. absurd (false≢true (sym h)), λ none. absurd (none packed ((exact packed).0 refl)))
