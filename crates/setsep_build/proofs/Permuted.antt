-- A block's flows in another order have the same image.
use Rattle.std.proofs.Common.{ℕ, zero, suc, ◌≡◌, ◌∙◌, ◌<◌, Bool, true, false, List, [], ◌∷◌, length, get_or, set, map, sum, Option, Some, None, ap, refl, sym, arith}
use Rattle.std.specs.Prelude.{IsPermutation, filter, count_by}
use Rattle.std.specs.List.{range_with_len, swap}
use Rattle.std.proofs.lemmas.List.Sums.{length-filter}
use Rattle.std.proofs.lemmas.List.Sorted.{IsPermutation-refl, IsPermutation-cons, IsPermutation-trans, IsPermutation-map, IsPermutation-keeps, IsPermutation-swap, length_permutation}
use Rattle.flow_types.specs.Map.{HaveDistinctKeys}
use Rattle.block_layout.specs.Dealing.{choices_of}
use Rattle.block_layout.specs.Limits.{bucket_count, group_count}
use Rattle.group_search.specs.declared.entry.Entry.{Entry}
use Rattle.group_search.specs.declared.record.GroupRecord.{GroupRecord}
use Rattle.group_search.specs.Build.{PastLimit, rows_needed}
use Rattle.group_search.specs.Build.PastLimit.{TooManyFlows, TooManyRows}
use Rattle.group_search.specs.Canon.{canonical}
use Rattle.group_search.specs.Image.{Image}
use Rattle.group_search.proofs.AnyOrder.{canonical_permuted}
use Rattle.group_search.proofs.NeededRows.{rows_of_canonical, without_record}
use Rattle.setsep_build.specs.declared.placed.Placed.{Placed}
use Rattle.setsep_build.specs.Placing.{entry_in, gathered, groups_of, is_bucket, is_group, placed_key, sizes_in}
use Rattle.setsep_build.specs.Block.{IsImageOf, IsPastIn, IsWithinIn, block_choices, group_record, needed_at, needed_below, needed_in}
use Rattle.setsep_build.proofs.Lists.{same_map}
use Rattle.setsep_build.proofs.MoreRecords.{gathered_distinct}

-- ---- what passes a test, of a list in another order

module _ {X : Type 0} (p : X → Bool) where
  cons_case : (b : Bool) (x : X) (xs ys : List X) → p x ≡ b → IsPermutation (filter p xs) (filter p ys) → IsPermutation (filter p (x ∷ xs)) (filter p (x ∷ ys))
  cons_case true x xs ys here rest = rw here (IsPermutation-cons x (filter p xs) (filter p ys) rest)
  cons_case false x xs ys here rest = rw here rest

  under : (x : X) (xs ys : List X) → IsPermutation (filter p xs) (filter p ys) → IsPermutation (filter p (x ∷ xs)) (filter p (x ∷ ys))
  under x xs ys rest = cons_case (p x) x xs ys refl rest

  turned_case : (b c : Bool) (x y : X) (xs : List X) → p x ≡ b → p y ≡ c → IsPermutation (filter p (x ∷ y ∷ xs)) (filter p (y ∷ x ∷ xs))
  turned_case true true x y xs here there =
      rw (here, there) (IsPermutation-swap (x ∷ y ∷ filter p xs) (y ∷ x ∷ filter p xs) 0 1 (omega arith) (omega arith) refl)
  turned_case true false x y xs here there = rw (here, there) (IsPermutation-refl (x ∷ filter p xs))
  turned_case false true x y xs here there = rw (here, there) (IsPermutation-refl (y ∷ filter p xs))
  turned_case false false x y xs here there = rw (here, there) (IsPermutation-refl (filter p xs))

  turned : (x y : X) (xs : List X) → IsPermutation (filter p (x ∷ y ∷ xs)) (filter p (y ∷ x ∷ xs))
  turned x y xs = turned_case (p x) (p y) x y xs refl refl

  chained : (xs ys zs : List X) → IsPermutation (filter p xs) (filter p ys) → IsPermutation (filter p ys) (filter p zs) → IsPermutation (filter p xs) (filter p zs)
  chained xs ys zs = IsPermutation-trans (filter p xs) (filter p ys) (filter p zs)

  to_head : (xs : List X) (j : ℕ) (x d : X) → j < length xs → IsPermutation (filter p (x ∷ xs)) (filter p (get_or xs j d ∷ set xs j x))
  to_head [] j x d inside = absurd (omega arith)
  to_head (y ∷ xs) zero x d inside = turned x y xs
  to_head (y ∷ xs) (suc j) x d inside =
      chained (x ∷ y ∷ xs) (y ∷ x ∷ xs) (get_or xs j d ∷ y ∷ set xs j x) (turned x y xs)
      (chained (y ∷ x ∷ xs) (y ∷ get_or xs j d ∷ set xs j x) (get_or xs j d ∷ y ∷ set xs j x)
      (under y (x ∷ xs) (get_or xs j d ∷ set xs j x) (to_head xs j x d (omega arith))) (turned y (get_or xs j d) (set xs j x)))

  exchanged : (xs : List X) (i j : ℕ) (d : X) → i < length xs → j < length xs
      → IsPermutation (filter p xs) (filter p (set (set xs i (get_or xs j d)) j (get_or xs i d)))
  exchanged [] i j d inside too = absurd (omega arith)
  exchanged (x ∷ xs) zero zero d inside too = IsPermutation-refl (filter p (x ∷ xs))
  exchanged (x ∷ xs) zero (suc j) d inside too = to_head xs j x d (omega arith)
  exchanged (x ∷ xs) (suc i) zero d inside too = to_head xs i x d (omega arith)
  exchanged (x ∷ xs) (suc i) (suc j) d inside too = under x xs _ (exchanged xs i j d (omega arith) (omega arith))

  swapped : (xs : List X) (i j : ℕ) → i < length xs → j < length xs → IsPermutation (filter p xs) (filter p (swap xs i j))
  swapped [] i j inside too = IsPermutation-refl []
  swapped (x ∷ xs) i j inside too = exchanged (x ∷ xs) i j x inside too

  pub filter_permuted : (xs ys : List X) → IsPermutation xs ys → IsPermutation (filter p xs) (filter p ys)
  filter_permuted xs ys same =
      IsPermutation-keeps xs (λ (l : List X). IsPermutation (filter p xs) (filter p l)) (IsPermutation-refl (filter p xs))
      (λ l i j inside too so_far. chained xs l (swap l i j) so_far (swapped l i j inside too)) ys same

  pub count_permuted : (xs ys : List X) → IsPermutation xs ys → count_by p ys ≡ count_by p xs
  count_permuted xs ys same =
      sym (length-filter p ys) ∙ length_permutation (filter p xs) (filter p ys) (filter_permuted xs ys same) ∙ length-filter p xs

-- ---- the rows that a group needs depend on its record and on how many entries there are

needed_of : (bits : ℕ) (xs ys : List Entry) (found : Option GroupRecord) → canonical bits xs ≡ found → canonical bits ys ≡ found → length ys ≡ length xs
    → rows_needed bits ys ≡ rows_needed bits xs
needed_of bits xs ys (Some content) of_xs of_ys same = sym (rows_of_canonical ys bits content of_ys) ∙ rows_of_canonical xs bits content of_xs
needed_of bits xs ys None of_xs of_ys same =
    let large = without_record xs bits of_xs in
    let large_too = without_record ys bits of_ys in
    omega (arith, large.0, large_too.0, same)

-- ---- what the build makes of a block

module _ (xs ys : List Placed) (same : IsPermutation xs ys) where
  pub length_alike : length ys ≡ length xs
  length_alike = length_permutation xs ys same

  sizes_alike : sizes_in ys ≡ sizes_in xs
  unfolding sizes_in
  sizes_alike =
      same_map (λ (bucket : ℕ). count_by (is_bucket bucket) ys) (λ (bucket : ℕ). count_by (is_bucket bucket) xs)
      (λ bucket. count_permuted (is_bucket bucket) xs ys same) (range_with_len 0 bucket_count)

  choices_alike : block_choices ys ≡ block_choices xs
  unfolding block_choices
  choices_alike = ap choices_of sizes_alike

  gathered_alike : (groups : List ℕ) (group : ℕ) → IsPermutation (gathered groups group xs) (gathered groups group ys)
  unfolding gathered
  gathered_alike groups group =
      IsPermutation-map entry_in (filter (is_group groups group) xs) (filter (is_group groups group) ys) (filter_permuted (is_group groups group) xs ys same)

  module _ (bits : ℕ) (apart : HaveDistinctKeys placed_key xs) where
    record_alike : (groups : List ℕ) (group : ℕ) → group_record bits groups ys group ≡ group_record bits groups xs group
    record_alike groups group =
        sym (canonical_permuted (gathered groups group xs) (gathered groups group ys) (gathered_alike groups group) bits (gathered_distinct groups group xs apart))

    needed_alike_at : (groups : List ℕ) (group : ℕ) → needed_at bits groups ys group ≡ needed_at bits groups xs group
    needed_alike_at groups group =
        needed_of bits (gathered groups group xs) (gathered groups group ys) (group_record bits groups xs group) refl (record_alike groups group)
        (length_permutation (gathered groups group xs) (gathered groups group ys) (gathered_alike groups group))

    pub needed_alike : needed_in bits ys ≡ needed_in bits xs
    unfolding needed_in needed_below
    needed_alike =
        ap (λ (choices : List ℕ). sum (map (needed_at bits (groups_of choices) ys) (range_with_len 0 group_count))) choices_alike
        ∙ ap sum
        (same_map (needed_at bits (groups_of (block_choices xs)) ys) (needed_at bits (groups_of (block_choices xs)) xs)
        (needed_alike_at (groups_of (block_choices xs))) (range_with_len 0 group_count))

    pub image_alike : (image : Image) → IsImageOf bits ys image → IsImageOf bits xs image
    image_alike image is = record {
      few = omega (arith, length_alike, is.few);
      few_rows = omega (arith, needed_alike, is.few_rows);
      choices = is.choices ∙ choices_alike;
      one_each = is.one_each;
      records = λ group low.
          is.records group low ∙ ap (λ (choices : List ℕ). group_record bits (groups_of choices) ys group) choices_alike
          ∙ record_alike (groups_of (block_choices xs)) group;
    }

    pub within_alike : IsWithinIn bits ys → IsWithinIn bits xs
    within_alike is = record { few = omega (arith, length_alike, is.few); few_rows = omega (arith, needed_alike, is.few_rows) }

    pub past_alike : (block : ℕ) (past : PastLimit) → IsPastIn bits block ys past → IsPastIn bits block xs past
    past_alike block (TooManyFlows named) is = record { named_is = is.named_is; many = omega (arith, length_alike, is.many) }
    past_alike block (TooManyRows named needed) is = record {
      named_is = is.named_is;
      few = omega (arith, length_alike, is.few);
      needed_is = is.needed_is ∙ needed_alike;
      many = is.many;
    }
