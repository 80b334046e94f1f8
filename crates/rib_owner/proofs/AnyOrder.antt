-- What of a map doesn't depend on the order of its flows.
use Rattle.std.proofs.Common.{ℕ, ◌≡◌, ◌∙◌, Bool, true, false, cond, List, length, refl, sym, ap}
use Rattle.std.specs.Prelude.{◌==◌, IsPermutation, option_map}
use Rattle.std.specs.List.{list_all}
use Rattle.std.proofs.lemmas.List.Sorted.{All-permutation, IsPermutation-map, IsPermutation-sym, length_permutation}
use Rattle.std.proofs.lemmas.List.Sums.{AllPass-from_list_all, list_all-from_AllPass}
use Rattle.flow_types.specs.declared.record.Flow.{Flow}
use Rattle.flow_types.specs.declared.key.FlowKey.{FlowKey}
use Rattle.flow_types.specs.Key.{number}
use Rattle.flow_types.specs.Map.{AreDistinct, flow_at}
use Rattle.flow_types.proofs.KeyedFlows.{HaveOtherKeys, permuted_same, same_permuted}
use Rattle.group_search.specs.declared.entry.Entry.{Entry}
use Rattle.group_search.specs.Build.{rows_needed}
use Rattle.group_search.specs.Canon.{canonical, is_separable}
use Rattle.group_search.specs.Records.{entries, entry_of}
use Rattle.group_search.specs.Serving.{IsSeparable, reads}
use Rattle.group_search.proofs.AnyOrder.{canonical_permuted}
use Rattle.group_search.proofs.Chosen.{separable_is}
use Rattle.group_search.proofs.Distinct.{AllPairs-permutation}
use Rattle.group_history.specs.declared.change.Change.{Change}
use Rattle.group_history.specs.Change.{flow_to, step}
use Rattle.group_history.proofs.Versions.{distinct-step, flow_at-step}
use Rattle.rib_owner.proofs.Gathered.{distinct_entries}
use Rattle.group_search.proofs.NeededRows.{length-entries}

pub distinct_permuted : (flows others : List Flow) → IsPermutation flows others → AreDistinct flows → AreDistinct others
distinct_permuted flows others same distinct = AllPairs-permutation HaveOtherKeys (λ a b ne e. ne (sym e)) flows others same distinct

module _ (flows others : List Flow) (same : IsPermutation flows others) (distinct : AreDistinct flows) where
  -- the same change of the same map
  pub step_permuted : (change : Change) → IsPermutation (step flows change) (step others change)
  step_permuted change =
      same_permuted (step flows change) (step others change) (distinct-step flows change distinct)
      (distinct-step others change (distinct_permuted flows others same distinct))
      (λ key.
      flow_at-step key flows change
      ∙ ap (cond (number key == number change.key) (option_map (flow_to change.key) change.to)) (permuted_same flows others distinct (distinct_permuted flows others same distinct) same key)
      ∙ sym (flow_at-step key others change))

  pub at_permuted : (key : FlowKey) → flow_at key flows ≡ flow_at key others
  at_permuted key = permuted_same flows others distinct (distinct_permuted flows others same distinct) same key

  pub canonical_alike : (bits : ℕ) → canonical bits (entries flows) ≡ canonical bits (entries others)
  canonical_alike bits =
      canonical_permuted (entries flows) (entries others) (IsPermutation-map entry_of flows others same) bits (distinct_entries flows distinct)

passes_alike : (p : Entry → Bool) (xs ys : List Entry) → IsPermutation xs ys → list_all p xs ≡ true → list_all p ys ≡ true
passes_alike p xs ys same all = list_all-from_AllPass p ys (All-permutation (λ (e : Entry). p e ≡ true) xs ys same (AllPass-from_list_all p xs all))

served_alike : (bits : ℕ) (xs ys : List Entry) → IsPermutation xs ys → is_separable bits xs ≡ true → is_separable bits ys ≡ true
served_alike bits xs ys same served =
    let before : IsSeparable bits xs = (separable_is bits xs (is_separable bits xs) refl).0 served in
    (separable_is bits ys (is_separable bits ys) refl).1 (λ bit low. let by = before bit low in (by.0, by.1, by.2, passes_alike (reads by.0 by.1 bit) xs ys same by.3))

same_answer : (a b : Bool) → (a ≡ true → b ≡ true) → (b ≡ true → a ≡ true) → a ≡ b
same_answer true b there back = sym (there refl)
same_answer false true there back = back refl
same_answer false false there back = refl

pub separable_alike : (bits : ℕ) (flows others : List Flow) → IsPermutation flows others → is_separable bits (entries flows) ≡ is_separable bits (entries others)
separable_alike bits flows others same =
    let mapped = IsPermutation-map entry_of flows others same in
    same_answer (is_separable bits (entries flows)) (is_separable bits (entries others)) (served_alike bits (entries flows) (entries others) mapped)
    (served_alike bits (entries others) (entries flows) (IsPermutation-sym (entries flows) (entries others) mapped))

pub rows_alike_in : (bits : ℕ) (flows others : List Flow) → IsPermutation flows others → rows_needed bits (entries flows) ≡ rows_needed bits (entries others)
unfolding rows_needed
rows_alike_in bits flows others same =
    ap (λ (served : Bool). cond served 0 (length (entries flows))) (separable_alike bits flows others same)
    ∙ ap (cond (is_separable bits (entries others)) 0) (length-entries flows ∙ sym (length_permutation flows others same) ∙ sym (length-entries others))
