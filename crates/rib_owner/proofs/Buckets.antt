-- The flows of a group's buckets, when one bucket gets another list.
use Rattle.std.proofs.Common.{ℕ, zero, suc, ◌≡◌, ◌≢◌, ◌∙◌, ◌+◌, ◌≤◌, ◌<◌, Bool, true, false, cond, List, [], ◌∷◌, ◌++◌, length, get_or, set, refl, sym, ap, arith, ⊎_elim, append_assoc}
use Rattle.std.specs.Prelude.{◌==◌, IsPermutation, filter, flat_map}
use Rattle.std.specs.List.{range_with_len}
use Rattle.std.proofs.lemmas.Bool.{cases_eq}
use Rattle.std.proofs.lemmas.List.{get_or-set_other, get_or-set_same}
use Rattle.std.proofs.lemmas.List.Elements.{filter-append}
use Rattle.std.proofs.lemmas.List.Sorted.{IsPermutation-append_right, IsPermutation-sym, IsPermutation-to_front}
use Rattle.flow_types.specs.declared.key.FlowKey.{FlowKey}
use Rattle.flow_types.specs.declared.record.Flow.{Flow}
use Rattle.flow_types.specs.Map.{without}
use Rattle.group_search.specs.Home.{group_of}

abbrev pub in_bucket : List (List Flow) → ℕ → List Flow
in_bucket buckets bucket = get_or buckets bucket []

module _ (choices : List ℕ) (group : ℕ) where
  abbrev pub goes_there : ℕ → Bool
  goes_there bucket = group_of choices bucket == group

  -- of a number of buckets from this one on
  abbrev pub flows_from : List (List Flow) → (from n : ℕ) → List Flow
  flows_from buckets from n = flat_map (in_bucket buckets) (filter goes_there (range_with_len from n))

  -- a bucket of the group, and one of another
  abbrev pub and_rest : Bool → List Flow → List Flow → List Flow
  and_rest here flows rest = cond here (flows ++ rest) rest

  one_more-case : (buckets : List (List Flow)) (from : ℕ) (rest : List ℕ) (here : Bool)
      → flat_map (in_bucket buckets) (cond here (from ∷ rest) rest) ≡ and_rest here (in_bucket buckets from) (flat_map (in_bucket buckets) rest)
  one_more-case buckets from rest true = refl
  one_more-case buckets from rest false = refl

  pub one_more : (buckets : List (List Flow)) (from n : ℕ)
      → flows_from buckets from (suc n) ≡ and_rest (goes_there from) (in_bucket buckets from) (flows_from buckets (from + 1) n)
  one_more buckets from n = one_more-case buckets from (filter goes_there (range_with_len (from + 1) n)) (goes_there from)

  module _ (buckets : List (List Flow)) (bucket : ℕ) (flows : List Flow) where
    untouched-case : (from n : ℕ) (here : Bool) → goes_there from ≡ here → (goes_there from ≡ true → from ≢ bucket)
        → flows_from (set buckets bucket flows) (from + 1) n ≡ flows_from buckets (from + 1) n
        → and_rest here (in_bucket (set buckets bucket flows) from) (flows_from (set buckets bucket flows) (from + 1) n)
        ≡ and_rest here (in_bucket buckets from) (flows_from buckets (from + 1) n)
    untouched-case from n true is other rest =
        ap (λ (l : List Flow). l ++ flows_from (set buckets bucket flows) (from + 1) n) (get_or-set_other buckets bucket from flows [] (other is))
        ∙ ap (λ (l : List Flow). in_bucket buckets from ++ l) rest
    untouched-case from n false is other rest = rest

    -- buckets of the group that stay give the same flows
    pub untouched : (n from : ℕ) → ((x : ℕ) → from ≤ x → goes_there x ≡ true → x ≢ bucket)
        → flows_from (set buckets bucket flows) from n ≡ flows_from buckets from n
    untouched zero from other = refl
    untouched (suc n) from other =
        one_more (set buckets bucket flows) from n
        ∙ untouched-case from n (goes_there from) refl (other from (omega arith)) (untouched n (from + 1) (λ x high. other x (omega arith)))
        ∙ sym (one_more buckets from n)

  -- ---- a flow behind those of a bucket

  moved : (flow : Flow) (before after : List Flow) → IsPermutation ((before ++ flow ∷ []) ++ after) ((before ++ after) ++ flow ∷ [])
  moved flow before after =
      rw (append_assoc, append_assoc)
      (IsPermutation-append_right before (flow ∷ after) (after ++ flow ∷ []) (IsPermutation-sym _ _ (IsPermutation-to_front after flow)))

  module _ (buckets : List (List Flow)) (bucket : ℕ) (flow : Flow) (here : goes_there bucket ≡ true) (inside : bucket < length buckets) where
    abbrev with_one : List (List Flow)
    with_one = set buckets bucket (in_bucket buckets bucket ++ flow ∷ [])

    pushed-case : (from n : ℕ) (there : Bool) → from ≢ bucket → IsPermutation (flows_from with_one (from + 1) n) (flows_from buckets (from + 1) n ++ flow ∷ [])
        → IsPermutation (and_rest there (in_bucket with_one from) (flows_from with_one (from + 1) n))
        (and_rest there (in_bucket buckets from) (flows_from buckets (from + 1) n) ++ flow ∷ [])
    pushed-case from n true other rest =
        rw (get_or-set_other buckets bucket from (in_bucket buckets bucket ++ flow ∷ []) [] other, append_assoc)
        (IsPermutation-append_right (in_bucket buckets from) _ _ rest)
    pushed-case from n false other rest = rest

    pub pushed : (n from : ℕ) → from ≤ bucket → bucket < from + n → IsPermutation (flows_from with_one from n) (flows_from buckets from n ++ flow ∷ [])
    pushed zero from low high = absurd (omega arith)
    pushed (suc n) from low high =
        rw (one_more with_one from n, one_more buckets from n)
        (⊎_elim
        (λ (same : from ≡ bucket).
        rw (
          same,
          here,
          get_or-set_same buckets bucket (in_bucket buckets bucket ++ flow ∷ []) [] inside,
          untouched buckets bucket (in_bucket buckets bucket ++ flow ∷ []) n (bucket + 1) (λ x past is e. omega arith),
        )
        (moved flow (in_bucket buckets bucket) (flows_from buckets (bucket + 1) n)))
        (λ (other : from ≢ bucket). pushed-case from n (goes_there from) other (pushed n (from + 1) (omega arith) (omega arith)))
        (cases_eq from bucket))

module _ (key : FlowKey) where
  pub without_more : (xs ys : List Flow) → without key (xs ++ ys) ≡ without key xs ++ without key ys
  unfolding without
  without_more xs ys = filter-append _ xs ys

  pub without_nothing : [] ≡ without key []
  unfolding without
  without_nothing = refl

module _ (choices : List ℕ) (group : ℕ) where
  module _ (key : FlowKey) (buckets others : List (List Flow)) (each : (x : ℕ) → in_bucket others x ≡ without key (in_bucket buckets x)) where
    removed-case : (from n : ℕ) (here : Bool) → flows_from choices group others (from + 1) n ≡ without key (flows_from choices group buckets (from + 1) n)
        → and_rest choices group here (in_bucket others from) (flows_from choices group others (from + 1) n) ≡ without key (and_rest choices group here (in_bucket buckets from) (flows_from choices group buckets (from + 1) n))
    removed-case from n true rest =
        ap (λ (l : List Flow). l ++ flows_from choices group others (from + 1) n) (each from)
        ∙ ap (λ (l : List Flow). without key (in_bucket buckets from) ++ l) rest
        ∙ sym (without_more key (in_bucket buckets from) (flows_from choices group buckets (from + 1) n))
    removed-case from n false rest = rest

    pub removed : (n from : ℕ) → flows_from choices group others from n ≡ without key (flows_from choices group buckets from n)
    removed zero from = without_nothing key
    removed (suc n) from =
        one_more choices group others from n ∙ removed-case from n (goes_there choices group from) (removed n (from + 1)) ∙ ap (without key) (sym (one_more choices group buckets from n))
