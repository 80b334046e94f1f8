-- The entries of a group, gathered bucket after bucket.
use Rattle.std.proofs.Common.{ℕ, zero, suc, ◌≡◌, ◌≢◌, ◌∙◌, ◌+◌, Bool, true, false, cond, List, [], ◌∷◌, ◌++◌, add-one, add-zero, zero-add, refl, sym, ap, arith}
use Rattle.std.specs.Prelude.{filter, flat_map}
use Rattle.std.specs.List.{range_with_len}
use Rattle.std.proofs.lemmas.Bool.{eq-eqb, ne_eqb}
use Rattle.std.proofs.lemmas.List.{append-nil, map-append}
use Rattle.std.proofs.lemmas.List.Concat.{flat_map-append}
use Rattle.std.proofs.lemmas.List.Elements.{filter-append}
use Rattle.flow_types.specs.declared.key.FlowKey.{FlowKey}
use Rattle.flow_types.specs.declared.record.Flow.{Flow}
use Rattle.flow_types.specs.Map.{without}
use Rattle.group_search.specs.Home.{group_of}
use Rattle.group_search.specs.Records.{entries, entry_of}
use Rattle.rib_owner.specs.Stock.{flows_in}
use Rattle.rib_owner.proofs.Buckets.{flows_from, goes_there, in_bucket, without_more, without_nothing}

range_more : (n from : ℕ) → range_with_len from (suc n) ≡ range_with_len from n ++ (from + n) ∷ []
range_more zero from = ap (λ (x : ℕ). x ∷ []) (sym (add-zero from))
range_more (suc n) from =
    ap (λ (xs : List ℕ). from ∷ xs) (range_more n (from + 1))
    ∙ ap (λ (x : ℕ). from ∷ (range_with_len (from + 1) n ++ x ∷ [])) (omega arith)

module _ (choices : List ℕ) (group : ℕ) (buckets : List (List Flow)) (key : FlowKey) where
  last-case : (bucket : ℕ) (xs : List ℕ) (here : Bool)
      → entries (without key (flat_map (in_bucket buckets) (xs ++ cond here (bucket ∷ []) []))) ≡ entries (without key (flat_map (in_bucket buckets) xs))
      ++ cond here (entries (without key (in_bucket buckets bucket))) []
  last-case bucket xs true =
      ap (λ (l : List Flow). entries (without key l)) (flat_map-append (in_bucket buckets) xs (bucket ∷ []) ∙ ap (λ (l : List Flow). flat_map (in_bucket buckets) xs ++ l) (append-nil (in_bucket buckets bucket)))
      ∙ ap entries (without_more key (flat_map (in_bucket buckets) xs) (in_bucket buckets bucket))
      ∙ map-append entry_of (without key (flat_map (in_bucket buckets) xs)) (without key (in_bucket buckets bucket))
  last-case bucket xs false =
      ap (λ (ys : List ℕ). entries (without key (flat_map (in_bucket buckets) ys))) (append-nil xs)
      ∙ sym (append-nil (entries (without key (flat_map (in_bucket buckets) xs))))

  single : (bucket : ℕ) (here : Bool) → goes_there choices group bucket ≡ here → filter (goes_there choices group) (bucket ∷ []) ≡ cond here (bucket ∷ []) []
  single bucket true e = rw e refl
  single bucket false e = rw e refl

  gathered_more : (bucket : ℕ) (here : Bool) → goes_there choices group bucket ≡ here
      → entries (without key (flows_from choices group buckets 0 (bucket + 1))) ≡ entries (without key (flows_from choices group buckets 0 bucket))
      ++ cond here (entries (without key (in_bucket buckets bucket))) []
  gathered_more bucket here e =
      ap (λ (xs : List ℕ). entries (without key (flat_map (in_bucket buckets) (filter (goes_there choices group) xs))))
      (rw (add-one bucket) (range_more bucket 0 ∙ ap (λ (x : ℕ). range_with_len 0 bucket ++ x ∷ []) (zero-add bucket)))
      ∙ ap (λ (xs : List ℕ). entries (without key (flat_map (in_bucket buckets) xs)))
      (filter-append (goes_there choices group) (range_with_len 0 bucket) (bucket ∷ []) ∙ ap (λ (xs : List ℕ). filter (goes_there choices group) (range_with_len 0 bucket) ++ xs) (single bucket here e))
      ∙ last-case bucket (filter (goes_there choices group) (range_with_len 0 bucket)) here

  -- the entries of the buckets so far with those of one of the group's, and with none of another's
  pub gathered_yes : (bucket : ℕ) → group_of choices bucket ≡ group
      → entries (without key (flows_from choices group buckets 0 bucket)) ++ entries (without key (in_bucket buckets bucket)) ≡ entries (without key (flows_from choices group buckets 0 (bucket + 1)))
  gathered_yes bucket same = sym (gathered_more bucket true (eq-eqb _ group same))

  pub gathered_no : (bucket : ℕ) → group_of choices bucket ≢ group
      → entries (without key (flows_from choices group buckets 0 bucket)) ≡ entries (without key (flows_from choices group buckets 0 (bucket + 1)))
  gathered_no bucket ne = sym (gathered_more bucket false (ne_eqb _ group ne) ∙ append-nil _)

  pub gathered_none : [] ≡ entries (without key (flows_from choices group buckets 0 0))
  gathered_none = ap entries (without_nothing key)

  pub gathered_all : (bucket : ℕ) → bucket ≡ 256 → entries (without key (flows_from choices group buckets 0 bucket)) ≡ entries (without key (flows_in choices buckets group))
  unfolding flows_in
  gathered_all bucket last = ap (λ (n : ℕ). entries (without key (flows_from choices group buckets 0 n))) last
