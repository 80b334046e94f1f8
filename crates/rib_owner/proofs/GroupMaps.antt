-- The maps of a block's groups: together they have all its flows, and one bucket's other list changes one of them.
use Rattle.std.proofs.Common.{ℕ, zero, suc, ◌≡◌, ◌≢◌, ◌∙◌, ◌+◌, ◌≤◌, ◌<◌, Bool, true, false, cond, List, [], length, map, get_or, set, sum, zero-add, refl, sym, ap, arith, ⊎_elim, length-append}
use Rattle.std.specs.List.{range_with_len, sum_by}
use Rattle.std.proofs.lemmas.Bool.{cases_eq, eq-eqb, eqb-true, ne_eqb}
use Rattle.std.proofs.lemmas.List.{get_or-map, get_or-set_other, get_or-set_same, length-map, length-set}
use Rattle.std.proofs.lemmas.List.FromFn.{fill_by_all, get_or-map-range_with_len, length-map-range_with_len}
use Rattle.std.proofs.lemmas.List.Sums.{sum-map}
use Rattle.block_layout.specs.Candidate.{candidate}
use Rattle.flow_types.specs.declared.record.Flow.{Flow}
use Rattle.group_search.specs.Home.{group_of}
use Rattle.group_history.specs.Acceptance.{keys_in}
use Rattle.rib_owner.specs.Stock.{flows_in, maps_of}
use Rattle.group_search.proofs.Sums.{beside_same, from_same, part_of_sum, sum-cons, sum_apart, sum_from, sum_of_none}
use Rattle.rib_owner.proofs.Buckets.{and_rest, flows_from, goes_there, in_bucket, one_more, untouched}

module _ (choices : List ℕ) (buckets : List (List Flow)) where
  counted-case : (from n g : ℕ) (here : Bool)
      → length (and_rest choices g here (in_bucket buckets from) (flows_from choices g buckets (from + 1) n))
      ≡ cond here (length (in_bucket buckets from)) 0 + length (flows_from choices g buckets (from + 1) n)
  counted-case from n g true = length-append (in_bucket buckets from) (flows_from choices g buckets (from + 1) n)
  counted-case from n g false = sym (zero-add _)

  counted : (from n g : ℕ) → length (flows_from choices g buckets from (suc n))
      ≡ cond (goes_there choices g from) (length (in_bucket buckets from)) 0 + length (flows_from choices g buckets (from + 1) n)
  counted from n g = ap length (one_more choices g buckets from n) ∙ counted-case from n g (goes_there choices g from)

  counted_here : (from n : ℕ) → length (flows_from choices (group_of choices from) buckets from (suc n))
      ≡ length (in_bucket buckets from) + length (flows_from choices (group_of choices from) buckets (from + 1) n)
  counted_here from n =
      counted from n (group_of choices from)
      ∙ ap (λ (b : Bool). cond b (length (in_bucket buckets from)) 0 + length (flows_from choices (group_of choices from) buckets (from + 1) n)) (eq-eqb _ (group_of choices from) refl)

  counted_beside : (from n g : ℕ) → g ≢ group_of choices from → length (flows_from choices g buckets from (suc n)) ≡ length (flows_from choices g buckets (from + 1) n)
  counted_beside from n g ne =
      counted from n g
      ∙ ap (λ (b : Bool). cond b (length (in_bucket buckets from)) 0 + length (flows_from choices g buckets (from + 1) n)) (ne_eqb (group_of choices from) g (λ e. ne (sym e)))
      ∙ zero-add _

  pub group_low : (bucket : ℕ) → group_of choices bucket < 64
  unfolding candidate
  group_low bucket = omega arith

  all_counted : (n from : ℕ) → sum_from (λ (g : ℕ). length (flows_from choices g buckets from n)) 0 64 ≡ sum_from (λ (x : ℕ). length (in_bucket buckets x)) from n
  all_counted zero from = sum_of_none (λ (g : ℕ). length (flows_from choices g buckets from 0)) 64 0 (λ g. refl)
  all_counted (suc n) from =
      let own : ℕ = group_of choices from in
      let low : group_of choices from < 0 + 64 = omega (arith, group_low from) in
      let more : ℕ → ℕ = λ (g : ℕ). length (flows_from choices g buckets from (suc n)) in
      let less : ℕ → ℕ = λ (g : ℕ). length (flows_from choices g buckets (from + 1) n) in
      let whole = sum_apart more (group_of choices from) 64 0 (omega arith) low in
      let before = sum_apart less (group_of choices from) 64 0 (omega arith) low in
      let beside = beside_same more less (group_of choices from) 64 0 (λ g ne. counted_beside from n g ne) in
      let here = counted_here from n in
      let rest = all_counted n (from + 1) in
      let next = sum-cons (length (in_bucket buckets from)) (map (λ (x : ℕ). length (in_bucket buckets x)) (range_with_len (from + 1) n)) in
      omega (arith, whole, before, beside, here, rest, next)

  listed : length buckets ≡ 256 → sum_from (λ (x : ℕ). length (in_bucket buckets x)) 0 256 ≡ sum_by length buckets
  listed each =
      ap sum
      (sym
      (fill_by_all (λ (x : ℕ). length (in_bucket buckets x)) (map length buckets) 256 0 (length-map buckets length ∙ each)
      (λ k low. get_or-map length buckets k [] 0 (omega (arith, each)))))
      ∙ sum-map length buckets

  -- the map of a group
  pub map_at : (group : ℕ) → group < 64 → get_or (maps_of choices buckets) group [] ≡ flows_in choices buckets group
  unfolding maps_of
  map_at group low = get_or-map-range_with_len (flows_in choices buckets) 0 64 group group [] low (zero-add group)

  pub map_each : length (maps_of choices buckets) ≡ 64
  unfolding maps_of
  map_each = length-map-range_with_len (flows_in choices buckets) 0 64

  pub all_flows : length buckets ≡ 256 → keys_in (λ (group : ℕ). get_or (maps_of choices buckets) group []) ≡ sum_by length buckets
  unfolding keys_in flows_in
  all_flows each =
      from_same (λ (group : ℕ). length (get_or (maps_of choices buckets) group [])) (λ (group : ℕ). length (flows_in choices buckets group)) 64 0
      (λ x low high. ap length (map_at x (omega arith)))
      ∙ all_counted 256 0 ∙ listed each

-- a bucket has no more flows than the block
pub bucket_within : (buckets : List (List Flow)) → length buckets ≡ 256 → (bucket : ℕ) → bucket < 256 → length (in_bucket buckets bucket) ≤ sum_by length buckets
bucket_within buckets each bucket low =
    omega (arith, part_of_sum (λ (x : ℕ). length (in_bucket buckets x)) bucket 256 low, listed [] buckets each)

module _ (choices : List ℕ) (buckets : List (List Flow)) (bucket : ℕ) (flows : List Flow) where
  beside_at : (group : ℕ) → group ≢ group_of choices bucket → flows_in choices (set buckets bucket flows) group ≡ flows_in choices buckets group
  unfolding flows_in
  beside_at group ne = untouched choices group buckets bucket flows 256 0
      (λ x high there e. ne (sym (eqb-true (group_of choices x) group there) ∙ ap (group_of choices) e))

  -- only its group has other flows
  pub maps_with : maps_of choices (set buckets bucket flows)
      ≡ set (maps_of choices buckets) (group_of choices bucket) (flows_in choices (set buckets bucket flows) (group_of choices bucket))
  unfolding maps_of
  maps_with =
      let own : ℕ = group_of choices bucket in
      let new : List Flow = flows_in choices (set buckets bucket flows) (group_of choices bucket) in
      sym
      (fill_by_all (flows_in choices (set buckets bucket flows)) (set (maps_of choices buckets) (group_of choices bucket) new) 64 []
      (length-set (maps_of choices buckets) (group_of choices bucket) new ∙ map_each choices buckets)
      (λ k low. ⊎_elim
      (λ (same : k ≡ group_of choices bucket).
      rw same (get_or-set_same (maps_of choices buckets) (group_of choices bucket) new [] (omega (arith, map_each choices buckets, group_low choices buckets bucket))))
      (λ (other : k ≢ group_of choices bucket).
      get_or-set_other (maps_of choices buckets) (group_of choices bucket) k new [] other ∙ map_at choices buckets k low ∙ sym (beside_at k other))
      (cases_eq k (group_of choices bucket))))
