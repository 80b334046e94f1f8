-- A block without flows.
use Rattle.std.proofs.Common.{ℕ, zero, suc, ◌≡◌, ◌∙◌, ◌+◌, ◌≤◌, ◌<◌, Bool, true, false, List, [], ◌++◌, get_or, refl, ap, arith, ⊎_elim}
use Rattle.std.proofs.lemmas.Bool.{cases_lt}
use Rattle.std.proofs.lemmas.List.{get_or_past}
use Rattle.flow_types.specs.declared.record.Flow.{Flow}
use Rattle.rib_owner.specs.Stock.{flows_in, maps_of}
use Rattle.rib_owner.proofs.Buckets.{and_rest, flows_from, goes_there, in_bucket, one_more}
use Rattle.rib_owner.proofs.GroupMaps.{map_at, map_each}

module _ (choices : List ℕ) (buckets : List (List Flow)) (none : (x : ℕ) → in_bucket buckets x ≡ []) where
  empty-case : (group from n : ℕ) (here : Bool) → flows_from choices group buckets (from + 1) n ≡ []
      → and_rest choices group here (in_bucket buckets from) (flows_from choices group buckets (from + 1) n) ≡ []
  empty-case group from n true rest = ap (λ (l : List Flow). l ++ flows_from choices group buckets (from + 1) n) (none from) ∙ rest
  empty-case group from n false rest = rest

  empty_from : (group n from : ℕ) → flows_from choices group buckets from n ≡ []
  empty_from group zero from = refl
  empty_from group (suc n) from = one_more choices group buckets from n ∙ empty-case group from n (goes_there choices group from) (empty_from group n (from + 1))

  pub empty_map : (group : ℕ) → get_or (maps_of choices buckets) group [] ≡ []
  unfolding flows_in
  empty_map group =
      ⊎_elim
      (λ (low : group < 64). map_at choices buckets group low ∙ empty_from group 256 0)
      (λ (high : 64 ≤ group). get_or_past (maps_of choices buckets) group [] (omega (arith, map_each choices buckets)))
      (cases_lt group 64)
