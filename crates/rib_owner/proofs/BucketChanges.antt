-- A group's map after a change in one of its buckets.
use Rattle.std.proofs.Common.{ℕ, ◌≡◌, ◌∙◌, ◌≤◌, ◌<◌, Option, Some, None, List, [], ◌∷◌, ◌++◌, length, get_or, set, refl, sym, ap, subst, arith}
use Rattle.std.specs.Prelude.{◌==◌, IsPermutation, filter}
use Rattle.std.proofs.lemmas.Bool.{eq-eqb}
use Rattle.std.proofs.lemmas.List.{get_or-set_same, length-set, set-set}
use Rattle.std.proofs.lemmas.List.Sorted.{IsPermutation-refl, IsPermutation-sym}
use Rattle.flow_types.specs.declared.key.FlowKey.{FlowKey}
use Rattle.flow_types.specs.declared.record.Flow.{Flow}
use Rattle.flow_types.specs.declared.record.Record.{Record}
use Rattle.flow_types.specs.Map.{flow_at, put, without}
use Rattle.hash_family.specs.Hash.{place}
use Rattle.group_search.specs.Home.{group_of}
use Rattle.group_history.specs.Change.{flow_to, with_at}
use Rattle.rib_owner.specs.Stock.{ArePlaced, bucket_for, flows_in, maps_of}
use Rattle.rib_owner.proofs.Buckets.{in_bucket, pushed, removed}
use Rattle.rib_owner.proofs.KeysBucket.{found, standing, without_there}
use Rattle.rib_owner.proofs.GroupMaps.{group_low, map_at, maps_with}

-- a flow behind those of a bucket
pub put_in : (choices : List ℕ) (buckets : List (List Flow)) (bucket : ℕ) (flow : Flow) → bucket < 256 → bucket < length buckets
    → IsPermutation (flows_in choices (set buckets bucket (in_bucket buckets bucket ++ flow ∷ [])) (group_of choices bucket))
    (flows_in choices buckets (group_of choices bucket) ++ flow ∷ [])
unfolding flows_in
put_in choices buckets bucket flow low inside =
    pushed choices (group_of choices bucket) buckets bucket flow (eq-eqb _ (group_of choices bucket) refl) inside 256 0 (omega arith) (omega arith)

module _ (choices : List ℕ) (buckets : List (List Flow)) (inside : 256 ≤ length buckets) (placed : ArePlaced buckets) (key : FlowKey) where
  bucket_low : bucket_for key < 256
  unfolding place
  bucket_low = omega arith

  pub found_in_group : flow_at key (in_bucket buckets (bucket_for key)) ≡ flow_at key (get_or (maps_of choices buckets) (group_of choices (bucket_for key)) [])
  unfolding flows_in
  found_in_group =
      sym
      (ap (flow_at key) (map_at choices buckets (group_of choices (bucket_for key)) (group_low choices buckets (bucket_for key)))
      ∙ found buckets placed key choices (group_of choices (bucket_for key)) 256 0 (eq-eqb _ (group_of choices (bucket_for key)) refl) (omega arith) (omega (arith, bucket_low)))

  -- those of the group that stand in its bucket are the bucket's
  pub standing_there : filter (λ (flow : Flow). bucket_for flow.key == bucket_for key) (get_or (maps_of choices buckets) (group_of choices (bucket_for key)) [])
      ≡ in_bucket buckets (bucket_for key)
  unfolding flows_in
  standing_there =
      ap (filter (λ (flow : Flow). bucket_for flow.key == bucket_for key)) (map_at choices buckets (group_of choices (bucket_for key)) (group_low choices buckets (bucket_for key)))
      ∙ standing buckets placed (bucket_for key) choices (group_of choices (bucket_for key)) 256 0 (eq-eqb _ (group_of choices (bucket_for key)) refl) (omega arith)
      (omega (arith, bucket_low))

  abbrev less : List (List Flow)
  less = set buckets (bucket_for key) (without key (in_bucket buckets (bucket_for key)))

  removed_in : (group : ℕ) → flows_in choices less group ≡ without key (flows_in choices buckets group)
  unfolding flows_in
  removed_in group = removed choices group key buckets less (without_there buckets placed key (omega (arith, bucket_low))) 256 0

  less_there : in_bucket less (bucket_for key) ≡ without key (in_bucket buckets (bucket_for key))
  less_there = without_there buckets placed key (omega (arith, bucket_low)) (bucket_for key)

  -- what a change makes of its key's bucket it makes of the bucket's group, but for the order
  pub stepped_at : (to : Option (ℕ × Record))
      → IsPermutation (with_at key to (flows_in choices buckets (group_of choices (bucket_for key))))
      (flows_in choices (set buckets (bucket_for key) (with_at key to (in_bucket buckets (bucket_for key)))) (group_of choices (bucket_for key)))
  unfolding put
  stepped_at None =
      subst (IsPermutation (without key (flows_in choices buckets (group_of choices (bucket_for key))))) (sym (removed_in (group_of choices (bucket_for key))))
      (IsPermutation-refl (without key (flows_in choices buckets (group_of choices (bucket_for key)))))
  stepped_at (Some to) =
      let last : List Flow = flow_to key to ∷ [] in
      let more = put_in choices less (bucket_for key) (flow_to key to) bucket_low (omega (arith, bucket_low, length-set buckets (bucket_for key) (without key (in_bucket buckets (bucket_for key))))) in
      let same : set less (bucket_for key) (in_bucket less (bucket_for key) ++ flow_to key to ∷ [])
      ≡ set buckets (bucket_for key) (without key (in_bucket buckets (bucket_for key)) ++ flow_to key to ∷ []) =
      ap (λ (l : List Flow). set less (bucket_for key) (l ++ flow_to key to ∷ [])) less_there ∙ set-set buckets (bucket_for key) _ _ in
      IsPermutation-sym _ _
      (subst
      (λ (l : List Flow).
      IsPermutation (flows_in choices (set buckets (bucket_for key) (without key (in_bucket buckets (bucket_for key)) ++ flow_to key to ∷ [])) (group_of choices (bucket_for key)))
      (l ++ flow_to key to ∷ []))
      (removed_in (group_of choices (bucket_for key)))
      (subst
      (λ (ls : List (List Flow)).
      IsPermutation (flows_in choices ls (group_of choices (bucket_for key))) (flows_in choices less (group_of choices (bucket_for key)) ++ flow_to key to ∷ []))
      same more))

pub maps_changed : (choices now_choices : List ℕ) (buckets now_buckets : List (List Flow)) (bucket : ℕ) (flows : List Flow)
    → now_choices ≡ choices → now_buckets ≡ set buckets bucket flows
    → maps_of now_choices now_buckets ≡ set (maps_of choices buckets) (group_of choices bucket) (get_or (maps_of now_choices now_buckets) (group_of choices bucket) [])
maps_changed choices now_choices buckets now_buckets bucket flows choices_are buckets_are =
    rw (choices_are, buckets_are)
    (maps_with choices buckets bucket flows
    ∙ ap (set (maps_of choices buckets) (group_of choices bucket))
    (sym (map_at choices (set buckets bucket flows) (group_of choices bucket) (group_low choices buckets bucket))))

pub map_put : (choices now_choices : List ℕ) (buckets now_buckets : List (List Flow)) (bucket : ℕ) (flow : Flow) → bucket < 256 → length buckets ≡ 256
    → now_choices ≡ choices → now_buckets ≡ set buckets bucket (in_bucket buckets bucket ++ flow ∷ [])
    → IsPermutation (get_or (maps_of choices buckets) (group_of choices bucket) [] ++ flow ∷ []) (get_or (maps_of now_choices now_buckets) (group_of choices bucket) [])
map_put choices now_choices buckets now_buckets bucket flow low each choices_are buckets_are =
    let group_is = group_low choices buckets bucket in
    rw (
      choices_are,
      buckets_are,
      map_at choices buckets (group_of choices bucket) group_is,
      map_at choices (set buckets bucket (in_bucket buckets bucket ++ flow ∷ [])) (group_of choices bucket) group_is,
    )
    (IsPermutation-sym _ _ (put_in choices buckets bucket flow low (omega (arith, each))))

pub map_stepped : (choices now_choices : List ℕ) (buckets now_buckets : List (List Flow)) (bucket : ℕ) (key : FlowKey) (to : Option (ℕ × Record))
    → bucket_for key ≡ bucket → length buckets ≡ 256 → ArePlaced buckets
    → now_choices ≡ choices → now_buckets ≡ set buckets bucket (with_at key to (in_bucket buckets bucket))
    → IsPermutation (with_at key to (get_or (maps_of choices buckets) (group_of choices bucket) [])) (get_or (maps_of now_choices now_buckets) (group_of choices bucket) [])
map_stepped choices now_choices buckets now_buckets bucket key to own each placed choices_are buckets_are =
    let group_is = group_low choices buckets bucket in
    rw (
      choices_are,
      buckets_are,
      map_at choices buckets (group_of choices bucket) group_is,
      map_at choices (set buckets bucket (with_at key to (in_bucket buckets bucket))) (group_of choices bucket) group_is,
      ← own,
    )
    (stepped_at choices buckets (omega (arith, each)) placed key to)

-- a flow that is put where its key was removed
pub put_removed : (buckets between now : List (List Flow)) (bucket : ℕ) (key : FlowKey) (to : ℕ × Record) → bucket < length buckets
    → between ≡ set buckets bucket (without key (in_bucket buckets bucket)) → now ≡ set between bucket (in_bucket between bucket ++ flow_to key to ∷ [])
    → now ≡ set buckets bucket (with_at key (Some to) (in_bucket buckets bucket))
unfolding put
put_removed buckets between now bucket key to inside between_is now_is =
    now_is
    ∙ ap (λ (ls : List (List Flow)). set ls bucket (in_bucket ls bucket ++ flow_to key to ∷ [])) between_is
    ∙ ap (λ (l : List Flow). set (set buckets bucket (without key (in_bucket buckets bucket))) bucket (l ++ flow_to key to ∷ []))
    (get_or-set_same buckets bucket (without key (in_bucket buckets bucket)) [] inside)
    ∙ set-set buckets bucket _ _
