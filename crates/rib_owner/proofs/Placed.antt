-- One bucket changes, where each flow stands in the bucket of its key.
use Rattle.std.proofs.Common.{ℕ, ◌≡◌, ◌≢◌, ◌≤◌, ◌<◌, not, List, [], ◌∷◌, ◌++◌, length, set, arith, ⊎_elim}
use Rattle.std.specs.List.{All}
use Rattle.std.proofs.lemmas.Bool.{cases_eq, cases_lt}
use Rattle.std.proofs.lemmas.List.{get_or-set_other, get_or-set_same, get_or_past, length-set}
use Rattle.std.proofs.lemmas.List.Elements.{All-filter, All-nil, All-push}
use Rattle.flow_types.specs.declared.key.FlowKey.{FlowKey}
use Rattle.flow_types.specs.declared.record.Flow.{Flow}
use Rattle.flow_types.specs.Map.{is_of, without}
use Rattle.rib_owner.specs.Stock.{ArePlaced, bucket_for}
use Rattle.rib_owner.proofs.Buckets.{in_bucket}

pub placed_with : (buckets : List (List Flow)) (bucket : ℕ) (flows : List Flow) → ArePlaced buckets → All (λ (flow : Flow). bucket_for flow.key ≡ bucket) flows
    → ArePlaced (set buckets bucket flows)
placed_with buckets bucket flows placed own x =
    ⊎_elim
    (λ (same : x ≡ bucket).
    ⊎_elim
    (λ (inside : bucket < length buckets). rw (same, get_or-set_same buckets bucket flows [] inside) own)
    (λ (past : length buckets ≤ bucket). rw (get_or_past (set buckets bucket flows) x [] (omega (arith, length-set buckets bucket flows))) (All-nil (λ (flow : Flow). bucket_for flow.key ≡ x)))
    (cases_lt bucket (length buckets)))
    (λ (other : x ≢ bucket). rw (get_or-set_other buckets bucket x flows [] other) (placed x))
    (cases_eq x bucket)

pub placed_put : (buckets : List (List Flow)) (bucket : ℕ) (flow : Flow) → ArePlaced buckets → bucket_for flow.key ≡ bucket
    → ArePlaced (set buckets bucket (in_bucket buckets bucket ++ flow ∷ []))
placed_put buckets bucket flow placed own =
    placed_with buckets bucket (in_bucket buckets bucket ++ flow ∷ []) placed
    (All-push (λ (f : Flow). bucket_for f.key ≡ bucket) (in_bucket buckets bucket) flow (placed bucket) own)

pub placed_without : (buckets : List (List Flow)) (bucket : ℕ) (key : FlowKey) → ArePlaced buckets → ArePlaced (set buckets bucket (without key (in_bucket buckets bucket)))
unfolding without
placed_without buckets bucket key placed =
    placed_with buckets bucket (without key (in_bucket buckets bucket)) placed
    (All-filter (λ (f : Flow). not (is_of key f)) (λ (f : Flow). bucket_for f.key ≡ bucket) (in_bucket buckets bucket) (placed bucket))
