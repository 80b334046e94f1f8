-- The flows of a bucket have distinct keys where those of its group have.
use Rattle.std.proofs.Common.{ℕ, zero, suc, ◌≡◌, ◌≢◌, ◌+◌, ◌≤◌, ◌<◌, Bool, true, false, List, [], ◌++◌, length, get_or, refl, subst, arith, ⊎_elim, length-append}
use Rattle.std.proofs.lemmas.Bool.{cases_eq, eq-eqb}
use Rattle.std.proofs.lemmas.List.{get_or-append-add, get_or_append_left}
use Rattle.flow_types.specs.declared.record.Flow.{Flow}
use Rattle.flow_types.specs.Map.{AreDistinct}
use Rattle.group_search.specs.Home.{group_of}
use Rattle.rib_owner.specs.Stock.{flows_in, maps_of}
use Rattle.rib_owner.proofs.Buckets.{and_rest, flows_from, goes_there, in_bucket, one_more}
use Rattle.rib_owner.proofs.GroupMaps.{group_low, map_at}

distinct_left : (xs ys : List Flow) → AreDistinct (xs ++ ys) → AreDistinct xs
distinct_left xs ys distinct i j d below inside =
    rw (← get_or_append_left xs ys d i (omega arith), ← get_or_append_left xs ys d j inside)
    (distinct i j d below (omega (arith, length-append xs ys)))

distinct_right : (xs ys : List Flow) → AreDistinct (xs ++ ys) → AreDistinct ys
distinct_right xs ys distinct i j d below inside =
    rw (← get_or-append-add xs ys i d, ← get_or-append-add xs ys j d)
    (distinct (length xs + i) (length xs + j) d (omega arith) (omega (arith, length-append xs ys)))

module _ (choices : List ℕ) (group : ℕ) (buckets : List (List Flow)) where
  distinct_rest : (from n : ℕ) (here : Bool) → AreDistinct (and_rest choices group here (in_bucket buckets from) (flows_from choices group buckets (from + 1) n))
      → AreDistinct (flows_from choices group buckets (from + 1) n)
  distinct_rest from n true distinct = distinct_right (in_bucket buckets from) (flows_from choices group buckets (from + 1) n) distinct
  distinct_rest from n false distinct = distinct

  distinct_from : (n from bucket : ℕ) → goes_there choices group bucket ≡ true → from ≤ bucket → bucket < from + n
      → AreDistinct (flows_from choices group buckets from n) → AreDistinct (in_bucket buckets bucket)
  distinct_from zero from bucket here low high distinct = absurd (omega arith)
  distinct_from (suc n) from bucket here low high distinct =
      let both : AreDistinct (and_rest choices group (goes_there choices group from) (in_bucket buckets from) (flows_from choices group buckets (from + 1) n)) =
      subst AreDistinct (one_more choices group buckets from n) distinct in
      ⊎_elim
      (λ (same : from ≡ bucket).
      distinct_left (in_bucket buckets bucket) (flows_from choices group buckets (bucket + 1) n) (rw (same, here) at both))
      (λ (other : from ≢ bucket).
      distinct_from n (from + 1) bucket here (omega arith) (omega arith) (distinct_rest from n (goes_there choices group from) both))
      (cases_eq from bucket)

-- the flows of a bucket have distinct keys where those of its group have
pub distinct_bucket : (choices : List ℕ) (buckets : List (List Flow)) (bucket : ℕ) → bucket < 256
    → AreDistinct (get_or (maps_of choices buckets) (group_of choices bucket) []) → AreDistinct (in_bucket buckets bucket)
unfolding flows_in
distinct_bucket choices buckets bucket low distinct =
    distinct_from choices (group_of choices bucket) buckets 256 0 bucket (eq-eqb _ (group_of choices bucket) refl) (omega arith) (omega arith)
    (subst AreDistinct (map_at choices buckets (group_of choices bucket) (group_low choices buckets bucket)) distinct)
