-- Where a key can stand: in one bucket, and in the group of that bucket.
use Rattle.std.proofs.Common.{ℕ, zero, suc, ◌≡◌, ◌≢◌, ◌∙◌, ◌==◌, ◌+◌, ◌%◌, ◌≤◌, ◌<◌, Bool, true, false, Option, Some, None, List, [], ◌∷◌, ◌++◌, length, get_or, set, refl, sym, ap, arith, ⊎_elim, append-nil}
use Rattle.std.specs.Prelude.{filter}
use Rattle.std.specs.Option.{option_or}
use Rattle.std.specs.List.{All}
use Rattle.std.proofs.lemmas.Bool.{cases_eq, eq-eqb, ne_eqb}
use Rattle.std.proofs.lemmas.List.Elements.{All-head, All-tail, filter-append}
use Rattle.std.proofs.lemmas.List.{get_or-set_other, get_or-set_same}
use Rattle.std.proofs.lemmas.List.Folds.{find-append}
use Rattle.flow_types.specs.declared.key.FlowKey.{FlowKey}
use Rattle.flow_types.specs.declared.record.Flow.{Flow}
use Rattle.flow_types.specs.Map.{flow_at, is_of, without}
use Rattle.flow_types.proofs.KeyedFlows.{none_at, without_none}
use Rattle.flow_types.specs.Key.{number}
use Rattle.hash_family.specs.Hash.{base, place}
use Rattle.rib_owner.specs.Stock.{ArePlaced, bucket_for}
use Rattle.rib_owner.proofs.Buckets.{and_rest, flows_from, goes_there, in_bucket, one_more}

-- a bucket is a matter of the key's number alone
pub same_bucket : (a b : FlowKey) → number a ≡ number b → bucket_for a ≡ bucket_for b
unfolding place
same_bucket a b same = ap (λ (n : ℕ). base 1 n % 256) same

pub bucket_of_place : (blocks : ℕ) (key : FlowKey) → (place blocks key).bucket ≡ bucket_for key
unfolding place
bucket_of_place blocks key = refl

at_more : (key : FlowKey) (xs ys : List Flow) → flow_at key (xs ++ ys) ≡ option_or (flow_at key xs) (flow_at key ys)
unfolding flow_at
at_more key xs ys = find-append (is_of key) xs ys

or_none : (o : Option Flow) → option_or o None ≡ o
or_none None = refl
or_none (Some flow) = refl

module _ (buckets : List (List Flow)) (placed : ArePlaced buckets) (key : FlowKey) where
  -- a bucket that isn't the key's has nothing at the key
  pub not_elsewhere : (x : ℕ) → x ≢ bucket_for key → All (λ (flow : Flow). number key ≢ number flow.key) (in_bucket buckets x)
  not_elsewhere x other i d inside same = other (sym (placed x i d inside) ∙ sym (same_bucket key (get_or (in_bucket buckets x) i d).key same))

  module _ (inside : bucket_for key < length buckets) where
    -- without the key there is a bucket of others for each that was
    pub without_there : (x : ℕ) → in_bucket (set buckets (bucket_for key) (without key (in_bucket buckets (bucket_for key)))) x ≡ without key (in_bucket buckets x)
    without_there x =
        ⊎_elim
        (λ (same : x ≡ bucket_for key).
        rw same (get_or-set_same buckets (bucket_for key) (without key (in_bucket buckets (bucket_for key))) [] inside))
        (λ (other : x ≢ bucket_for key).
        get_or-set_other buckets (bucket_for key) x (without key (in_bucket buckets (bucket_for key))) [] other
        ∙ sym (without_none key (in_bucket buckets x) (not_elsewhere x other)))
        (cases_eq x (bucket_for key))

  module _ (choices : List ℕ) (group : ℕ) where
    found-past-case : (from n : ℕ) (here : Bool) → All (λ (flow : Flow). number key ≢ number flow.key) (in_bucket buckets from)
        → flow_at key (flows_from choices group buckets (from + 1) n) ≡ None
        → flow_at key (and_rest choices group here (in_bucket buckets from) (flows_from choices group buckets (from + 1) n)) ≡ None
    found-past-case from n true none rest =
        at_more key (in_bucket buckets from) (flows_from choices group buckets (from + 1) n)
        ∙ ap (λ (o : Option Flow). option_or o (flow_at key (flows_from choices group buckets (from + 1) n))) (none_at key (in_bucket buckets from) none) ∙ rest
    found-past-case from n false none rest = rest

    found-rest : (from n : ℕ) (here : Bool) → All (λ (flow : Flow). number key ≢ number flow.key) (in_bucket buckets from)
        → flow_at key (and_rest choices group here (in_bucket buckets from) (flows_from choices group buckets (from + 1) n))
        ≡ flow_at key (flows_from choices group buckets (from + 1) n)
    found-rest from n true none =
        at_more key (in_bucket buckets from) (flows_from choices group buckets (from + 1) n)
        ∙ ap (λ (o : Option Flow). option_or o (flow_at key (flows_from choices group buckets (from + 1) n))) (none_at key (in_bucket buckets from) none)
    found-rest from n false none = refl

    found_first : (xs ys : List Flow) → flow_at key ys ≡ None → flow_at key (xs ++ ys) ≡ flow_at key xs
    found_first xs ys none = at_more key xs ys ∙ ap (option_or (flow_at key xs)) none ∙ or_none (flow_at key xs)

    found-past : (n from : ℕ) → bucket_for key < from → flow_at key (flows_from choices group buckets from n) ≡ None
    found-past zero from past = none_at key [] (λ i d inside. absurd (omega arith))
    found-past (suc n) from past =
        ap (flow_at key) (one_more choices group buckets from n)
        ∙ found-past-case from n (goes_there choices group from) (not_elsewhere from (λ e. omega arith)) (found-past n (from + 1) (omega arith))

    -- in the group of its bucket a key has what it has in its bucket
    pub found : (n from : ℕ) → goes_there choices group (bucket_for key) ≡ true → from ≤ bucket_for key → bucket_for key < from + n
        → flow_at key (flows_from choices group buckets from n) ≡ flow_at key (in_bucket buckets (bucket_for key))
    found zero from here low high = absurd (omega arith)
    found (suc n) from here low high =
        ap (flow_at key) (one_more choices group buckets from n)
        ∙ ⊎_elim
        (λ (same : from ≡ bucket_for key).
        rw (same, here) (found_first (in_bucket buckets (bucket_for key)) (flows_from choices group buckets (bucket_for key + 1) n) (found-past n (bucket_for key + 1) (omega arith))))
        (λ (other : from ≢ bucket_for key).
        found-rest from n (goes_there choices group from) (not_elsewhere from other) ∙ found n (from + 1) here (omega arith) (omega arith))
        (cases_eq from (bucket_for key))

-- ---- the flows of one bucket among those of its group

module _ (buckets : List (List Flow)) (placed : ArePlaced buckets) (bucket : ℕ) where
  abbrev pub stands_there : Flow → Bool
  stands_there flow = bucket_for flow.key == bucket

  all_stand : (flows : List Flow) → All (λ (flow : Flow). bucket_for flow.key ≡ bucket) flows → filter stands_there flows ≡ flows
  all_stand [] all = refl
  all_stand (flow ∷ flows) all =
      rw (
        eq-eqb (bucket_for flow.key) bucket (All-head (λ (f : Flow). bucket_for f.key ≡ bucket) flow flows all),
        all_stand flows (All-tail (λ (f : Flow). bucket_for f.key ≡ bucket) flow flows all),
      )
      refl

  none_stand : (x : ℕ) → x ≢ bucket → (flows : List Flow) → All (λ (flow : Flow). bucket_for flow.key ≡ x) flows → filter stands_there flows ≡ []
  none_stand x other [] all = refl
  none_stand x other (flow ∷ flows) all =
      rw (
        ne_eqb (bucket_for flow.key) bucket (λ same. other (sym (All-head (λ (f : Flow). bucket_for f.key ≡ x) flow flows all) ∙ same)),
        none_stand x other flows (All-tail (λ (f : Flow). bucket_for f.key ≡ x) flow flows all),
      )
      refl

  module _ (choices : List ℕ) (group : ℕ) where
    standing-rest : (from n : ℕ) (here : Bool) → from ≢ bucket
        → filter stands_there (and_rest choices group here (in_bucket buckets from) (flows_from choices group buckets (from + 1) n))
        ≡ filter stands_there (flows_from choices group buckets (from + 1) n)
    standing-rest from n true other =
        filter-append stands_there (in_bucket buckets from) (flows_from choices group buckets (from + 1) n)
        ∙ ap (λ (l : List Flow). l ++ filter stands_there (flows_from choices group buckets (from + 1) n)) (none_stand from other (in_bucket buckets from) (placed from))
    standing-rest from n false other = refl

    standing-past : (n from : ℕ) → bucket < from → filter stands_there (flows_from choices group buckets from n) ≡ []
    standing-past zero from past = refl
    standing-past (suc n) from past =
        ap (filter stands_there) (one_more choices group buckets from n)
        ∙ standing-rest from n (goes_there choices group from) (λ e. omega arith)
        ∙ standing-past n (from + 1) (omega arith)

    pub standing : (n from : ℕ) → goes_there choices group bucket ≡ true → from ≤ bucket → bucket < from + n
        → filter stands_there (flows_from choices group buckets from n) ≡ in_bucket buckets bucket
    standing zero from here low high = absurd (omega arith)
    standing (suc n) from here low high =
        ap (filter stands_there) (one_more choices group buckets from n)
        ∙ ⊎_elim
        (λ (same : from ≡ bucket).
        rw (same, here)
        (filter-append stands_there (in_bucket buckets bucket) (flows_from choices group buckets (bucket + 1) n)
        ∙ ap (λ (l : List Flow). filter stands_there (in_bucket buckets bucket) ++ l) (standing-past n (bucket + 1) (omega arith))
        ∙ append-nil (filter stands_there (in_bucket buckets bucket))
        ∙ all_stand (in_bucket buckets bucket) (placed bucket)))
        (λ (other : from ≢ bucket).
        standing-rest from n (goes_there choices group from) other ∙ standing n (from + 1) here (omega arith) (omega arith))
        (cases_eq from bucket)
