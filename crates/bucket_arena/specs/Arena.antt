-- What a contract sees of an arena.
use Rattle.std.specs.Prelude.{◌≡◌, ℕ, ◌+◌, ◌-◌, ◌*◌, ◌≤◌, ◌⊎◌, List, [], length, map, min, get_or, Option, refl}
use Rattle.std.specs.List.{sum_by}
use Rattle.std.specs.Coded.{Coded, code_by, coded×, coded_list, coded_ℕ}
use Rattle.bucket_arena.specs.declared.chain.Cell.{Cell}
use Rattle.bucket_arena.specs.declared.chain.Chain.{Chain}
use Rattle.bucket_arena.specs.Chains.{cell_at, cell_limit, items}

-- the lists, one a bucket, and how many items can be pushed before memory is asked for
pub record Buckets (X : Type 0) : Type 0 where
  pub buckets : List (List X)
  pub spare : ℕ

module _ {X : Type 0} where
  abbrev pub buckets_code : Coded X → Coded (Buckets X)
  buckets_code c = code_by (List (List X) × ℕ) (coded× (coded_list (coded_list c)) coded_ℕ) (λ b. (b.buckets, b.spare)) (λ p. record { buckets = p.0; spare = p.1 }) (λ _. refl)

  -- the list of a bucket
  abbrev pub bucket_of : Buckets X → ℕ → List X
  bucket_of arena bucket = get_or arena.buckets bucket []

  -- how many items stand in the buckets
  abbrev pub item_count : Buckets X → ℕ
  item_count arena = sum_by length arena.buckets

  -- nothing grew, or the room for items at least doubled, up to the most that numbers of 32 bits allow
  abbrev pub HasGrown : Buckets X → Buckets X → Type 0
  HasGrown before after = (after.spare ≡ before.spare) ⊎ (min (2 * (item_count before + before.spare)) (cell_limit - 1) ≤ item_count after + after.spare)

  -- the lists of the chains' items
  abbrev pub lists_of : List (Option (Cell X)) → List Chain → List (List X)
  lists_of cells chains = map (items (cell_at cells)) chains

  -- the free cells, and the room that was never written
  abbrev pub spare_of : List (Option (Cell X)) → Chain → ℕ → ℕ
  spare_of cells free made = free.len + (length cells - made)
