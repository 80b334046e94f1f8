-- What the change of a judged update leaves of its block and of its owner.
use Rattle.std.proofs.Common.{ℕ, ◌≡◌, ◌∙◌, ◌≤◌, ◌<◌, ◌++◌, ◌∷◌, [], List, set, sym, ap, subst, arith}
use Rattle.flow_types.specs.declared.key.FlowKey.{FlowKey}
use Rattle.flow_types.specs.declared.record.Flow.{Flow}
use Rattle.flow_types.specs.Map.{AreDistinct}
use Rattle.flow_types.specs.Size.{value_bits}
use Rattle.hash_family.specs.Hash.{place}
use Rattle.group_search.specs.Canon.{rows_in}
use Rattle.group_search.specs.Home.{group_of}
use Rattle.group_history.specs.declared.change.Change.{Change}
use Rattle.group_history.specs.Acceptance.{keys_in, updated_key}
use Rattle.rib_owner.specs.declared.decision.Decision.{Decision}
use Rattle.rib_owner.specs.Decision.{IsFoundAt, IsDecided}
use Rattle.rib_owner.specs.Part.{IsKeptPart, IsOwner, rows_taken}
use Rattle.rib_owner.specs.Rib.{IsRibOf, Part, Rib, map_in}
use Rattle.rib_owner.specs.Stock.{Stock, bucket_for, part_in}
use Rattle.rib_owner.proofs.Accepting.{IsChanged, found_kept, seen_owner, seen_stands}

module _ (rib : Rib) (decision : Decision) (is : IsDecided rib decision) (sound : IsOwner rib.size rib.number rib.parts) where
  kept_part : IsKeptPart (value_bits rib.size.nodes) is.part
  kept_part = found_kept rib is.update decision.spot.block decision.spot.group decision.spot.index is.part decision.turn.change is.seen is.owned is.some_node sound

  key_is : decision.turn.change.key ≡ updated_key is.update
  key_is = ap (λ (c : Change). c.key) is.seen.change_is

  pub bucket_there : bucket_for decision.turn.change.key ≡ decision.spot.bucket
  bucket_there = ap bucket_for key_is ∙ sym is.bucket

  -- the block that is to be changed
  module _ (stock : Stock) (here : part_in stock ≡ is.part) where
    pub few_here : keys_in (map_in (part_in stock)) ≤ 1536
    few_here = subst (λ (p : Part). keys_in (map_in p) ≤ 1536) (sym here) kept_part.few

    pub few_rows_here : rows_taken (part_in stock) ≤ 64
    few_rows_here = subst (λ (p : Part). rows_taken p ≤ 64) (sym here) kept_part.few_rows

    pub distinct_here : (group : ℕ) → AreDistinct (map_in (part_in stock) group)
    distinct_here group = subst (λ (p : Part). AreDistinct (map_in p group)) (sym here) (kept_part.distinct group)

    group_here : group_of stock.choices decision.spot.bucket ≡ decision.spot.group
    group_here = ap (λ (p : Part). group_of p.choices decision.spot.bucket) here ∙ sym is.in_group

    pub found_here : IsFoundAt (part_in stock) (group_of stock.choices decision.spot.bucket) decision.spot.bucket decision.turn.change.key decision.found
    found_here =
        subst (λ (p : Part). IsFoundAt p (group_of stock.choices decision.spot.bucket) decision.spot.bucket decision.turn.change.key decision.found) (sym here)
        (subst (λ (g : ℕ). IsFoundAt is.part g decision.spot.bucket decision.turn.change.key decision.found) (sym group_here)
        (subst (λ (k : FlowKey). IsFoundAt is.part decision.spot.group decision.spot.bucket k decision.found) (sym key_is) is.found))

  -- the owner with the block changed
  module _ (last : Part) (rows : ℕ) (is_changed : IsChanged is.part last decision.spot.group rows decision.turn.change) where
    pub owner_after : rows ≡ rows_in decision.turn.content → IsOwner rib.size rib.number (set rib.parts decision.spot.index last)
    owner_after rows_are =
        seen_owner rib is.update decision.spot.block decision.spot.group decision.spot.index is.part decision.turn.change is.seen is.owned is.some_node sound is.there
        decision.turn.content (map_in last decision.spot.group) rows last is_changed.map_is is.content rows_are is.room is_changed.part_is

    pub stands_after : (flows : List Flow) → IsRibOf rib.size flows rib → (new : Rib) → new.size ≡ rib.size → new.number ≡ rib.number
        → new.parts ≡ set rib.parts decision.spot.index last → new.journal.changes ≡ rib.journal.changes ++ decision.turn.change ∷ [] → IsRibOf rib.size flows new
    stands_after flows stands new size_is number_is parts_are changes_are =
        let low : (place rib.size.blocks (updated_key is.update)).block < rib.size.blocks = omega (arith, is.seen.block_is, is.below) in
        seen_stands rib is.update decision.spot.block decision.spot.group decision.spot.index is.part decision.turn.change is.seen is.owned is.some_node sound
        low flows stands new (map_in last decision.spot.group) rows last size_is number_is parts_are is_changed.part_is is_changed.map_is changes_are
