use Rattle.std.proofs.Common.{◌≡◌, ◌∙◌, ◌++◌, ◌∷◌, [], List, length, set, ap, subst, arith}
use Rattle.std.specs.List.{sum_by}
use Rattle.bucket_arena.specs.Arena.{item_count}
use Rattle.flow_types.specs.declared.record.Flow.{Flow}
use Rattle.group_history.specs.Acceptance.{keys_in}
use Rattle.rib_owner.specs.Rib.{map_in}
use Rattle.rib_owner.specs.Stock.{Stock, part_in}
use Rattle.rib_owner.proofs.BucketChanges.{map_put, maps_changed}
use Rattle.rib_owner.proofs.Buckets.{in_bucket}
use Rattle.rib_owner.proofs.GroupMaps.{all_flows}
use Rattle.rib_owner.proofs.block.OwnedBlock.push.Goals as goal
use Rattle.rib_owner.proofs.block.OwnedBlock.push.Goals.{After-put}

pub put-requires-clause-few : goal.put-requires-clause-few
put-requires-clause-few c =
    let whole : keys_in (map_in (part_in c.args.self.now)) ≡ item_count c.args.self.now.arena =
    subst (λ (s : Stock). keys_in (map_in (part_in s)) ≡ item_count s.arena) c.self.view_is
    (all_flows c.self.inside.choices c.self.inside.arena.buckets c.self.invariant.one_list_each) in
    let same : item_count c.reserve.new.self.arena ≡ item_count c.args.self.now.arena = ap (λ (ls : List (List Flow)). sum_by length ls) c.reserve.ensures.buckets in
    omega (arith, whole, same, c.requires.few)

entered : (c : After-put) → c.put.new.self.arena.buckets
    ≡ set c.args.self.now.arena.buckets c.args.bucket (in_bucket c.args.self.now.arena.buckets c.args.bucket ++ c.args.flow ∷ [])
entered c =
    c.put.ensures.buckets
    ∙ ap (λ (ls : List (List Flow)). set ls c.args.bucket (in_bucket ls c.args.bucket ++ c.args.flow ∷ [])) c.reserve.ensures.buckets

pub returns-clause-maps : goal.returns-clause-maps
returns-clause-maps c =
    maps_changed c.args.self.now.choices c.put.new.self.choices c.args.self.now.arena.buckets c.put.new.self.arena.buckets c.args.bucket _
    (c.put.ensures.choices ∙ c.reserve.ensures.choices) (entered c)

pub returns-clause-map : goal.returns-clause-map
returns-clause-map c =
    let each : length c.args.self.now.arena.buckets ≡ 256 = subst (λ (s : Stock). length s.arena.buckets ≡ 256) c.self.view_is c.self.invariant.one_list_each in
    map_put c.args.self.now.choices c.put.new.self.choices c.args.self.now.arena.buckets c.put.new.self.arena.buckets c.args.bucket c.args.flow (omega arith) each
    (c.put.ensures.choices ∙ c.reserve.ensures.choices) (entered c)
