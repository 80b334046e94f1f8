use Rattle.std.proofs.Common.{◌≡◌, ◌∙◌, ℕ, List, Option, Some, None, length, set, ap, subst, sym, arith}
use Rattle.std.specs.Prelude.{IfSome, IsPermutation}
use Rattle.std.specs.List.{slice_get}
use Rattle.bucket_arena.specs.Arena.{item_count}
use Rattle.flow_types.specs.declared.record.Record.{Record}
use Rattle.flow_types.specs.declared.record.Flow.{Flow}
use Rattle.flow_types.specs.Map.{flow_at, without}
use Rattle.group_search.specs.Home.{group_of}
use Rattle.group_history.specs.Change.{step, with_at}
use Rattle.group_history.specs.Acceptance.{keys_in}
use Rattle.rib_owner.specs.Rib.{map_in}
use Rattle.rib_owner.specs.declared.block.Found.{Found}
use Rattle.rib_owner.specs.Stock.{ArePlaced, Stock, part_in, standing_in}
use Rattle.rib_owner.proofs.BucketChanges.{found_in_group, map_stepped, maps_changed, put_removed, standing_there}
use Rattle.rib_owner.proofs.Buckets.{in_bucket}
use Rattle.rib_owner.proofs.DistinctKeys.{distinct_bucket}
use Rattle.rib_owner.proofs.GroupMaps.{all_flows}
use Rattle.rib_owner.proofs.block.OwnedBlock.change.Goals as goal
use Rattle.rib_owner.proofs.block.OwnedBlock.change.Goals.{After-put, In_default}

pub remove-requires-clause-flow : goal.remove-requires-clause-flow
remove-requires-clause-flow c =
    let each : length c.args.self.now.arena.buckets ≡ 256 = subst (λ (s : Stock). length s.arena.buckets ≡ 256) c.self.view_is c.self.invariant.one_list_each in
    let placed : ArePlaced c.args.self.now.arena.buckets = subst (λ (s : Stock). ArePlaced s.arena.buckets) c.self.view_is c.self.invariant.placed in
    let there : flow_at c.args.change.now.key (in_bucket c.args.self.now.arena.buckets c.args.bucket)
    ≡ flow_at c.args.change.now.key (map_in (part_in c.args.self.now) (group_of c.args.self.now.choices c.args.bucket)) =
    rw (← c.requires.bucket) (found_in_group c.args.self.now.choices c.args.self.now.arena.buckets (omega (arith, each)) placed c.args.change.now.key) in
    c.requires.found.flow ∙ sym there
    ∙ ap (λ (s : Stock). flow_at c.args.change.now.key (in_bucket s.arena.buckets c.args.bucket)) (sym c.set_rows.ensures)

pub remove-requires-clause-place : goal.remove-requires-clause-place
remove-requires-clause-place c =
    let each : length c.args.self.now.arena.buckets ≡ 256 = subst (λ (s : Stock). length s.arena.buckets ≡ 256) c.self.view_is c.self.invariant.one_list_each in
    let placed : ArePlaced c.args.self.now.arena.buckets = subst (λ (s : Stock). ArePlaced s.arena.buckets) c.self.view_is c.self.invariant.placed in
    let there : standing_in (part_in c.args.self.now) (group_of c.args.self.now.choices c.args.bucket) c.args.bucket ≡ in_bucket c.args.self.now.arena.buckets c.args.bucket =
    rw (← c.requires.bucket) (standing_there c.args.self.now.choices c.args.self.now.arena.buckets (omega (arith, each)) placed c.args.change.now.key) in
    subst (λ (l : List Flow). IfSome c.args.found (λ (it : Found). slice_get l it.place ≡ Some it.flow))
    (there ∙ ap (λ (s : Stock). in_bucket s.arena.buckets c.args.bucket) (sym c.set_rows.ensures)) c.requires.found.place

pub remove-requires-clause-distinct : goal.remove-requires-clause-distinct
remove-requires-clause-distinct c =
    rw c.set_rows.ensures
    (distinct_bucket c.args.self.now.choices c.args.self.now.arena.buckets c.args.bucket (omega arith) c.requires.distinct)

pub put-requires-clause-few : goal.put-requires-clause-few
put-requires-clause-few c =
    let whole : keys_in (map_in (part_in c.args.self.now)) ≡ item_count c.args.self.now.arena =
    subst (λ (s : Stock). keys_in (map_in (part_in s)) ≡ item_count s.arena) c.self.view_is
    (all_flows c.self.inside.choices c.self.inside.arena.buckets c.self.invariant.one_list_each) in
    let before : item_count c.set_rows.new.self.arena ≡ item_count c.args.self.now.arena = ap (λ (s : Stock). item_count s.arena) c.set_rows.ensures in
    omega (arith, whole, before, c.remove.ensures.count, c.requires.few)

-- the bucket where the key goes
entered : (c : After-put) → c.put.new.self.arena.buckets
    ≡ set c.args.self.now.arena.buckets c.args.bucket (with_at c.args.change.now.key (Some (c.in-Some.node, c.in-Some.info)) (in_bucket c.args.self.now.arena.buckets c.args.bucket))
entered c =
    let each : length c.args.self.now.arena.buckets ≡ 256 = subst (λ (s : Stock). length s.arena.buckets ≡ 256) c.self.view_is c.self.invariant.one_list_each in
    put_removed c.args.self.now.arena.buckets c.remove.new.self.arena.buckets c.put.new.self.arena.buckets c.args.bucket c.args.change.now.key (c.in-Some.node, c.in-Some.info)
    (omega arith)
    (c.remove.ensures.buckets ∙ ap (λ (s : Stock). set s.arena.buckets c.args.bucket (without c.args.change.now.key (in_bucket s.arena.buckets c.args.bucket))) c.set_rows.ensures)
    c.put.ensures.buckets

pub returns-in-Some-clause-maps : goal.returns-in-Some-clause-maps
returns-in-Some-clause-maps c =
    maps_changed c.args.self.now.choices c.put.new.self.choices c.args.self.now.arena.buckets c.put.new.self.arena.buckets c.args.bucket _
    (c.put.ensures.choices ∙ c.remove.ensures.choices ∙ ap (λ (s : Stock). s.choices) c.set_rows.ensures)
    (entered c)

pub returns-in-Some-clause-map : goal.returns-in-Some-clause-map
unfolding step
returns-in-Some-clause-map c =
    let each : length c.args.self.now.arena.buckets ≡ 256 = subst (λ (s : Stock). length s.arena.buckets ≡ 256) c.self.view_is c.self.invariant.one_list_each in
    let placed : ArePlaced c.args.self.now.arena.buckets = subst (λ (s : Stock). ArePlaced s.arena.buckets) c.self.view_is c.self.invariant.placed in
    let stepped = map_stepped c.args.self.now.choices c.put.new.self.choices c.args.self.now.arena.buckets c.put.new.self.arena.buckets c.args.bucket c.args.change.now.key
    (Some (c.in-Some.node, c.in-Some.info)) c.requires.bucket each placed
    (c.put.ensures.choices ∙ c.remove.ensures.choices ∙ ap (λ (s : Stock). s.choices) c.set_rows.ensures) (entered c) in
    subst
    (λ (to : Option (ℕ × Record)).
    IsPermutation (with_at c.args.change.now.key to (map_in (part_in c.args.self.now) (group_of c.args.self.now.choices c.args.bucket)))
    (map_in (part_in c.put.new.self) (group_of c.args.self.now.choices c.args.bucket)))
    (sym c.in-Some.is) stepped

-- the bucket that the key leaves
left : (c : In_default) → c.remove.new.self.arena.buckets
    ≡ set c.args.self.now.arena.buckets c.args.bucket (with_at c.args.change.now.key None (in_bucket c.args.self.now.arena.buckets c.args.bucket))
left c = c.remove.ensures.buckets ∙ ap (λ (s : Stock). set s.arena.buckets c.args.bucket (without c.args.change.now.key (in_bucket s.arena.buckets c.args.bucket))) c.set_rows.ensures

pub returns-in_default-clause-maps : goal.returns-in_default-clause-maps
returns-in_default-clause-maps c =
    maps_changed c.args.self.now.choices c.remove.new.self.choices c.args.self.now.arena.buckets c.remove.new.self.arena.buckets c.args.bucket _
    (c.remove.ensures.choices ∙ ap (λ (s : Stock). s.choices) c.set_rows.ensures)
    (left c)

pub returns-in_default-clause-map : goal.returns-in_default-clause-map
unfolding step
returns-in_default-clause-map c =
    let each : length c.args.self.now.arena.buckets ≡ 256 = subst (λ (s : Stock). length s.arena.buckets ≡ 256) c.self.view_is c.self.invariant.one_list_each in
    let placed : ArePlaced c.args.self.now.arena.buckets = subst (λ (s : Stock). ArePlaced s.arena.buckets) c.self.view_is c.self.invariant.placed in
    let stepped = map_stepped c.args.self.now.choices c.remove.new.self.choices c.args.self.now.arena.buckets c.remove.new.self.arena.buckets c.args.bucket c.args.change.now.key
    None c.requires.bucket each placed
    (c.remove.ensures.choices ∙ ap (λ (s : Stock). s.choices) c.set_rows.ensures) (left c) in
    subst
    (λ (to : Option (ℕ × Record)).
    IsPermutation (with_at c.args.change.now.key to (map_in (part_in c.args.self.now) (group_of c.args.self.now.choices c.args.bucket)))
    (map_in (part_in c.remove.new.self) (group_of c.args.self.now.choices c.args.bucket)))
    (sym c.in_default.is) stepped
