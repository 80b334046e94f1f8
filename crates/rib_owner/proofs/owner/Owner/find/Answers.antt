use Rattle.std.proofs.Common.{ℕ, ◌≡◌, ◌∙◌, ◌<◌, ◌/◌, true, Option, None, List, length, map, get_or, refl, sym, ap, subst, arith}
use Rattle.std.specs.Prelude.{option_map}
use Rattle.std.proofs.Math.ListN.{get_or-map}
use Rattle.std.proofs.lemmas.Bool.{cond-true, eq-eqb}
use Rattle.std.proofs.lemmas.List.{get_or_default}
use Rattle.flow_types.specs.declared.key.FlowKey.{FlowKey}
use Rattle.flow_types.specs.declared.record.Flow.{Flow}
use Rattle.flow_types.specs.Map.{flow_at}
use Rattle.flow_types.specs.Size.{value_bits}
use Rattle.hash_family.specs.Hash.{place}
use Rattle.group_search.specs.Home.{group_of}
use Rattle.rib_owner.specs.declared.block.Found.{Found}
use Rattle.rib_owner.specs.Part.{IsKeptPart, IsOwner}
use Rattle.rib_owner.specs.Rib.{Part, Rib, found_in, group_in, is_owned, map_in, no_part, node_and_record, part_of}
use Rattle.rib_owner.specs.Stock.{Stock, part_in}
use Rattle.rib_owner.proofs.Answering.{found_now}
use Rattle.rib_owner.proofs.KeysBucket.{bucket_of_place}
use Rattle.rib_owner.proofs.owner.Owner.find.Goals as goal

found_there : (rib : Rib) (stocks : List Stock) (key : FlowKey) (block bucket group index : ℕ) (stock : Stock) (found : Option Flow)
    → map part_in stocks ≡ rib.parts → index ≡ block / rib.size.nodes → index < length rib.parts → stock ≡ get_or stocks index stock
    → bucket ≡ (place rib.size.blocks key).bucket → group ≡ group_in (part_of rib block) rib.size.blocks key
    → found ≡ flow_at key (map_in (part_in stock) (group_of stock.choices bucket)) → found ≡ flow_at key (map_in (part_of rib block) group)
found_there rib stocks key block bucket group index stock found parts_are index_is inside stock_is bucket_is group_is found_is =
    let part_is : part_in stock ≡ part_of rib block =
    ap part_in stock_is ∙ sym (get_or-map part_in stocks index stock)
    ∙ ap (λ (ps : List Part). get_or ps index (part_in stock)) parts_are
    ∙ get_or_default rib.parts index (part_in stock) no_part inside
    ∙ ap (λ (i : ℕ). get_or rib.parts i no_part) index_is in
    found_is
    ∙ ap (λ (p : Part). flow_at key (map_in p (group_of p.choices bucket))) part_is
    ∙ ap (λ (g : ℕ). flow_at key (map_in (part_of rib block) g)) (ap (group_of (part_of rib block).choices) bucket_is ∙ sym group_is)

kept_there : (rib : Rib) (block index : ℕ) → IsOwner rib.size rib.number rib.parts → index ≡ block / rib.size.nodes → index < length rib.parts
    → IsKeptPart (value_bits rib.size.nodes) (part_of rib block)
kept_there rib block index sound index_is inside =
    subst (λ (i : ℕ). IsKeptPart (value_bits rib.size.nodes) (get_or rib.parts i no_part)) index_is (sound.kept index no_part inside)

pub find-requires : goal.find-requires
find-requires c = sym (c.spot-spot.ensures.bucket ∙ bucket_of_place c.args.self.now.size.blocks c.args.key)

same_in : (rib : Rib) (key : FlowKey) (block group : ℕ) → block ≡ (place rib.size.blocks key).block → group ≡ group_in (part_of rib block) rib.size.blocks key
    → flow_at key (map_in (part_of rib block) group) ≡ found_in rib key
same_in rib key block group block_is group_is =
    ap (λ (g : ℕ). flow_at key (map_in (part_of rib block) g)) group_is
    ∙ ap (λ (b : ℕ). flow_at key (map_in (part_of rib b) (group_in (part_of rib b) rib.size.blocks key))) block_is

pub returns-in-Some-clause-kept : goal.returns-in-Some-clause-kept
returns-in-Some-clause-kept c =
    let flow : option_map (λ (f : Found). f.flow) c.find.result ≡ flow_at c.args.key (map_in (part_of c.args.self.now c.spot-spot.result.block) c.spot-spot.result.group) =
    found_there c.args.self.now c.self.inside.blocks.items c.args.key c.spot-spot.result.block c.spot-spot.result.bucket c.spot-spot.result.group c.spot-spot.result.index
    c.index.result.now _ (ap (λ (r : Rib). r.parts) c.self.view_is) c.spot-spot.ensures.index c.spot-spot.ensures.inside c.index.ensures c.spot-spot.ensures.bucket
    c.spot-spot.ensures.group (c.find.ensures.flow ∙ c.find.ensures.in_group) in
    let owned : is_owned c.args.self.now.size c.args.self.now.number c.args.key ≡ true = eq-eqb _ _ (c.if-not-owns.ensures.0 refl) in
    ap (λ (o : Option Found). option_map node_and_record (option_map (λ (f : Found). f.flow) o)) (sym c.in-Some.is)
    ∙ ap (option_map node_and_record) (flow ∙ same_in c.args.self.now c.args.key c.spot-spot.result.block c.spot-spot.result.group c.spot-spot.ensures.block c.spot-spot.ensures.group)
    ∙ sym (cond-true (is_owned c.args.self.now.size c.args.self.now.number c.args.key) _ None owned)

pub returns-in-None-clause-kept : goal.returns-in-None-clause-kept
returns-in-None-clause-kept c =
    let flow : option_map (λ (f : Found). f.flow) c.find.result ≡ flow_at c.args.key (map_in (part_of c.args.self.now c.spot-spot.result.block) c.spot-spot.result.group) =
    found_there c.args.self.now c.self.inside.blocks.items c.args.key c.spot-spot.result.block c.spot-spot.result.bucket c.spot-spot.result.group c.spot-spot.result.index
    c.index.result.now _ (ap (λ (r : Rib). r.parts) c.self.view_is) c.spot-spot.ensures.index c.spot-spot.ensures.inside c.index.ensures c.spot-spot.ensures.bucket
    c.spot-spot.ensures.group (c.find.ensures.flow ∙ c.find.ensures.in_group) in
    let owned : is_owned c.args.self.now.size c.args.self.now.number c.args.key ≡ true = eq-eqb _ _ (c.if-not-owns.ensures.0 refl) in
    ap (λ (o : Option Found). option_map node_and_record (option_map (λ (f : Found). f.flow) o)) (sym c.in-None.is)
    ∙ ap (option_map node_and_record) (flow ∙ same_in c.args.self.now c.args.key c.spot-spot.result.block c.spot-spot.result.group c.spot-spot.ensures.block c.spot-spot.ensures.group)
    ∙ sym (cond-true (is_owned c.args.self.now.size c.args.self.now.number c.args.key) _ None owned)

pub returns-in-Some-clause-now : goal.returns-in-Some-clause-now
returns-in-Some-clause-now c flows is owned =
    let flow : option_map (λ (f : Found). f.flow) c.find.result ≡ flow_at c.args.key (map_in (part_of c.args.self.now c.spot-spot.result.block) c.spot-spot.result.group) =
    found_there c.args.self.now c.self.inside.blocks.items c.args.key c.spot-spot.result.block c.spot-spot.result.bucket c.spot-spot.result.group c.spot-spot.result.index
    c.index.result.now _ (ap (λ (r : Rib). r.parts) c.self.view_is) c.spot-spot.ensures.index c.spot-spot.ensures.inside c.index.ensures c.spot-spot.ensures.bucket
    c.spot-spot.ensures.group (c.find.ensures.flow ∙ c.find.ensures.in_group) in
    let low : (place c.args.self.now.size.blocks c.args.key).block < c.args.self.now.size.blocks = omega (arith, c.spot-spot.ensures.block, c.spot-spot.ensures.below) in
    let sound : IsOwner c.args.self.now.size c.args.self.now.number c.args.self.now.parts =
    subst (λ (r : Rib). IsOwner r.size r.number r.parts) c.self.view_is c.self.invariant.owner in
    let kept = kept_there c.args.self.now c.spot-spot.result.block c.spot-spot.result.index sound c.spot-spot.ensures.index c.spot-spot.ensures.inside in
    ap (λ (o : Option Found). option_map node_and_record (option_map (λ (f : Found). f.flow) o)) (sym c.in-Some.is)
    ∙ found_now c.args.self.now flows c.args.key c.spot-spot.result.block c.spot-spot.result.group (option_map (λ (f : Found). f.flow) c.find.result) is owned c.spot-spot.ensures.block low
    c.spot-spot.ensures.group c.spot-spot.ensures.in_range (kept.distinct c.spot-spot.result.group) flow

pub returns-in-None-clause-now : goal.returns-in-None-clause-now
returns-in-None-clause-now c flows is owned =
    let flow : option_map (λ (f : Found). f.flow) c.find.result ≡ flow_at c.args.key (map_in (part_of c.args.self.now c.spot-spot.result.block) c.spot-spot.result.group) =
    found_there c.args.self.now c.self.inside.blocks.items c.args.key c.spot-spot.result.block c.spot-spot.result.bucket c.spot-spot.result.group c.spot-spot.result.index
    c.index.result.now _ (ap (λ (r : Rib). r.parts) c.self.view_is) c.spot-spot.ensures.index c.spot-spot.ensures.inside c.index.ensures c.spot-spot.ensures.bucket
    c.spot-spot.ensures.group (c.find.ensures.flow ∙ c.find.ensures.in_group) in
    let low : (place c.args.self.now.size.blocks c.args.key).block < c.args.self.now.size.blocks = omega (arith, c.spot-spot.ensures.block, c.spot-spot.ensures.below) in
    let sound : IsOwner c.args.self.now.size c.args.self.now.number c.args.self.now.parts =
    subst (λ (r : Rib). IsOwner r.size r.number r.parts) c.self.view_is c.self.invariant.owner in
    let kept = kept_there c.args.self.now c.spot-spot.result.block c.spot-spot.result.index sound c.spot-spot.ensures.index c.spot-spot.ensures.inside in
    ap (λ (o : Option Found). option_map node_and_record (option_map (λ (f : Found). f.flow) o)) (sym c.in-None.is)
    ∙ found_now c.args.self.now flows c.args.key c.spot-spot.result.block c.spot-spot.result.group (option_map (λ (f : Found). f.flow) c.find.result) is owned c.spot-spot.ensures.block low
    c.spot-spot.ensures.group c.spot-spot.ensures.in_range (kept.distinct c.spot-spot.result.group) flow
